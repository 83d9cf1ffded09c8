-- What one pass over the bytes finds; a byte is escaped where the byte before it begins a pair (this project's own).
use Rattle.std.specs.Prelude.{ℕ, ◌+◌, ◌-◌, ◌==◌, ◌&&◌, nat_lt, Bool, true, false, cond, List, [], ◌∷◌, ◌++◌, length}
use Rattle.std.specs.Prelude.{take, drop, option_map, Option, Some, None, Result, Ok}
use Rattle.subst_expr.specs.Pieces.{backslash, is_escape}
use Rattle.subst_expr.specs.Replacement.{is_group_digit, pair_given}
use Rattle.subst_expr.specs.Split.{fault_or, bad_flag}
use Rattle.submatch.specs.declared.spans.Span.{Span}
use Rattle.subst_expr.specs.declared.subst.Subst.{Subst}
use Rattle.subst_expr.specs.declared.subst.SubstFault.{SubstFault}
use Rattle.subst_expr.specs.declared.subst.SubstFault.TheVariants.{BadFlag, BadEscape}

-- the place of the first delimiter that is not escaped, in bytes that begin at a place
abbrev pub delimiter_from : ℕ → Bool → ℕ → List ℕ → Option ℕ
delimiter_from delim escaped at [] = None
delimiter_from delim true at (b ∷ rest) = delimiter_from delim false (at + 1) rest
delimiter_from delim false at (b ∷ rest) =
    cond (b == delim) (Some at) (delimiter_from delim (b == backslash) (at + 1) rest)

-- the bytes before the first delimiter that is not escaped, and those after it
abbrev pub halves : ℕ → List ℕ → Option (List ℕ × List ℕ)
halves delim bytes = option_map (λ at. (take at bytes, drop (at + 1) bytes)) (delimiter_from delim false 0 bytes)

-- the place of the first backslash that begins no escape
abbrev pub bad_escape_from : ℕ → Bool → ℕ → List ℕ → Option ℕ
bad_escape_from delim escaped at [] = None
bad_escape_from delim true at (b ∷ rest) =
    cond (is_escape delim b) (bad_escape_from delim false (at + 1) rest) (Some (at - 1))
bad_escape_from delim false at (b ∷ rest) = bad_escape_from delim (b == backslash) (at + 1) rest

-- the bytes without the backslashes before escaped delimiters
abbrev pub undone_from : ℕ → Bool → List ℕ → List ℕ
undone_from delim escaped [] = []
undone_from delim true (b ∷ rest) =
    cond (b == delim) (b ∷ undone_from delim false rest) (backslash ∷ b ∷ undone_from delim false rest)
undone_from delim false (b ∷ rest) =
    cond (b == backslash) (undone_from delim true rest) (b ∷ undone_from delim false rest)

-- the place of the first backslash that names a group past the last
abbrev pub missing_from : ℕ → Bool → ℕ → List ℕ → Option ℕ
missing_from groups escaped at [] = None
missing_from groups true at (b ∷ rest) =
    cond (is_group_digit b && nat_lt groups (b - 48)) (Some (at - 1)) (missing_from groups false (at + 1) rest)
missing_from groups false at (b ∷ rest) = missing_from groups (b == backslash) (at + 1) rest

-- what the bytes of a replacement give
abbrev pub expansion_from : List ℕ → List (Option Span) → Bool → List ℕ → List ℕ
expansion_from aus groups escaped [] = []
expansion_from aus groups true (b ∷ rest) = pair_given aus groups b ++ expansion_from aus groups false rest
expansion_from aus groups false (b ∷ rest) =
    cond (b == backslash) (expansion_from aus groups true rest) (b ∷ expansion_from aus groups false rest)

-- the answer for a text whose parts have those bytes
abbrev pub split_at : ℕ → List ℕ → List ℕ → List ℕ → Result Subst SubstFault
split_at delim ere repl flags =
    fault_or (bad_flag (2 + length ere + length repl + 1) flags) BadFlag
    (fault_or (bad_escape_from delim false (2 + length ere) repl) BadEscape
    (Ok (record {
      ere = undone_from delim false ere;
      repl = repl;
      repl_at = 2 + length ere;
      delim = delim;
      fold = nat_lt 0 (length flags);
    })))
