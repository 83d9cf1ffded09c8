-- The split of a substitution into expression, replacement and flags (RFC 3402, section 3.2), and the first fault of a text
-- that has none (this project's own).
use Rattle.std.specs.Prelude.{◌≡◌, ◌⊎◌, ℕ, ◌+◌, not, List, [], ◌∷◌, ◌++◌, length, position, option_map, nat_lt, Option}
use Rattle.std.specs.Prelude.{Some, None, Result, Ok, Err, MatchOption, MatchBool}
use Rattle.subst_expr.specs.Pieces.{Piece, spelled, undone, IsPart, backslash, bad_escape, is_printable, is_delimiter, is_flag}
use Rattle.subst_expr.specs.declared.subst.Subst.{Subst}
use Rattle.subst_expr.specs.declared.subst.SubstFault.{SubstFault}
use Rattle.subst_expr.specs.declared.subst.SubstFault.TheVariants.{Empty, NotPrintable, BadDelimiter, MissingDelimiter, BadFlag, BadEscape}

-- how the bytes after the first delimiter are divided by further ones: into an expression and an end, with a replacement
-- before the end, or with a replacement and flags
pub data Division : Type 0 where
  Undivided : List Piece → List ℕ → Division
  Halved : List Piece → List Piece → List ℕ → Division
  Whole : List Piece → List Piece → List ℕ → Division

-- an end has no byte, or a backslash with none after it
abbrev pub IsEnd : List ℕ → Type 0
IsEnd end = (end ≡ []) ⊎ (end ≡ backslash ∷ [])

-- the bytes are divided so
abbrev pub Divides : ℕ → List ℕ → Division → Type 0
Divides delim bytes (Undivided ere end) = IsPart delim ere × IsEnd end × (bytes ≡ spelled ere ++ end)
Divides delim bytes (Halved ere repl end) =
    IsPart delim ere × IsPart delim repl × IsEnd end × (bytes ≡ spelled ere ++ delim ∷ (spelled repl ++ end))
Divides delim bytes (Whole ere repl flags) =
    IsPart delim ere × IsPart delim repl × (bytes ≡ spelled ere ++ delim ∷ (spelled repl ++ delim ∷ flags))

-- a fault at a place that was found, or else that answer
abbrev pub fault_or : Option ℕ → (ℕ → SubstFault) → Result Subst SubstFault → Result Subst SubstFault
fault_or None fault answer = answer
fault_or (Some at) fault answer = Err (fault at)

-- the place of the first byte that is no flag, in bytes that begin at a place
abbrev pub bad_flag : ℕ → List ℕ → Option ℕ
bad_flag at flags = option_map (λ k. at + k) (position (λ b. not (is_flag b)) flags)

-- the place of the replacement after that expression, and that of the flags after it
abbrev pub repl_place : List Piece → ℕ
repl_place ere = 2 + length (spelled ere)

abbrev pub flags_place : List Piece → List Piece → ℕ
flags_place ere repl = repl_place ere + length (spelled repl) + 1

-- the answer for a text with that delimiter and division
abbrev pub split_of : ℕ → Division → Result Subst SubstFault
split_of delim (Undivided ere end) = Err (MissingDelimiter 1)
split_of delim (Halved ere repl end) = Err (MissingDelimiter 2)
split_of delim (Whole ere repl flags) =
    fault_or (bad_flag (flags_place ere repl) flags) BadFlag
    (fault_or (bad_escape delim (repl_place ere) repl) BadEscape
    (Ok (record {
      ere = undone delim ere;
      repl = spelled repl;
      repl_at = repl_place ere;
      delim = delim;
      fold = nat_lt 0 (length flags);
    })))

-- the answer for the bytes after the first delimiter
abbrev pub SplitsRest : ℕ → List ℕ → Result Subst SubstFault → Type 0
SplitsRest delim rest result = (division : Division) × Divides delim rest division × (result ≡ split_of delim division)

-- the answer for a text: its first fault in the order of the faults, or its split
abbrev pub Splits : List ℕ → Result Subst SubstFault → Type 0
Splits [] result = result ≡ Err Empty
Splits (delim ∷ rest) result =
    MatchOption (position (λ b. not (is_printable b)) (delim ∷ rest))
    (MatchBool (is_delimiter delim) (SplitsRest delim rest result) (result ≡ Err BadDelimiter))
    (λ at. result ≡ Err (NotPrintable at))
