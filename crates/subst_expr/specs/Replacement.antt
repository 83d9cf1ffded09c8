-- The replacement of a substitution as a list of literal bytes and back references (RFC 3402, section 3.2).
use Rattle.std.specs.Prelude.{◌≡◌, ℕ, ◌+◌, ◌-◌, ◌&&◌, nat_le, nat_lt, Bool, if◌then◌else◌, List, [], ◌∷◌, ◌++◌, take, drop, slice_index_or, Option, Some, None}
use Rattle.subst_expr.specs.Pieces.{Piece, Plain, Pair, IsPart, spelled}
use Rattle.subst_expr.specs.declared.subst.Subst.{Subst}
use Rattle.submatch.specs.declared.spans.Span.{Span}

-- the pieces that the replacement of a split is written with
pub record HasPieces (s : Subst) (pieces : List Piece) : Type 0 where
  pub part : IsPart s.delim pieces
  pub spelt : s.repl ≡ spelled pieces

-- the digits from 1 to 9, which after a backslash name a group
abbrev pub is_group_digit : ℕ → Bool
is_group_digit b = nat_le 49 b && nat_le b 57

-- the bytes of the original string that a span takes, and none where there is no span
abbrev pub taken : List ℕ → Option Span → List ℕ
taken aus None = []
taken aus (Some span) = drop span.from (take span.to aus)

-- the bytes that a group took
abbrev pub group_taken : List ℕ → List (Option Span) → ℕ → List ℕ
group_taken aus groups k = taken aus (slice_index_or groups (k - 1) None)

-- what a backslash and the byte after it give: a back reference the bytes that its group took, any other byte itself
abbrev pub pair_given : List ℕ → List (Option Span) → ℕ → List ℕ
pair_given aus groups b = if is_group_digit b then group_taken aus groups (b - 48) else b ∷ []

-- what pieces give, one after another
abbrev pub expansion : List ℕ → List (Option Span) → List Piece → List ℕ
expansion aus groups [] = []
expansion aus groups (Plain b ∷ pieces) = b ∷ expansion aus groups pieces
expansion aus groups (Pair b ∷ pieces) = pair_given aus groups b ++ expansion aus groups pieces

-- the place of the first back reference past the last group, in pieces that begin at a place
abbrev pub first_missing : ℕ → ℕ → List Piece → Option ℕ
first_missing groups at [] = None
first_missing groups at (Plain b ∷ pieces) = first_missing groups (at + 1) pieces
first_missing groups at (Pair b ∷ pieces) =
    if is_group_digit b && nat_lt groups (b - 48) then Some at else first_missing groups (at + 2) pieces
