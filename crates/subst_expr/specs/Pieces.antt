-- The bytes of a substitution, read in pairs (RFC 3402, section 3.2; the rules on delimiters and escapes are this project's own).
use Rattle.std.specs.Prelude.{◌≢◌, ℕ, ◌+◌, ◌==◌, ◌&&◌, ◌||◌, not, nat_le, Bool, List, [], ◌∷◌, ◌++◌, Option, Some, None, if◌then◌else◌, ⊤}
use Rattle.std.specs.Char.{is_ascii_alphanumeric, is_ascii_graphic}
use Rattle.std.specs.List.{list_any}
use Rattle.std.specs.Prelude.{codes}
pub use Rattle.enum_base.specs.Escapes.{backslash}
pub use Rattle.posix_ere.specs.Ascii.{is_printable}

-- a byte that stands for itself, or a backslash and the byte after it
pub data Piece : Type 0 where
  Plain : ℕ → Piece
  Pair : ℕ → Piece

-- the bytes that pieces are written with
abbrev pub spelled : List Piece → List ℕ
spelled [] = []
spelled (Plain b ∷ pieces) = b ∷ spelled pieces
spelled (Pair b ∷ pieces) = backslash ∷ b ∷ spelled pieces

-- pieces among which no delimiter stands alone, and no backslash
abbrev pub IsPart : ℕ → List Piece → Type 0
IsPart delim [] = ⊤
IsPart delim (Plain b ∷ pieces) = (b ≢ delim) × (b ≢ backslash) × IsPart delim pieces
IsPart delim (Pair b ∷ pieces) = IsPart delim pieces

-- the bytes with each escaped delimiter as the delimiter alone
abbrev pub undone : ℕ → List Piece → List ℕ
undone delim [] = []
undone delim (Plain b ∷ pieces) = b ∷ undone delim pieces
undone delim (Pair b ∷ pieces) = (if b == delim then delim ∷ [] else backslash ∷ b ∷ []) ++ undone delim pieces

-- the bytes with a meaning of their own in an expression
abbrev pub is_special : ℕ → Bool
is_special b = list_any (λ special. special == b) (codes "\\^.[]$()|*+?{}")

-- a printable byte that is no blank, digit, letter or special byte
abbrev pub is_delimiter : ℕ → Bool
is_delimiter b = is_ascii_graphic b && not (is_ascii_alphanumeric b) && not (is_special b)

-- `i` or `I`, the flags
abbrev pub is_flag : ℕ → Bool
is_flag b = b == 105 || b == 73

-- what may stand after a backslash in a replacement: a backslash, the delimiter, or a digit from 1 to 9
abbrev pub is_escape : ℕ → ℕ → Bool
is_escape delim b = b == backslash || b == delim || (nat_le 49 b && nat_le b 57)

-- the place of the first pair that is no escape, in pieces that begin at a place
abbrev pub bad_escape : ℕ → ℕ → List Piece → Option ℕ
bad_escape delim at [] = None
bad_escape delim at (Plain b ∷ pieces) = bad_escape delim (at + 1) pieces
bad_escape delim at (Pair b ∷ pieces) = if is_escape delim b then bad_escape delim (at + 2) pieces else Some at
