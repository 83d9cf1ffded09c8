-- Character-strings (RFC 1035, sections 3.3 and 5.1).
use Rattle.std.specs.Prelude.{ℕ, zero, suc, List, [], ◌∷◌, length, nat_le, if◌then◌else◌, Option, Some, None, option_and_then}
use Rattle.zone_token.specs.Bytes.{first_byte}

infixl 10 ◌>>=◌
abbrev pub ◌>>=◌ : {A B : Type 0} → Option A → (A → Option B) → Option B
o >>= f = option_and_then f o

-- the bytes that a text stands for after some skipped bytes, if its escapes are well-formed
unfoldable pub undone_from : ℕ → List ℕ → Option (List ℕ)
undone_from skipped [] = Some []
undone_from (suc skipped) (byte ∷ rest) = undone_from skipped rest
undone_from zero (byte ∷ rest) = do
  first ← first_byte (byte ∷ rest)
  bytes ← undone_from first.1 rest
  Some (first.0 ∷ bytes)

-- the character-string that a text stands for: at most 255 bytes
unfoldable pub string_of : List ℕ → Option (List ℕ)
string_of text = do
  bytes ← undone_from 0 text
  if nat_le (length bytes) 255 then Some bytes else None
