-- Bytes, and texts of at most 255 of them (RFC 1035, sections 2.3.4 and 3.3).
use Rattle.std.specs.Prelude.{ℕ, ◌<◌, ◌≤◌, List, length}
use Rattle.std.specs.List.{AllByRecursion}

-- a byte
abbrev pub IsByte : ℕ → Type 0
IsByte b = b < 256

-- bytes
abbrev pub AreBytes : List ℕ → Type 0
AreBytes bytes = AllByRecursion IsByte bytes

-- a text of at most 255 bytes, as a character-string has
pub record IsText (text : List ℕ) : Type 0 where
  pub short : length text ≤ 255
  pub bytes : AreBytes text
