-- The digits of a number (RFC 6116, section 3.2), and digits in a row of fixed length (this project's own).
use Rattle.std.specs.Prelude.{ℕ, ◌<◌, ◌≤◌, List, length, take}
use Rattle.std.specs.Char.{is_ascii_digit}
use Rattle.std.specs.List.{AllPass}
use Rattle.enum_base.specs.Padding.{IsPadded}

-- the digits of a number: 1 to 15
pub record AreDigits (digits : List ℕ) : Type 0 where
  pub each : AllPass is_ascii_digit digits
  pub some : 0 < length digits
  pub most : length digits ≤ 15

-- the first cells of a row of fifteen are the digits of a number, and the others are zero
pub record IsDigits (len : ℕ) (row : List ℕ) : Type 0 where
  pub padding : IsPadded 15 len row
  pub digits : AreDigits (take len row)
