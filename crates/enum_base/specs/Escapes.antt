-- Bytes as escapes of names and character-strings (RFC 1035, section 5.1).
use Rattle.std.specs.Prelude.{ℕ, ◌+◌, ◌-◌, ◌*◌, ◌/◌, ◌%◌, nat_le, List, [], ◌∷◌, ◌&&◌, if◌then◌else◌, Option, Some, None}
use Rattle.std.specs.Char.{is_ascii_digit}

abbrev pub backslash : ℕ
backslash = 92

-- how a byte is written by its number: a backslash and three digits
abbrev pub decimal_escape : ℕ → List ℕ
decimal_escape byte = backslash ∷ (48 + byte / 100) ∷ (48 + byte / 10 % 10) ∷ (48 + byte % 10) ∷ []

-- the number of three decimal digits
abbrev pub decimal_of : ℕ → ℕ → ℕ → ℕ
decimal_of hundreds tens ones = 100 * (hundreds - 48) + 10 * (tens - 48) + (ones - 48)

-- the byte of the decimal number whose first digit stands before these bytes, and how many bytes it takes after a
-- backslash: three digits of at most 255
abbrev pub decimal_byte : ℕ → List ℕ → Option (ℕ × ℕ)
decimal_byte hundreds [] = None
decimal_byte hundreds (tens ∷ []) = None
decimal_byte hundreds (tens ∷ ones ∷ rest) =
    if is_ascii_digit tens && is_ascii_digit ones && nat_le (decimal_of hundreds tens ones) 255
    then Some (decimal_of hundreds tens ones, 3) else None

-- the byte that a backslash and these bytes stand for, and how many it takes after the backslash
abbrev pub escaped_byte : List ℕ → Option (ℕ × ℕ)
escaped_byte [] = None
escaped_byte (byte ∷ rest) = if is_ascii_digit byte then decimal_byte byte rest else Some (byte, 1)
