-- Times: seconds in digits, or digits with a unit after them once or more (this project's own).
use Rattle.std.specs.Prelude.{ℕ, ◌+◌, ◌-◌, ◌*◌, List, [], ◌∷◌, nat_le, is_some, unwrap_or, ◌==◌, if◌then◌else◌, Option, Some, None}
use Rattle.std.specs.List.{list_all}
use Rattle.std.specs.Result.{result_ok}
use Rattle.std.specs.Char.{is_ascii_digit}
use Rattle.enum_base.specs.Folding.{folded_byte}
use Rattle.enum_base.specs.Decimal.{number_up_to}
use Rattle.zone_token.specs.Texts.{◌>>=◌}

-- the greatest time (RFC 2181, section 8)
abbrev pub most_seconds : ℕ
most_seconds = 2_147_483_647

-- the seconds of a unit, in any case: w, d, h, m, s
abbrev pub seconds_of_small : ℕ → Option ℕ
seconds_of_small unit =
    if unit == 119 then Some 604_800
    else if unit == 100 then Some 86_400
    else if unit == 104 then Some 3_600
    else if unit == 109 then Some 60
    else if unit == 115 then Some 1
    else None

abbrev pub seconds_of_unit : ℕ → Option ℕ
seconds_of_unit unit = seconds_of_small (folded_byte unit)

-- a number with one digit more
abbrev pub with_digit : ℕ → ℕ → ℕ
with_digit number digit = 10 * number + (digit - 48)

-- the seconds and the number after a byte: a digit makes the number longer, a unit ends it
abbrev pub seconds_after : ℕ → Option ℕ → ℕ → Option (ℕ × Option ℕ)
seconds_after seconds number byte =
    if is_ascii_digit byte then Some (seconds, Some (with_digit (unwrap_or number 0) byte))
    else number >>= λ n. seconds_of_unit byte >>= λ unit. Some (seconds + n * unit, None)

-- the seconds of a text of digits with units, where some seconds and a number stand before it
abbrev pub united_from : ℕ → Option ℕ → List ℕ → Option ℕ
united_from seconds number [] = if is_some number then None else Some seconds
united_from seconds number (byte ∷ rest) = do
  after ← seconds_after seconds number byte
  united_from after.0 after.1 rest

-- a time that is not too great
abbrev pub if_time : ℕ → Option ℕ
if_time seconds = if nat_le seconds most_seconds then Some seconds else None

-- the seconds that a text stands for: at most 2,147,483,647
unfoldable pub time_of : List ℕ → Option ℕ
time_of text =
    if list_all is_ascii_digit text then result_ok (number_up_to most_seconds text) else united_from 0 None text >>= if_time
