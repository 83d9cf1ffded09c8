-- Numbers in decimal digits, the most significant first (this project's own).
use Rattle.std.specs.Prelude.{ℕ, ◌+◌, ◌-◌, ◌*◌, ◌==◌, List, length, fold, not, position, nat_le, if◌then◌else◌, Option, Some, None, Result, Ok, Err}
use Rattle.std.specs.Char.{is_ascii_digit}
use Rattle.enum_base.specs.declared.number.NumFault.{NumFault}
use Rattle.enum_base.specs.declared.number.NumFault.TheVariants.{Empty, NotDigit, TooLarge}

-- the number that a list of digits stands for; leading zeros change nothing
abbrev pub decimal_value : List ℕ → ℕ
decimal_value digits = fold (λ value digit. 10 * value + (digit - 48)) 0 digits

-- the place of the first byte that is no digit
abbrev pub first_non_digit : List ℕ → Option ℕ
first_non_digit text = position (λ b. not (is_ascii_digit b)) text

-- a value that is not too large
abbrev pub up_to : ℕ → ℕ → Result ℕ NumFault
up_to most value = if nat_le value most then Ok value else Err TooLarge

-- a value, where there is no byte that is no digit
abbrev pub unless_at : Option ℕ → Result ℕ NumFault → Result ℕ NumFault
unless_at None number = number
unless_at (Some at) number = Err (NotDigit at)

-- the number that a text of digits stands for, or its first fault
abbrev pub number_up_to : ℕ → List ℕ → Result ℕ NumFault
number_up_to most text =
    if length text == 0 then Err Empty
    else unless_at (first_non_digit text) (up_to most (decimal_value text))
