-- An interval read a byte at a time.
use Rattle.std.specs.Prelude.{ℕ, ◌+◌, ◌-◌, ◌*◌, Bool, ◌&&◌, ◌||◌, ◌==◌, nat_le, nat_lt, if◌then◌else◌, Some, None}
use Rattle.posix_ere.specs.Ascii.{is_digit}
use Rattle.posix_ere.specs.declared.interval.Interval.{Interval}
use Rattle.posix_ere.specs.declared.interval.Interval.TheVariants.{Start, Low, Comma, High}
use Rattle.posix_ere.specs.declared.interval.Counting.{Counting}
use Rattle.posix_ere.specs.declared.interval.Counting.TheVariants.{More, Done, Broken}

-- whether some count of at most three digits from low to 255 begins with these digits of this value
abbrev pub may_reach : ℕ → ℕ → ℕ → Bool
may_reach low value digits =
    (nat_le low value && nat_le value 255)
    || (nat_lt digits 3 && nat_le low (value * 10 + 9) && nat_le (value * 10) 255)
    || (nat_lt digits 2 && nat_le low (value * 100 + 99) && nat_le (value * 100) 255)

abbrev pub start_step : ℕ → Counting
start_step b = if is_digit b then More (Low (b - 48) 1) else Broken

abbrev pub low_step : ℕ → ℕ → ℕ → Counting
low_step value digits b =
    if is_digit b
    then (if nat_lt digits 3 && nat_le (value * 10 + (b - 48)) 255
    then More (Low (value * 10 + (b - 48)) (digits + 1)) else Broken)
    else (if b == 125 then Done value (Some value) else (if b == 44 then More (Comma value) else Broken))

abbrev pub comma_step : ℕ → ℕ → Counting
comma_step low b =
    if is_digit b then (if may_reach low (b - 48) 1 then More (High low (b - 48) 1) else Broken)
    else (if b == 125 then Done low None else Broken)

abbrev pub high_step : ℕ → ℕ → ℕ → ℕ → Counting
high_step low value digits b =
    if is_digit b
    then (if nat_lt digits 3 && nat_le (value * 10 + (b - 48)) 255 && may_reach low (value * 10 + (b - 48)) (digits + 1)
    then More (High low (value * 10 + (b - 48)) (digits + 1)) else Broken)
    else (if b == 125 && nat_le low value then Done low (Some value) else Broken)

-- the interval after one more byte
abbrev pub count_step : Interval → ℕ → Counting
count_step Start b = start_step b
count_step (Low value digits) b = low_step value digits b
count_step (Comma low) b = comma_step low b
count_step (High low value digits) b = high_step low value digits b
