use Rattle.std.proofs.Common.{◌≡◌, ◌^◌, min, take}
use Rattle.enum_base.specs.Decimal.{decimal_value}
use Rattle.enum_base.proofs.number.capped_value.Given as goal

-- the value of the digits so far
abbrev pub invariant-loop-digit : goal.invariant-loop-digit
invariant-loop-digit l = l.value ≡ min (decimal_value (take l.digit-index l.digits)) (2 ^ 32)
