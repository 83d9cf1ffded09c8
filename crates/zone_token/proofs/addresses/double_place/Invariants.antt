use Rattle.std.proofs.Common.{◌≡◌, ◌+◌, length}
use Rattle.zone_token.specs.Addresses.{double_from}
use Rattle.zone_token.proofs.addresses.double_place.Given as goal

-- the place lies in what is left
abbrev pub invariant-loop-rest : goal.invariant-loop-rest
invariant-loop-rest l = record {
  same : double_from l.at l.rest ≡ double_from 0 l.text;
  within : l.at + length l.rest ≡ length l.text;
}

abbrev pub decreases-loop-rest : goal.decreases-loop-rest
decreases-loop-rest l = length l.rest
