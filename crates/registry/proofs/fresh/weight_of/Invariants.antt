use Rattle.std.proofs.Common.{◌≡◌, take}
use Rattle.zone_build.specs.Zone.{weight}
use Rattle.registry.proofs.fresh.weight_of.Given as goal

abbrev pub invariant-loop-one : goal.invariant-loop-one
invariant-loop-one l = l.sum ≡ weight (take l.one-index l.set)
