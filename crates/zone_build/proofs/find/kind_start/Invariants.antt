use Rattle.std.proofs.Common.{◌-◌}
use Rattle.zone_build.proofs.FindLemmas.{IsBetween}
use Rattle.zone_build.proofs.find.kind_start.Given as goal

abbrev pub invariant-loop-low : goal.invariant-loop-low
invariant-loop-low l = IsBetween l.records l.fn.places l.kind l.low l.high

abbrev pub decreases-loop-low : goal.decreases-loop-low
decreases-loop-low l = l.high - l.low
