use Rattle.std.proofs.Common.{length, ◌-◌}
use Rattle.zone_build.proofs.ClashLemmas.{IsMixing}
use Rattle.zone_build.proofs.build.first_mixed.Given as goal

abbrev pub invariant-loop-at : goal.invariant-loop-at
invariant-loop-at l = IsMixing l.sorted l.at l.first

abbrev pub decreases-loop-at : goal.decreases-loop-at
decreases-loop-at l = length l.sorted - l.at
