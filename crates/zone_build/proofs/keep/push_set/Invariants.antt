use Rattle.std.proofs.Common.{length, ◌-◌}
use Rattle.zone_build.specs.Building.{IsFirstCopy}
use Rattle.zone_build.specs.declared.entry.Key.TheVariants.{Whole}
use Rattle.zone_build.proofs.MergeLemmas.{IsMergingFrom}
use Rattle.zone_build.proofs.keep.push_set.Given as goal

abbrev pub invariant-loop-at : goal.invariant-loop-at
invariant-loop-at l = IsMergingFrom Whole (λ e. Unit {0}) (IsFirstCopy l.set l.ttl) l.set l.at l.fn.out.items l.out.items

abbrev pub decreases-loop-at : goal.decreases-loop-at
decreases-loop-at l = length l.set - l.at
