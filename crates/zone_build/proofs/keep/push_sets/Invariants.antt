use Rattle.std.proofs.Common.{length, ◌-◌}
use Rattle.zone_build.specs.Building.{IsSoaAs, IsKeptOf}
use Rattle.zone_build.specs.declared.entry.Key.TheVariants.{Set}
use Rattle.zone_build.proofs.MergeLemmas.{IsMergingFrom}
use Rattle.zone_build.proofs.keep.push_sets.Given as goal

abbrev pub invariant-loop-at : goal.invariant-loop-at
invariant-loop-at l = IsMergingFrom Set (IsSoaAs l.as_soa) (IsKeptOf l.sorted) l.sorted l.at l.fn.out.items l.out.items

abbrev pub decreases-loop-at : goal.decreases-loop-at
decreases-loop-at l = length l.sorted - l.at
