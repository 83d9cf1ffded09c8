use Rattle.std.proofs.Common.{◌-◌, length}
use Rattle.zone_build.specs.Building.{givens_from}
use Rattle.zone_build.proofs.SizeLemmas.{IsApart, NoneLarge}
use Rattle.zone_build.proofs.build.first_large.Given as goal

abbrev pub invariant-loop-at : goal.invariant-loop-at
invariant-loop-at l = record { apart : IsApart (givens_from 0 l.records) l.at; none : NoneLarge (givens_from 0 l.records) l.at }

abbrev pub decreases-loop-at : goal.decreases-loop-at
decreases-loop-at l = length l.records - l.at
