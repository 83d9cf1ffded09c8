use Rattle.std.proofs.Common.{◌≡◌, take}
use Rattle.zone_build.specs.Building.{givens_from}
use Rattle.zone_build.proofs.sort.entries_of.Given as goal

abbrev pub invariant-loop-place : goal.invariant-loop-place
invariant-loop-place l = l.entries.items ≡ givens_from 0 (take l.place l.records)
