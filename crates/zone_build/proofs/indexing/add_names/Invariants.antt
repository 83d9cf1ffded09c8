use Rattle.std.proofs.Common.{◌-◌, length}
use Rattle.zone_build.proofs.IndexNamesLemmas.{NamesUntil}
use Rattle.zone_build.proofs.indexing.add_names.Given as goal

abbrev pub invariant-loop-first : goal.invariant-loop-first
invariant-loop-first l = NamesUntil l.records l.apex l.first l.index

abbrev pub decreases-loop-first : goal.decreases-loop-first
decreases-loop-first l = length l.records - l.first
