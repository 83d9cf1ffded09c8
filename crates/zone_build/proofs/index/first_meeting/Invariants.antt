use Rattle.std.proofs.Common.{take}
use Rattle.zone_build.specs.Indexing.{NoneMeets}
use Rattle.zone_build.proofs.index.first_meeting.Given as goal

abbrev pub invariant-loop-one : goal.invariant-loop-one
invariant-loop-one l = NoneMeets l.sought l.records l.name (take l.one-index l.list)
