use Rattle.std.proofs.Common.{take}
use Rattle.zone_build.proofs.SetRunLemmas.{AreOfOneSet}
use Rattle.zone_build.proofs.build.set_len.Given as goal

abbrev pub invariant-loop-at : goal.invariant-loop-at
invariant-loop-at l = AreOfOneSet l.head (take l.at l.rest)
