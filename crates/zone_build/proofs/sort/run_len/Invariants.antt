use Rattle.std.proofs.Common.{take}
use Rattle.std.specs.Prelude.{Contains}
use Rattle.zone_build.specs.Building.{Given, AreAlike}
use Rattle.zone_build.proofs.sort.run_len.Given as goal

abbrev pub invariant-loop-at : goal.invariant-loop-at
invariant-loop-at l = (e : Given) → Contains (take l.at l.rest) e → AreAlike l.key l.head.given e.given
