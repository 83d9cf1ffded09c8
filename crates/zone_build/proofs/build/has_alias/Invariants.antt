use Rattle.std.proofs.Common.{◌≡◌, take}
use Rattle.std.specs.Prelude.{Contains}
use Rattle.zone_build.specs.Building.{Given}
use Rattle.zone_build.proofs.build.has_alias.Given as goal

abbrev pub invariant-loop-entry : goal.invariant-loop-entry
invariant-loop-entry l = (e : Given) → Contains (take l.entry-index l.owner) e → ¬ e.given.kind ≡ 5
