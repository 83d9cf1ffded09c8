use Rattle.std.proofs.Common.{◌≡◌, take}
use Rattle.std.specs.Prelude.{Contains}
use Rattle.dns_wire.specs.Kinds.{soa}
use Rattle.zone_build.specs.Building.{Given}
use Rattle.zone_build.proofs.soa.first_soa.Given as goal

abbrev pub invariant-loop-entry : goal.invariant-loop-entry
invariant-loop-entry l = (e : Given) → Contains (take l.entry-index l.entries) e → ¬ (e.given.kind ≡ soa)
