use Rattle.std.proofs.Common.{take}
use Rattle.std.specs.Prelude.{Contains}
use Rattle.dns_name.specs.Name.{AreSame}
use Rattle.zone_build.specs.Zone.{Zone}
use Rattle.zone_db.proofs.set.holds_apex.Given as goal

abbrev pub invariant-loop-zone : goal.invariant-loop-zone
invariant-loop-zone l = (z : Zone) → Contains (take l.zone-index l.zones) z → ¬ AreSame z.apex l.apex
