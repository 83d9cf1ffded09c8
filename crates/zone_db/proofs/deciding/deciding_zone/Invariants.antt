use Rattle.std.proofs.Common.{take}
use Rattle.std.specs.Option.{option_map}
use Rattle.zone_db.specs.LookUp.{IsDeciding}
use Rattle.zone_db.proofs.deciding.deciding_zone.Given as goal

abbrev pub invariant-loop-zone : goal.invariant-loop-zone
invariant-loop-zone l = IsDeciding (take l.zone-index l.zones) l.name (option_map (λ z. z.now) l.best)
