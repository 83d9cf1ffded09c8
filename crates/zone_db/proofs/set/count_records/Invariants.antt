use Rattle.std.proofs.Common.{◌≡◌, take}
use Rattle.zone_db.specs.Sets.{record_count}
use Rattle.zone_db.proofs.set.count_records.Given as goal

abbrev pub invariant-loop-zone : goal.invariant-loop-zone
invariant-loop-zone l = l.count ≡ record_count (take l.zone-index l.zones)
