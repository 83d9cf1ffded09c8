use Rattle.std.proofs.Common.{◌≡◌, ◌≤◌, ◌+◌, ◌∙◌, length, ap, arith}
use Rattle.std.proofs.lemmas.List.{take_all}
use Rattle.zone_db.specs.Sets.{record_count}
use Rattle.zone_db.proofs.SetLemmas.{count_room, count_next}
use Rattle.zone_db.proofs.set.count_records.Goals as goal

pub overflow_add-count : goal.overflow_add-count
overflow_add-count c =
    let room : c.loop-zone.count + length c.records.result.now ≤ 400_000 =
    count_room c.args.zones.now c.loop-zone.zone-index c.zone-item.result c.loop-zone.count
    (length c.records.result.now) c.requires c.loop-zone-test.true c.zone-item.is c.loop-zone.invariant
    (ap length c.records.ensures.records) in
    omega arith

pub loop-zone-preserved : goal.loop-zone-preserved
loop-zone-preserved c =
    count_next c.args.zones.now c.loop-zone.zone-index c.zone-item.result c.loop-zone.count
    (length c.records.result.now) c.loop-zone-test.true c.zone-item.is c.loop-zone.invariant
    (ap length c.records.ensures.records)

pub returns : goal.returns
returns c =
    let is : c.loop-zone.count ≡ record_count c.args.zones.now =
    c.loop-zone.invariant ∙ ap record_count
    (take_all c.loop-zone.zone-index c.args.zones.now c.loop-zone-test.false) in
    let most = c.requires.records in
    record { count = is; few = omega (arith, is, most) }
