use Rattle.std.proofs.Common.{◌<◌, ◌+◌, length, ap, subst, sym}
use Rattle.zone_db.proofs.SetLemmas.{full_by_count, of_full, over_limit, limit_over}
use Rattle.zone_db.proofs.set.is_full.Goals as goal

pub returns : goal.returns
returns c =
    let size = ap length c.records.ensures.records in
    let count = c.count_records.result in (
      λ t. full_by_count c.args.zones.now c.args.zone.now count c.count_records.ensures.count
          c.count_records.ensures.few
          (subst (λ n. 400_000 < count + n) size
          (over_limit count (length c.records.result.now) c.count_records.ensures.few t)),
      λ f. limit_over count (length c.records.result.now) c.count_records.ensures.few
          (subst (λ n. 400_000 < count + n) (sym size)
          (of_full c.args.zones.now c.args.zone.now count c.count_records.ensures.count c.if-zones-ge64.false f)),
    )
