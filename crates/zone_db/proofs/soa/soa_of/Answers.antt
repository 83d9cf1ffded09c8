use Rattle.std.proofs.Common.{◌≡◌, List, get_or, subst}
use Rattle.dns_wire.specs.declared.record.Record.{Record}
use Rattle.zone_db.proofs.SeekLemmas.{soa_first}
use Rattle.zone_db.proofs.soa.soa_of.Goals as goal

pub returns : goal.returns
returns c =
    soa_first c.args.zone.now.records c.index-records-0.result c.records.ensures.valid.order
    (subst (λ (xs : List Record). c.index-records-0.result
    ≡ get_or xs 0 c.index-records-0.result) c.records.ensures.records c.index-records-0.is)
