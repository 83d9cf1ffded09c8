use Rattle.std.proofs.Common.{sym, subst}
use Rattle.std.specs.Prelude.{Contains}
use Rattle.dns_wire.specs.Kinds.{ns}
use Rattle.dns_wire.specs.declared.record.Record.{Record}
use Rattle.zone_build.specs.Zone.{IsIn}
use Rattle.zone_db.proofs.SeekLemmas.{ns_first, set_none}
use Rattle.zone_db.proofs.cut.ns_at.Goals as goal

pub returns-then-set-gt0 : goal.returns-then-set-gt0
returns-then-set-gt0 c =
    subst (λ (one : Record). Contains c.args.zone.now.records one × IsIn c.args.name.now ns one) (sym c.index-set-0.is)
    (ns_first c.args.zone.now.records c.set-set.result.now c.args.name.now c.index-set-0.result c.set-set.ensures c.if-set-gt0.true)

pub returns : goal.returns
returns c = set_none c.args.zone.now.records c.args.name.now ns c.set-set.result.now c.set-set.ensures c.if-set-gt0.false
