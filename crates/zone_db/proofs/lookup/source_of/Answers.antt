use Rattle.std.proofs.Common.{refl}
use Rattle.zone_db.proofs.FoundLemmas.{own_source, encloser_of, wildcard_source}
use Rattle.zone_db.proofs.lookup.source_of.Goals as goal

pub returns-then-exists : goal.returns-then-exists
returns-then-exists c = own_source c.args.zone.now c.args.name.now (c.if-exists.ensures.0 refl)

pub wildcard_before-requires : goal.wildcard_before-requires
wildcard_before-requires c =
    encloser_of c.args.zone.now c.args.name.now c.closest-encloser.result (λ e. absurd (cc (c.if-exists.ensures.1 e))) c.closest-encloser.ensures

pub returns : goal.returns
returns c =
    wildcard_source c.args.zone.now c.args.name.now c.closest-encloser.result c.wildcard_before.result
    (λ e. absurd (cc (c.if-exists.ensures.1 e))) c.closest-encloser.ensures c.wildcard_before.ensures
