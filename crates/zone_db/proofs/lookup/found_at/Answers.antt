use Rattle.std.proofs.Common.{refl}
use Rattle.zone_db.proofs.SeekLemmas.{source_inside}
use Rattle.zone_db.proofs.FoundLemmas.{answered_found}
use Rattle.zone_db.proofs.lookup.found_at.Goals as goal

pub exists-requires : goal.exists-requires
exists-requires c = source_inside c.args.zone.now c.args.name.now c.args.source.now c.requires.inside c.requires.source

pub returns-then-exists : goal.returns-then-exists
returns-then-exists c =
    answered_found c.args.zone.now c.args.name.now c.args.source.now c.args.asked c.answer.result c.requires.uncut
    c.requires.source (c.if-exists.ensures.0 refl) c.answer.ensures

pub returns : goal.returns
returns c =
    (c.args.source.now, c.requires.uncut, c.requires.source, (λ e. absurd (cc (c.if-exists.ensures.1 e))), c.soa_of.ensures)
