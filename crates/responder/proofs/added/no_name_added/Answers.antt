use Rattle.zone_db.specs.declared.found.Found.TheVariants as f
use Rattle.responder.proofs.added.no_name_added.Goals as goal

pub negative-requires : goal.negative-requires
negative-requires c =
    c.found_is_ready.ensures c.args.zones.now c.args.question.now.name c.args.question.now.kind (f.NoName c.args.soa)
    c.zones-zones.ensures.set c.requires
