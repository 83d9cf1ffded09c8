use Rattle.zone_db.specs.declared.found.Found.TheVariants as f
use Rattle.responder.proofs.added.target_of.Goals as goal

pub target_in-requires : goal.target_in-requires
target_in-requires c =
    c.found_is_ready.ensures c.args.zones.now c.args.question.now.name c.args.question.now.kind (f.Alias c.args.set)
    c.zones-zones.ensures.set c.requires
