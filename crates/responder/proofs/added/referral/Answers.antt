use Rattle.zone_db.specs.declared.found.Found.TheVariants as f
use Rattle.responder.proofs.added.referral.Goals as goal

pub referral_in-requires-clause-servers : goal.referral_in-requires-clause-servers
referral_in-requires-clause-servers c =
    (c.found_is_ready.ensures c.args.zones.now c.args.question.now.name c.args.question.now.kind (f.Cut c.args.set)
    c.zones-zones.ensures.set c.requires).0

pub referral_in-requires-clause-small : goal.referral_in-requires-clause-small
referral_in-requires-clause-small c =
    (c.found_is_ready.ensures c.args.zones.now c.args.question.now.name c.args.question.now.kind (f.Cut c.args.set)
    c.zones-zones.ensures.set c.requires).1
