use Rattle.zone_db.proofs.offer.offer_of.Goals as goal

pub read_offer-requires : goal.read_offer-requires
read_offer-requires c =
    c.found_is_readable.ensures c.args.zones.now c.args.name.now 35 c.lookup.result c.zones-zones.ensures.set c.lookup.ensures

pub returns-in-Ok-clause-offered : goal.returns-in-Ok-clause-offered
returns-in-Ok-clause-offered c =
    c.found_is_offered.ensures c.args.zones.now c.args.name.now c.lookup.result c.in-Ok.offer c.zones-zones.ensures.set c.lookup.ensures c.in-Ok.ensures.reads
