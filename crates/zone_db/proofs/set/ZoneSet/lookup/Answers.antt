use Rattle.zone_db.proofs.FoundLemmas.{found_of}
use Rattle.zone_db.proofs.set.ZoneSet.lookup.Goals as goal

pub found_in-requires : goal.found_in-requires
found_in-requires c = c.in-Some.ensures.above

pub returns-in-Some : goal.returns-in-Some
returns-in-Some c =
    found_of c.args.self.now c.in-Some.zone.now c.args.name.now c.args.kind c.found_in.result c.in-Some.ensures c.found_in.ensures
