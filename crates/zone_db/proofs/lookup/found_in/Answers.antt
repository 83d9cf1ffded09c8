use Rattle.zone_db.proofs.SeekLemmas.{highest_is, uncut_is}
use Rattle.zone_db.proofs.lookup.found_in.Goals as goal

pub returns-in-Some : goal.returns-in-Some
returns-in-Some c = (c.in-Some.cut.now.owner, highest_is c.args.zone.now c.args.name.now c.in-Some.cut.now c.in-Some.ensures, c.set.ensures)

pub found_at-requires-clause-uncut : goal.found_at-requires-clause-uncut
found_at-requires-clause-uncut c = uncut_is c.args.zone.now c.args.name.now c.in-None.ensures
