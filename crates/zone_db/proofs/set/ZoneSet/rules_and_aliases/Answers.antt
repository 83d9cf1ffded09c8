use Rattle.zone_db.proofs.CountLemmas.{few_in_set}
use Rattle.zone_db.proofs.set.ZoneSet.rules_and_aliases.Goals as goal

pub returns-clause-few : goal.returns-clause-few
returns-clause-few c = few_in_set c.self.inside.zones.items c.self.inside.count c.self.invariant.set c.self.invariant.counted
