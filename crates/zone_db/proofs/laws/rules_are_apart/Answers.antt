use Rattle.zone_db.proofs.ApartLemmas.{rules_are_apart}
use Rattle.zone_db.proofs.laws.rules_are_apart.Goals as goal

pub returns : goal.returns
returns c = rules_are_apart
