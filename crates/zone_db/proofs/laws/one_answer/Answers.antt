use Rattle.zone_db.proofs.OneFoundLemmas.{one_found}
use Rattle.zone_db.proofs.laws.one_answer.Goals as goal

pub returns : goal.returns
returns c = one_found
