use Rattle.zone_db.proofs.SomeFoundLemmas.{some_found}
use Rattle.zone_db.proofs.laws.some_answer.Goals as goal

pub returns : goal.returns
returns c = some_found
