use Rattle.zone_db.proofs.OfferLemmas.{found_is_offered}
use Rattle.zone_db.proofs.laws.found_is_offered.Goals as goal

pub returns : goal.returns
returns c = found_is_offered
