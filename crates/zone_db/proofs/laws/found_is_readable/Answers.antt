use Rattle.zone_db.proofs.OfferLemmas.{found_is_readable}
use Rattle.zone_db.proofs.laws.found_is_readable.Goals as goal

pub returns : goal.returns
returns c = found_is_readable
