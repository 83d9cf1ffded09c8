use Rattle.naptr_data.proofs.OfferLemmas.{one_offer}
use Rattle.naptr_data.proofs.laws.one_offer.Goals as goal

pub returns : goal.returns
returns c = one_offer
