use Rattle.naptr_data.proofs.FoldLemmas.{offer_same, offer_folded}
use Rattle.naptr_data.proofs.laws.offer_folds.Goals as goal

pub returns-clause-same : goal.returns-clause-same
returns-clause-same c = offer_same

pub returns-clause-folded : goal.returns-clause-folded
returns-clause-folded c = offer_folded
