use Rattle.naptr_data.proofs.SomeLemmas.{some_offer, rules_apart}
use Rattle.naptr_data.proofs.laws.some_offer.Goals as goal

pub returns-clause-apart : goal.returns-clause-apart
returns-clause-apart c = some_offer

pub returns-clause-rules : goal.returns-clause-rules
returns-clause-rules c = λ zones name hold. some_offer zones name (rules_apart zones hold)
