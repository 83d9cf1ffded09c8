-- The laws are lemmas: this names them.
use Rattle.submatch.proofs.OrderLemmas.{greater_transitive}
use Rattle.submatch.proofs.BestMatchLemmas.{one_is_greater, has_greatest}
use Rattle.submatch.proofs.laws.order_of_parses.Goals as goal

pub returns-clause-one : goal.returns-clause-one
returns-clause-one c = one_is_greater

pub returns-clause-transitive : goal.returns-clause-transitive
returns-clause-transitive c = greater_transitive

pub returns-clause-greatest : goal.returns-clause-greatest
returns-clause-greatest c = has_greatest
