-- The laws are lemmas: this names them.
use Rattle.submatch.proofs.GreedyLemmas.{alternatives_take_earliest, group_has_greatest_inside, alone_is_greatest}
use Rattle.submatch.proofs.laws.greatest_of_alternatives_and_group.Goals as goal

pub returns-clause-alternatives : goal.returns-clause-alternatives
returns-clause-alternatives c = alternatives_take_earliest

pub returns-clause-group : goal.returns-clause-group
returns-clause-group c = group_has_greatest_inside

pub returns-clause-alone : goal.returns-clause-alone
returns-clause-alone c = alone_is_greatest
