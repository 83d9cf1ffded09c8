use Rattle.subst_expr.proofs.OneAnswerLemmas.{one_reading, no_fault}
use Rattle.subst_expr.proofs.laws.one_reading.Goals as goal

pub returns-clause-reading : goal.returns-clause-reading
returns-clause-reading c = one_reading c.has_one_tree.ensures

pub returns-clause-no_fault : goal.returns-clause-no_fault
returns-clause-no_fault c = no_fault c.has_one_tree.ensures
