use Rattle.subst_expr.proofs.OneAnswerLemmas.{one_fault}
use Rattle.subst_expr.proofs.laws.one_fault.Goals as goal

pub returns : goal.returns
returns c = one_fault c.has_one_tree.ensures c.has_one_fault.ensures
