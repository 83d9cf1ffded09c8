use Rattle.subst_expr.proofs.OneAnswerLemmas.{one_output, no_output}
use Rattle.subst_expr.proofs.laws.one_output.Goals as goal

pub returns-clause-output : goal.returns-clause-output
returns-clause-output c = one_output c.has_one_tree.ensures c.best_match.ensures

pub returns-clause-unmatched : goal.returns-clause-unmatched
returns-clause-unmatched c = no_output c.has_one_tree.ensures
