use Rattle.subst_expr.proofs.SomeOutputLemmas.{formed_or_fault, output_or_unmatched, output_or_none}
use Rattle.subst_expr.proofs.laws.output_or_none.Goals as goal

pub returns-clause-formed : goal.returns-clause-formed
returns-clause-formed c = formed_or_fault

pub returns-clause-matched : goal.returns-clause-matched
returns-clause-matched c = output_or_unmatched c.best_match.ensures

pub returns-clause-output : goal.returns-clause-output
returns-clause-output c = output_or_none c.has_one_tree.ensures c.best_match.ensures
