use Rattle.subst_expr.proofs.OneSplitLemmas.{same_split_of}
use Rattle.subst_expr.proofs.subst.Subst.split.Goals as goal

pub returns-clause-only : goal.returns-clause-only
returns-clause-only c = λ other is. same_split_of c.args.text.now _ _ other c.as_bytes.ensures.value c.split_bytes.ensures is
