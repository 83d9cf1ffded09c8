use Rattle.subst_expr.proofs.OneSplitLemmas.{same_split}
use Rattle.subst_expr.proofs.laws.one_split.Goals as goal

pub returns : goal.returns
returns c = same_split
