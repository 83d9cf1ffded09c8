use Rattle.subst_expr.proofs.OneSplitLemmas.{split_pieces}
use Rattle.subst_expr.proofs.laws.split_has_pieces.Goals as goal

pub returns : goal.returns
returns c = split_pieces
