use Rattle.posix_ere.proofs.ReadingLemmas.{one_tree}
use Rattle.posix_ere.proofs.ere.has_one_tree.Goals as goal

pub returns : goal.returns
returns c = one_tree
