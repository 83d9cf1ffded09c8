use Rattle.posix_ere.proofs.ReadingLemmas.{prefix_closes}
use Rattle.posix_ere.proofs.ere.prefixes_close.Goals as goal

pub returns : goal.returns
returns c = prefix_closes
