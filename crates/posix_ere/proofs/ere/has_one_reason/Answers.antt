use Rattle.posix_ere.proofs.OneReasonLemmas.{one_reason}
use Rattle.posix_ere.proofs.ere.has_one_reason.Goals as goal

pub returns : goal.returns
returns c = one_reason
