use Rattle.posix_ere.proofs.OneReasonLemmas.{one_fault}
use Rattle.posix_ere.proofs.ere.has_one_fault.Goals as goal

pub returns : goal.returns
returns c = one_fault
