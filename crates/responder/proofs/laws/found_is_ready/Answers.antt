use Rattle.responder.proofs.ReadyLemmas.{found_ready}
use Rattle.responder.proofs.laws.found_is_ready.Goals as goal

pub returns : goal.returns
returns c = found_ready
