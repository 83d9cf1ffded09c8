use Rattle.responder.proofs.WholeLemmas.{stream_whole}
use Rattle.responder.proofs.laws.stream_is_whole.Goals as goal

pub returns : goal.returns
returns c = stream_whole
