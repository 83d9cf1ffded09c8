use Rattle.responder.proofs.SomeReplyLemmas.{some_reply}
use Rattle.responder.proofs.laws.some_reply.Goals as goal

pub returns : goal.returns
returns c = some_reply
