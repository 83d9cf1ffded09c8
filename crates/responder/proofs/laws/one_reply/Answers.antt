use Rattle.responder.proofs.OneReplyLemmas.{one_reply}
use Rattle.responder.proofs.laws.one_reply.Goals as goal

pub returns : goal.returns
returns c = one_reply
