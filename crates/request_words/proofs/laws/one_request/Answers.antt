use Rattle.request_words.proofs.ReadingLemmas.{one_request}
use Rattle.request_words.proofs.laws.one_request.Goals as goal

pub returns : goal.returns
returns c = one_request
