use Rattle.std.proofs.Common.{refl}
use Rattle.zone_token.proofs.AgreeLemmas.{goes_on, feed_is_nothing}
use Rattle.zone_token.proofs.laws.entries_keep_tokens_whole.Goals as goal

pub returns-clause-goes_on : goal.returns-clause-goes_on
returns-clause-goes_on c = goes_on

pub returns-clause-ends : goal.returns-clause-ends
returns-clause-ends c = λ begun rest. (feed_is_nothing rest, refl)
