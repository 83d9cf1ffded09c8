use Rattle.zone_text.proofs.RecordLemmas.{reads_or_breaks}
use Rattle.zone_text.proofs.laws.says_when_unbroken.Goals as goal

pub returns : goal.returns
returns c = λ text origin. reads_or_breaks text origin
