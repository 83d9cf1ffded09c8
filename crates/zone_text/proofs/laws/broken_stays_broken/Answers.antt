use Rattle.zone_text.proofs.EntryLemmas.{stays_broken}
use Rattle.zone_text.proofs.laws.broken_stays_broken.Goals as goal

pub returns : goal.returns
returns c = λ text more origin line why breaks. stays_broken text more origin line why breaks
