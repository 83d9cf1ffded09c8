use Rattle.zone_text.proofs.RecordLemmas.{too_long}
use Rattle.zone_text.proofs.laws.too_long_breaks.Goals as goal

pub returns : goal.returns
returns c = λ text origin over. too_long text origin over
