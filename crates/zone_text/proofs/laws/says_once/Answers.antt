use Rattle.zone_text.proofs.RecordLemmas.{one_list}
use Rattle.zone_text.proofs.laws.says_once.Goals as goal

pub returns : goal.returns
returns c = λ text origin records others first second. one_list text origin records others first second
