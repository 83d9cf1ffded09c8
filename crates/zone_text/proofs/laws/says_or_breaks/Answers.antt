use Rattle.zone_text.proofs.RunLemmas.{say_break}
use Rattle.zone_text.proofs.laws.says_or_breaks.Goals as goal

pub returns : goal.returns
returns c = λ text origin records line why says breaks. say_break _ _ _ _ _ says.say breaks
