use Rattle.zone_token.specs.Entries.{entries_of}
use Rattle.zone_text.proofs.RunLemmas.{one_break}
use Rattle.zone_text.proofs.laws.breaks_once.Goals as goal

pub returns : goal.returns
returns c = λ text origin line other why reason first second. one_break origin (entries_of text) line other why reason first second
