use Rattle.zone_text.proofs.ContentLemmas.{fields_again}
use Rattle.zone_text.proofs.laws.fields_are_read_again.Goals as goal

pub returns : goal.returns
returns c = fields_again
