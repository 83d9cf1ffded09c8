use Rattle.zone_token.proofs.BlankLemmas.{blank_has_none}
use Rattle.zone_token.proofs.laws.blank_entries_have_no_token.Goals as goal

pub returns : goal.returns
returns c = blank_has_none
