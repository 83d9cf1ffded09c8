use Rattle.std.proofs.Common.{rules}
use Rattle.zone_text.proofs.StringLemmas.{strings_some}
use Rattle.zone_text.proofs.data.read_txt.Goals as goal

pub returns-clause-some : goal.returns-clause-some
returns-clause-some c = strings_some _ _ (search rules) c.in_ok-texts.ensures
