use Rattle.zone_token.proofs.EntryLemmas.{are_the_text, are_some, are_lines}
use Rattle.zone_token.proofs.laws.entries_are_the_text.Goals as goal

pub returns-clause-text : goal.returns-clause-text
returns-clause-text c = are_the_text

pub returns-clause-some : goal.returns-clause-some
returns-clause-some c = are_some

pub returns-clause-lines : goal.returns-clause-lines
returns-clause-lines c = are_lines
