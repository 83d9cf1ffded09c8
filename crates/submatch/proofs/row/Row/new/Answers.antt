use Rattle.submatch.proofs.RowLemmas.{none_there}
use Rattle.submatch.proofs.row.Row.new.Goals as goal

pub returns : goal.returns
returns c = none_there
