use Rattle.ddds_walk.proofs.BoundLemmas.{needed_bound}
use Rattle.ddds_walk.proofs.laws.needed_bound.Goals as goal

pub returns : goal.returns
returns c = λ client zones keys names ds held n. needed_bound c.one_output.ensures.output client zones keys names ds held n
