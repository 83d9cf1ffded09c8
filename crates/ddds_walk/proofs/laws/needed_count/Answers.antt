use Rattle.ddds_walk.proofs.CountLemmas.{needed_count}
use Rattle.ddds_walk.specs.Graph.{graph_of}
use Rattle.ddds_walk.proofs.laws.needed_count.Goals as goal

pub returns : goal.returns
returns c = λ client zones key ds es a b. needed_count (graph_of client zones) key ds es a b
