use Rattle.ddds_walk.proofs.LawLemmas.{all_needed}
use Rattle.ddds_walk.specs.Graph.{graph_of}
use Rattle.ddds_walk.proofs.laws.all_needed.Goals as goal

pub returns : goal.returns
returns c = λ client zones keys way d n l. all_needed (graph_of client zones) keys n way d l
