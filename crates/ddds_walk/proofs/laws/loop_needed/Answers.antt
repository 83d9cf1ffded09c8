use Rattle.ddds_walk.proofs.LawLemmas.{loop_needed}
use Rattle.ddds_walk.proofs.ToldLemmas.{graph_is}
use Rattle.ddds_walk.specs.Graph.{graph_of}
use Rattle.ddds_walk.proofs.laws.loop_needed.Goals as goal

pub returns : goal.returns
returns c = λ client zones keys way ds d x l i.
    loop_needed (graph_of client zones) (graph_is c.one_offer.ensures c.one_output.ensures.output client zones) keys way ds d x l i
