use Rattle.ddds_walk.proofs.LawLemmas.{one_loop}
use Rattle.ddds_walk.proofs.ToldLemmas.{graph_is}
use Rattle.ddds_walk.specs.Graph.{graph_of}
use Rattle.ddds_walk.proofs.laws.one_loop.Goals as goal

pub returns : goal.returns
returns c = λ client zones keys one other ds es d e a b.
    one_loop (graph_of client zones) (graph_is c.one_offer.ensures c.one_output.ensures.output client zones) keys one other ds es d e a b
