use Rattle.ddds_walk.proofs.KeyLemmas.{finds}
use Rattle.ddds_walk.proofs.asked.Asked.has.Goals as goal

pub returns : goal.returns
returns c =
    finds c.self.inside.set.keys c.args.name.now c.args.self.now c.contains.result c.contains.ensures c.self.view_is
