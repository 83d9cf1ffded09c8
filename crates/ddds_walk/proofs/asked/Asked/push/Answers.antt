use Rattle.ddds_walk.proofs.KeyLemmas.{inserts}
use Rattle.ddds_walk.proofs.asked.Asked.push.Goals as goal

pub returns-clause-ok : goal.returns-clause-ok
returns-clause-ok c =
    inserts c.self.inside.set.keys c.insert.new.self.keys (record { name = c.args.name.now }) c.args.self.now
    c.in_ok-insert.ensures.keys c.self.view_is c.requires.new
