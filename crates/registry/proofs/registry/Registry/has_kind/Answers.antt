use Rattle.registry.proofs.LookLemmas.{has_kind}
use Rattle.registry.proofs.registry.Registry.has_kind.Goals as goal

pub returns : goal.returns
returns c = has_kind c.args.self.now c.set.result.now c.args.owner.now c.args.kind c.set.ensures.set
