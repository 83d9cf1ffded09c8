use Rattle.dns_wire.specs.Kinds.{naptr}
use Rattle.registry.proofs.LookLemmas.{are_rules}
use Rattle.registry.proofs.registry.Registry.rules_at.Goals as goal

pub returns-clause-rules : goal.returns-clause-rules
returns-clause-rules c = are_rules c.args.self.now c.set.result.now c.args.owner.now c.set.ensures.valid c.set.ensures.set

pub returns-clause-small : goal.returns-clause-small
returns-clause-small c = c.set.ensures.valid.small c.args.owner.now naptr c.set.result.now c.set.ensures.set
