use Rattle.dns_name.proofs.WithinLemmas.{name_iff, fault_iff, answer_after}
use Rattle.dns_name.proofs.name.Name.read_at.Goals as goal

pub returns-clause-name : goal.returns-clause-name
returns-clause-name c = name_iff c.args.message.now c.args.at c.read_inner.result c.read_inner.ensures

pub returns-clause-fault : goal.returns-clause-fault
returns-clause-fault c = fault_iff c.args.message.now c.args.at c.read_inner.result c.read_inner.ensures

pub returns-clause-within : goal.returns-clause-within
returns-clause-within c = answer_after c.args.message.now c.args.at c.read_inner.result c.read_inner.ensures
