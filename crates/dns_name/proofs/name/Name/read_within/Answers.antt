use Rattle.dns_name.proofs.WithinLemmas.{within_name_iff, within_fault_iff, within_after}
use Rattle.dns_name.proofs.name.Name.read_within.Goals as goal

pub returns-clause-name : goal.returns-clause-name
returns-clause-name c = within_name_iff c.args.message.now c.args.at c.args.to c.within_inner.result c.within_inner.ensures

pub returns-clause-fault : goal.returns-clause-fault
returns-clause-fault c = within_fault_iff c.args.message.now c.args.at c.args.to c.within_inner.result c.within_inner.ensures

pub returns-clause-within : goal.returns-clause-within
returns-clause-within c = within_after c.args.message.now c.args.at c.args.to c.within_inner.result c.within_inner.ensures
