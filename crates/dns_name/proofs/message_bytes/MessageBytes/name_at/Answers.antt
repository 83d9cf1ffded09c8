use Rattle.std.proofs.Common.{subst}
use Rattle.dns_name.specs.Fields.{IsAnswer}
use Rattle.dns_name.proofs.WithinLemmas.{name_iff, fault_iff, answer_after}
use Rattle.dns_name.proofs.message_bytes.MessageBytes.name_at.Goals as goal

pub returns-clause-name : goal.returns-clause-name
returns-clause-name c =
    name_iff c.args.self.now c.args.at c.read_inner.result (subst (λ m. IsAnswer m c.args.at c.read_inner.result) c.self.view_is c.read_inner.ensures)

pub returns-clause-fault : goal.returns-clause-fault
returns-clause-fault c =
    fault_iff c.args.self.now c.args.at c.read_inner.result (subst (λ m. IsAnswer m c.args.at c.read_inner.result) c.self.view_is c.read_inner.ensures)

pub returns-clause-within : goal.returns-clause-within
returns-clause-within c =
    answer_after c.args.self.now c.args.at c.read_inner.result (subst (λ m. IsAnswer m c.args.at c.read_inner.result) c.self.view_is c.read_inner.ensures)
