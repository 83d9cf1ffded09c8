use Rattle.dns_wire.proofs.LawLemmas.{one_message, one_break, not_both, message_or_break}
use Rattle.dns_wire.proofs.MemoryLemmas.{no_memory}
use Rattle.dns_wire.proofs.laws.message_is_one.Goals as goal

pub returns-clause-one_message : goal.returns-clause-one_message
returns-clause-one_message c = one_message

pub returns-clause-one_break : goal.returns-clause-one_break
returns-clause-one_break c = one_break

pub returns-clause-no_memory : goal.returns-clause-no_memory
returns-clause-no_memory c = no_memory

pub returns-clause-not_both : goal.returns-clause-not_both
returns-clause-not_both c = not_both

pub returns-clause-some : goal.returns-clause-some
returns-clause-some c = message_or_break
