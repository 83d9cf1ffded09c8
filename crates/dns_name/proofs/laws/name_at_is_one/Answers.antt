use Rattle.dns_name.proofs.ReadLemmas.{one_name, one_fault, not_both}
use Rattle.dns_name.proofs.FoundLemmas.{name_or_fault}
use Rattle.dns_name.proofs.laws.name_at_is_one.Goals as goal

pub returns-clause-one_name : goal.returns-clause-one_name
returns-clause-one_name c = one_name

pub returns-clause-one_fault : goal.returns-clause-one_fault
returns-clause-one_fault c = one_fault

pub returns-clause-not_both : goal.returns-clause-not_both
returns-clause-not_both c = not_both

pub returns-clause-some : goal.returns-clause-some
returns-clause-some c = name_or_fault
