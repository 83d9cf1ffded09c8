use Rattle.dns_name.proofs.WithinLemmas.{one_within, not_both_within}
use Rattle.dns_name.proofs.WithinFoundLemmas.{within_or_fault}
use Rattle.dns_name.proofs.laws.name_within_is_one.Goals as goal

pub returns-clause-one_fault : goal.returns-clause-one_fault
returns-clause-one_fault c = one_within

pub returns-clause-not_both : goal.returns-clause-not_both
returns-clause-not_both c = not_both_within

pub returns-clause-some : goal.returns-clause-some
returns-clause-some c = within_or_fault
