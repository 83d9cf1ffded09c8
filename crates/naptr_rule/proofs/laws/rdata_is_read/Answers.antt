use Rattle.std.proofs.Common.{refl}
use Rattle.naptr_rule.specs.Rdata.{rdata}
use Rattle.naptr_rule.proofs.RdataLemmas.{rdata_is_read, read_is_rdata, one_fault_of, rule_has_none, rule_or_fault}
use Rattle.naptr_rule.proofs.laws.rdata_is_read.Goals as goal

pub returns-clause-read : goal.returns-clause-read
returns-clause-read c = λ rule is. rdata_is_read (rdata rule) rule is refl

pub returns-clause-only : goal.returns-clause-only
returns-clause-only c = read_is_rdata

pub returns-clause-one_fault : goal.returns-clause-one_fault
returns-clause-one_fault c = one_fault_of

pub returns-clause-not_both : goal.returns-clause-not_both
returns-clause-not_both c = rule_has_none

pub returns-clause-some : goal.returns-clause-some
returns-clause-some c = rule_or_fault
