use Rattle.rule_check.proofs.OneFaultLemmas.{no_fault, one_rule_fault}
use Rattle.rule_check.proofs.laws.one_rule_fault.Goals as goal

pub returns-clause-one : goal.returns-clause-one
returns-clause-one c = one_rule_fault c.one_fault.ensures

pub returns-clause-none : goal.returns-clause-none
returns-clause-none c = no_fault c.one_reading.ensures.no_fault
