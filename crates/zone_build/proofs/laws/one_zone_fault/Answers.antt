use Rattle.zone_build.proofs.OneFaultLemmas.{one_fault, no_fault}
use Rattle.zone_build.proofs.laws.one_zone_fault.Goals as goal

pub returns-clause-one : goal.returns-clause-one
returns-clause-one c = one_fault

pub returns-clause-none : goal.returns-clause-none
returns-clause-none c = no_fault
