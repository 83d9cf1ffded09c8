use Rattle.zone_db.proofs.AddFaultLemmas.{fits_or_fault, one_add_fault, no_add_fault}
use Rattle.zone_db.proofs.laws.one_add_fault.Goals as goal

pub returns-clause-some : goal.returns-clause-some
returns-clause-some c = fits_or_fault

pub returns-clause-one : goal.returns-clause-one
returns-clause-one c = one_add_fault

pub returns-clause-none : goal.returns-clause-none
returns-clause-none c = no_add_fault
