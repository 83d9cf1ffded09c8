use Rattle.service_field.proofs.FoldLemmas.{serve_folded_services, services_fault_folds, snaptr_fault_folds, snaptr_folded_services}
use Rattle.service_field.proofs.laws.services_ignore_case.Goals as goal

pub returns : goal.returns
returns c = record {
  faults = services_fault_folds;
  serving = serve_folded_services;
  snaptr_faults = snaptr_fault_folds;
  snaptr_serving = snaptr_folded_services;
}
