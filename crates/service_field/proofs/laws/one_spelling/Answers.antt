use Rattle.service_field.proofs.SpellLemmas.{one_list_of_services, one_service, one_snaptr_list, one_wanted_list}
use Rattle.service_field.proofs.laws.one_spelling.Goals as goal

pub returns : goal.returns
returns c = record {
  services = one_list_of_services;
  wanted = one_wanted_list;
  snaptr_services = one_service;
  snaptr_wanted = one_snaptr_list;
}
