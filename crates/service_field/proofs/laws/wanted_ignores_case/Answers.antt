use Rattle.service_field.proofs.FoldLemmas.{serve_folded_wanted, snaptr_folded_wanted}
use Rattle.service_field.proofs.laws.wanted_ignores_case.Goals as goal

pub returns : goal.returns
returns c = record { serving = serve_folded_wanted; snaptr_serving = snaptr_folded_wanted }
