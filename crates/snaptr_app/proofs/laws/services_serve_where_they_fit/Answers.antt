use Rattle.snaptr_app.proofs.ServesLemmas.{serves_where_it_fits}
use Rattle.snaptr_app.proofs.laws.services_serve_where_they_fit.Goals as goal

pub returns : goal.returns
returns c = serves_where_it_fits
