use Rattle.enum_app.proofs.ServeLemmas.{serves_where_it_fits}
use Rattle.enum_app.proofs.laws.services_serve_where_they_fit.Goals as goal

pub returns : goal.returns
returns c = serves_where_it_fits
