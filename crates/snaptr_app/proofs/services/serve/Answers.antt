use Rattle.service_field.specs.Wanted.{wanted_text}
use Rattle.snaptr_app.proofs.ServesLemmas.{serves_read}
use Rattle.snaptr_app.proofs.services.serve.Goals as goal

pub returns-in-Ok : goal.returns-in-Ok
returns-in-Ok c =
    serves_read (wanted_text c.args.wanted) c.args.services.now c.in-Ok.services c.fits_snaptr.result c.in-Ok.ensures.spelled c.fits_snaptr.ensures.decided
