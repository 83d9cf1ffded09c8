use Rattle.service_field.specs.Wanted.{wanted_text}
use Rattle.enum_app.proofs.ServeLemmas.{serves_read}
use Rattle.enum_app.proofs.app.EnumAppDddsApp.fits.Goals as goal

pub returns-in-Ok : goal.returns-in-Ok
returns-in-Ok c =
    serves_read
    (wanted_text c.args.wanted) c.args.services.now c.as_bytes.result.now c.in-Ok.services c.fits_enum.result
    c.as_bytes.ensures.value c.in-Ok.ensures.spelled c.fits_enum.ensures.decided
