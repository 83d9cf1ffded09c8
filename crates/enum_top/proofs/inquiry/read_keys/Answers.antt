use Rattle.std.proofs.Common.{◌∙◌, ap, refl, sym}
use Rattle.enum_base.specs.Stages.Then.{goes, stops}
use Rattle.enum_top.specs.Applications.{as_apexes}
use Rattle.enum_top.specs.Running.{domains_in, listed}
use Rattle.enum_top.proofs.inquiry.read_keys.Goals as goal

pub returns-in-Ok : goal.returns-in-Ok
returns-in-Ok c =
    goes (listed c.in-Ok.tops) (ap as_apexes (ap domains_in (sym c.in-Ok.is) ∙ c.read_apexes.ensures))
    (rw (← c.as_slice.ensures.domains) c.keys_under.ensures)

pub returns-in-Err : goal.returns-in-Err
returns-in-Err c = stops _ (ap as_apexes (ap domains_in (sym c.in-Err.is) ∙ c.read_apexes.ensures)) refl
