-- Services serve where they fit.
use Rattle.std.proofs.Common.{◌≡◌, ℕ, Bool, List, Option, IsTrue, ◌↔◌}
use Rattle.service_field.specs.Faults.{snaptr_fault}
use Rattle.service_field.specs.Fitting.{SnaptrFits, snaptr_serves}
use Rattle.service_field.specs.Tags.{Item, tags_of}
use Rattle.service_field.specs.Services.{SpellsSnaptr}
use Rattle.service_field.proofs.FitLemmas.{snaptr_decides}
use Rattle.service_field.proofs.ServeLemmas.{serves_as_read, serves_where}
use Rattle.service_field.proofs.SpellLemmas.{snaptr_read, snaptr_spelled}
use Rattle.snaptr_app.specs.App.{serves}

pub serves_read : (wanted : Option (List ℕ)) (services : List ℕ) (item : Item) (r : Bool) → SpellsSnaptr services item
    → r ≡ snaptr_serves wanted item → r ≡ serves wanted services
serves_read wanted services item r spelled is =
    serves_as_read (snaptr_fault services) (tags_of services) item (snaptr_serves wanted) r (snaptr_read services item spelled) is

pub serves_where_it_fits : (wanted : Option (List ℕ)) (services : List ℕ)
    → IsTrue (serves wanted services) ↔ ((item : Item) × SpellsSnaptr services item × SnaptrFits wanted item)
serves_where_it_fits wanted services =
    serves_where (snaptr_fault services) (tags_of services) (SpellsSnaptr services) (SnaptrFits wanted)
    (snaptr_serves wanted) (snaptr_spelled services) (snaptr_read services) (snaptr_decides wanted)
