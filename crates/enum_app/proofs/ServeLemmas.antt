-- Services serve where they fit.
use Rattle.std.proofs.Common.{◌≡◌, ℕ, Bool, List, Option, IsTrue, ◌↔◌, subst}
use Rattle.service_field.specs.Faults.{services_fault}
use Rattle.service_field.specs.Fitting.{Fits, items_serve}
use Rattle.service_field.specs.Tags.{Item}
use Rattle.service_field.specs.Services.{SpellsServices, services_items}
use Rattle.service_field.proofs.FitLemmas.{serve_decides}
use Rattle.service_field.proofs.ServeLemmas.{serves_as_read, serves_where}
use Rattle.service_field.proofs.SpellLemmas.{services_read, services_spelled}
use Rattle.enum_app.specs.App.{enum_serves}

pub serves_read : (wanted : Option (List ℕ)) (services text : List ℕ) (items : List Item) (r : Bool) → text ≡ services
    → SpellsServices text items → r ≡ items_serve wanted items → r ≡ enum_serves wanted services
serves_read wanted services text items r same spelled is =
    serves_as_read (services_fault services) (services_items services) items (items_serve wanted) r
    (services_read services items (subst (λ t. SpellsServices t items) same spelled)) is

pub serves_where_it_fits : (wanted : Option (List ℕ)) (services : List ℕ)
    → IsTrue (enum_serves wanted services) ↔ ((items : List Item) × SpellsServices services items × Fits wanted items)
serves_where_it_fits wanted services =
    serves_where (services_fault services) (services_items services) (SpellsServices services) (Fits wanted)
    (items_serve wanted) (services_spelled services) (services_read services) (serve_decides wanted)
