-- Which services serve, as a statement (RFC 3958, section 2.2.2).
use Rattle.std.specs.Prelude.{ℕ, List, Option, IsTrue, ◌↔◌}
use Rattle.service_field.specs.Fitting.{SnaptrFits}
use Rattle.service_field.specs.Tags.{Item}
use Rattle.service_field.specs.Services.{SpellsSnaptr}
use Rattle.snaptr_app.specs.App.{serves}

-- services serve exactly where they are spelled by a service and protocols that fit what is wanted
abbrev pub ServesWhereItFits : Type 0
ServesWhereItFits =
    (wanted : Option (List ℕ)) (services : List ℕ) → IsTrue (serves wanted services) ↔ ((item : Item) × SpellsSnaptr services item × SnaptrFits wanted item)
