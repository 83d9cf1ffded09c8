-- Which services serve, as a statement (RFC 6116, section 3.4.3).
use Rattle.std.specs.Prelude.{ℕ, List, Option, IsTrue, ◌↔◌}
use Rattle.service_field.specs.Fitting.{Fits}
use Rattle.service_field.specs.Tags.{Item}
use Rattle.service_field.specs.Services.{SpellsServices}
use Rattle.enum_app.specs.App.{enum_serves}

-- services serve exactly where they are spelled by items that fit what is wanted
abbrev pub ServesWhereItFits : Type 0
ServesWhereItFits =
    (wanted : Option (List ℕ)) (services : List ℕ)
    → IsTrue (enum_serves wanted services)
    ↔ ((items : List Item) × SpellsServices services items × Fits wanted items)
