-- What is wanted of services (this project's own).
use Rattle.std.specs.Prelude.{ℕ, List, Option, Some, None}
use Rattle.service_field.specs.declared.wanted.Wanted.{Wanted}
use Rattle.service_field.specs.declared.wanted.Wanted.TheVariants.{Any, List as Listed}

-- the text of the wanted list, and none where any services are wanted
abbrev pub wanted_text : Wanted → Option (List ℕ)
wanted_text Any = None
wanted_text (Listed text) = Some text.now
