-- The names that are kept, the last asked first.
use Rattle.std.specs.Prelude.{List, [], ◌∷◌}
use Rattle.naptr_data.specs.Zones.{Labels}
use Rattle.cases_rules.specs.declared.kept.Kept.{Kept}
use Rattle.cases_rules.specs.declared.kept.Kept.TheVariants.{Nothing, One, Two}

abbrev pub names_of : Kept → List Labels
names_of Nothing = []
names_of (One first) = first ∷ []
names_of (Two first second) = first ∷ second ∷ []
