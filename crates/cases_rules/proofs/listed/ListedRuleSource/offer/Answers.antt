use Rattle.std.proofs.Common.{◌≡◌, List, take, subst}
use Rattle.dns_name.specs.Name.{folded_labels}
use Rattle.naptr_data.specs.Sources.{BringsToFront}
use Rattle.naptr_data.specs.Zones.{Labels}
use Rattle.cases_rules.specs.State.{Cached}
use Rattle.cases_rules.proofs.listed.ListedRuleSource.offer.Goals as goal

pub returns-in-Ok-clause-keeps : goal.returns-in-Ok-clause-keeps
returns-in-Ok-clause-keeps c =
    let P : Cached → Type 0 = λ v. (all : List Labels) × BringsToFront (folded_labels c.args.name.now) v.names all × (c.keep.new.self.names ≡ take 2 all) in
    subst P c.in-Ok.ensures.cache c.keep.ensures.names
