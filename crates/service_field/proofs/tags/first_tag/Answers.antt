use Rattle.service_field.proofs.TagLemmas.{first_is_all, first_there}
use Rattle.service_field.proofs.tags.first_tag.Goals as goal

pub returns-in-Some : goal.returns-in-Some
returns-in-Some c = first_there c.args.text.now c.in-Some.n c.in-Some.ensures

pub returns-in-None : goal.returns-in-None
returns-in-None c = first_is_all c.args.text.now c.in-None.ensures
