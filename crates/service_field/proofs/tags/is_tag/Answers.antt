use Rattle.std.proofs.Common.{◌∙◌, ap, is_none}
use Rattle.service_field.proofs.FitLemmas.{none_result, tag_test}
use Rattle.service_field.proofs.tags.is_tag.Goals as goal

pub returns : goal.returns
returns c = none_result c.is_none.result c.tag_fault.result c.is_none.ensures ∙ ap is_none c.tag_fault.ensures ∙ tag_test c.args.alphabet c.args.text.now
