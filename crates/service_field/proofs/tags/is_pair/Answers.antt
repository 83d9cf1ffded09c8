use Rattle.std.proofs.Common.{◌∙◌, ap, is_none}
use Rattle.service_field.proofs.FitLemmas.{none_result, pair_test}
use Rattle.service_field.proofs.tags.is_pair.Goals as goal

pub returns : goal.returns
returns c = none_result c.is_none.result c.pair_fault.result c.is_none.ensures ∙ ap is_none c.pair_fault.ensures ∙ pair_test c.args.text.now
