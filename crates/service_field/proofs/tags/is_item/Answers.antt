use Rattle.std.proofs.Common.{rules, tests, ◌==◌}
use Rattle.std.proofs.lemmas.Iterator.Search.{all_from_yields_List}
use Rattle.std.proofs.lemmas.Iterator.Splits.{YieldsList-from_slice_split}
use Rattle.service_field.specs.Fitting.{is_tag}
use Rattle.service_field.specs.Tags.{colon}
use Rattle.service_field.proofs.TagLemmas.{item_test}
use Rattle.service_field.proofs.tags.is_item.Goals as goal

pub returns : goal.returns
returns c =
    item_test c.args.alphabet c.args.text.now c.all.result
    (all_from_yields_List (is_tag c.args.alphabet) _ _ c.all.result c.all.ensures.ran
    (YieldsList-from_slice_split _
    (λ b. b == colon) c.args.text.now c.split.ensures.rest c.split.ensures.done c.split.ensures.closure
    (λ x b q k. search (rules, tests)))
    (λ x b q k. search (rules, tests)))
