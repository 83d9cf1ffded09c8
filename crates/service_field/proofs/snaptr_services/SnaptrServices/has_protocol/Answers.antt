use Rattle.std.proofs.Common.{rules, tests, refl, ◌==◌, ◌∙◌, ap}
use Rattle.std.proofs.lemmas.Iterator.Adapters.{YieldsList-from_skip}
use Rattle.std.proofs.lemmas.Iterator.Search.{any_from_yields_List}
use Rattle.std.proofs.lemmas.Iterator.Splits.{YieldsList-from_slice_split}
use Rattle.std.specs.List.{list_any}
use Rattle.service_field.specs.Fitting.{same_tag}
use Rattle.service_field.specs.Tags.{colon, other_tags}
use Rattle.service_field.proofs.snaptr_services.SnaptrServices.has_protocol.Goals as goal

pub returns : goal.returns
returns c =
    any_from_yields_List (same_tag c.args.protocol.now) _ _ c.any.result c.any.ensures.ran
    (YieldsList-from_skip 1
    (YieldsList-from_slice_split _ (λ b. b == colon) c.self.inside.text.now
    (rw c.skip.ensures.source c.split.ensures.rest) (rw c.skip.ensures.source c.split.ensures.done) refl
    (λ x b q k. search (rules, tests)))
    c.skip.ensures.count)
    (λ x b q k. search (rules, tests))
    ∙ ap (λ item. list_any (same_tag c.args.protocol.now) (other_tags item)) c.self.view_is
