use Rattle.std.proofs.Common.{rules, tests, refl, ◌==◌}
use Rattle.std.proofs.lemmas.Iterator.Adapters.{YieldsList-from_skip}
use Rattle.std.proofs.lemmas.Iterator.Search.{all_from_yields_List}
use Rattle.std.proofs.lemmas.Iterator.Splits.{YieldsList-from_slice_split}
use Rattle.std.specs.List.{list_any}
use Rattle.service_field.specs.Fitting.{same_tag}
use Rattle.service_field.specs.Tags.{colon, other_tags, tags_of}
use Rattle.service_field.proofs.FitLemmas.{offered}
use Rattle.service_field.proofs.snaptr_services.SnaptrServices.offers.Goals as goal

pub returns-then-has_service : goal.returns-then-has_service
returns-then-has_service c =
    offered c.first_tag.result.now
    (tags_of c.args.item.now) c.args.self.now c.has_service.result c.all.result c.first_tag.ensures c.has_service.ensures c.if-has_service.true
    (all_from_yields_List (λ tag. list_any (same_tag tag) (other_tags c.args.self.now)) _ _ c.all.result c.all.ensures.ran
    (YieldsList-from_skip 1
    (YieldsList-from_slice_split _ (λ b. b == colon) c.args.item.now (rw c.skip.ensures.source c.split.ensures.rest)
    (rw c.skip.ensures.source c.split.ensures.done) refl (λ x b q k. search (rules, tests)))
    c.skip.ensures.count)
    (λ x b q k. search (rules, tests)))
