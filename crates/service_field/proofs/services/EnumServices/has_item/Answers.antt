use Rattle.std.proofs.Common.{rules, tests, ◌==◌, ◌∙◌, sym, ap}
use Rattle.std.proofs.lemmas.Iterator.Search.{any_from_yields_List}
use Rattle.std.proofs.lemmas.Iterator.Splits.{YieldsList-from_slice_split}
use Rattle.std.specs.List.{list_any}
use Rattle.service_field.specs.Fitting.{begins}
use Rattle.service_field.specs.Services.{plus}
use Rattle.service_field.specs.Tags.{tags_of}
use Rattle.service_field.proofs.SplitLemmas.{any_of_map, cut}
use Rattle.service_field.proofs.services.EnumServices.has_item.Goals as goal

pub returns : goal.returns
returns c =
    any_from_yields_List (λ part. begins (tags_of c.args.tags.now) (tags_of part)) _ _ c.any.result c.any.ensures.ran
    (YieldsList-from_slice_split _
    (λ b. b == plus) c.self.inside.items.now c.split.ensures.rest c.split.ensures.done c.split.ensures.closure
    (λ x b q k. search (rules, tests)))
    (λ x b q k. search (rules, tests))
    ∙ sym (any_of_map (begins (tags_of c.args.tags.now)) tags_of (cut plus c.self.inside.items.now))
    ∙ ap (list_any (begins (tags_of c.args.tags.now))) c.self.view_is
