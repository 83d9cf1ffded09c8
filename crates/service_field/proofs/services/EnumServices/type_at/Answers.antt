use Rattle.std.proofs.Common.{◌≡◌, List, ℕ, Option, Some, None, rules, tests, ◌==◌, slice_get}
use Rattle.std.proofs.lemmas.Iterator.Consumers.{nth_from_yields_List}
use Rattle.std.proofs.lemmas.Iterator.Splits.{YieldsList-from_slice_split}
use Rattle.service_field.specs.Services.{plus}
use Rattle.service_field.proofs.SplitLemmas.{cut}
use Rattle.service_field.proofs.TypeLemmas.{some_type, no_type, within_items, past_items}
use Rattle.service_field.proofs.services.EnumServices.type_at.Goals as goal

missing : (c : goal.In-None) → ◌≡◌ {A = Option (List ℕ)} None (slice_get (cut plus c.self.inside.items.now) c.args.k)
missing c =
    nth_from_yields_List None c.nth.new.self c.args.k c.in-None.ensures.ran
    (YieldsList-from_slice_split _
    (λ b. b == plus) c.self.inside.items.now c.split.ensures.rest c.split.ensures.done c.split.ensures.closure
    (λ x b q k. search (rules, tests)))

pub returns-in-Some-clause-value : goal.returns-in-Some-clause-value
returns-in-Some-clause-value c =
    some_type c.self.inside.items.now c.args.k c.args.self.now c.in-Some.item.now c.first_tag.result.now c.self.view_is
    (nth_from_yields_List (Some c.in-Some.item) c.nth.new.self c.args.k c.in-Some.ensures.ran
    (YieldsList-from_slice_split _
    (λ b. b == plus) c.self.inside.items.now c.split.ensures.rest c.split.ensures.done c.split.ensures.closure
    (λ x b q k. search (rules, tests)))) c.first_tag.ensures

pub returns-in-Some-clause-none : goal.returns-in-Some-clause-none
returns-in-Some-clause-none c =
    within_items c.self.inside.items.now c.args.k c.args.self.now c.in-Some.item.now c.self.view_is
    (nth_from_yields_List (Some c.in-Some.item) c.nth.new.self c.args.k c.in-Some.ensures.ran
    (YieldsList-from_slice_split _
    (λ b. b == plus) c.self.inside.items.now c.split.ensures.rest c.split.ensures.done c.split.ensures.closure
    (λ x b q k. search (rules, tests))))

pub returns-in-None-clause-value : goal.returns-in-None-clause-value
returns-in-None-clause-value c = no_type c.self.inside.items.now c.args.k c.args.self.now c.self.view_is (missing c)

pub returns-in-None-clause-none : goal.returns-in-None-clause-none
returns-in-None-clause-none c = past_items c.self.inside.items.now c.args.k c.args.self.now c.self.view_is (missing c)
