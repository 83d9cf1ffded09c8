use Rattle.std.proofs.Common.{◌≡◌, ℕ, ◌+◌, ◌++◌, sym, ap, subst, ◌∙◌, length, map, List, [], ◌∷◌}
use Rattle.zone_build.specs.Building.{Given, IsFirstCopy, copy_of, keep_of, settled}
use Rattle.zone_build.specs.declared.keep.Keep.{Keep}
use Rattle.zone_build.specs.declared.entry.Key.TheVariants.{Whole}
use Rattle.zone_build.proofs.ListLemmas.{read_in}
use Rattle.zone_build.proofs.MergeLemmas.{IsMergingFrom, chosen_copy, from_none, from_more, from_all, one_among}
use Rattle.zone_build.proofs.MergeLemmas.{one_kept, first_copy_repeats, head_earliest, run_here}
use Rattle.zone_build.proofs.keep.push_set.Goals as goal

pushed : (old new : List Keep) (head : Given) (place ttl : ℕ) → place ≡ head.place
    → new ≡ old ++ record { place = place; ttl = ttl } ∷ []
    → new ≡ old ++ map keep_of (record { from = head; ttl = ttl } ∷ [])
pushed old new head place ttl is made = made ∙ ap (λ p. old ++ record { place = p; ttl = ttl } ∷ []) is

pub loop-at-init : goal.loop-at-init
loop-at-init c = from_none Whole (λ e. Unit {0}) (IsFirstCopy c.args.set.now c.least_ttl-ttl.result) c.args.set.now c.args.out.now.items

pub loop-at-preserved : goal.loop-at-preserved
loop-at-preserved c =
    let set = c.args.set.now in
    let part = c.run_at-repeats.result.now in
    let ttl = c.least_ttl-ttl.result in
    let run = c.run_at-repeats.ensures.run in
    let cut = c.run_at-repeats.ensures.part in
    let head = c.index-repeats-0.result in
    let among = read_in part 0 head run.some c.index-repeats-0.is in
    let m = c.loop-at.invariant in
    let first = head_earliest set part c.loop-at.at (length part) (λ e. Unit {0}) (IsFirstCopy set ttl)
    (map copy_of m.0) head m.3 c.requires.stable run cut among c.index-repeats-0.is in
    subst (λ now. IsMergingFrom Whole (λ e. Unit {0}) (IsFirstCopy set ttl) set (c.loop-at.at + length part)
    c.args.out.now.items now)
    (sym {A = List Keep}
    (pushed c.loop-at.out.items c.push.new.self.items head c.place.result ttl c.place.ensures
    c.in_ok-push.ensures.items))
    (from_more Whole (λ e. Unit {0}) (IsFirstCopy set ttl) (first_copy_repeats set ttl) set part c.loop-at.at
    (length part) c.args.out.now.items c.loop-at.out.items (record { from = head; ttl = ttl } ∷ []) m run cut
    (one_among part head ttl among)
    (one_kept set ttl part head (settled ttl head.given) among
    (run_here Whole set part c.loop-at.at (length part) run cut) first (chosen_copy ttl head)))

pub returns : goal.returns
returns c =
    let f = from_all Whole (λ e. Unit {0})
    (IsFirstCopy c.args.set.now c.least_ttl-ttl.result) c.args.set.now c.loop-at.at c.args.out.now.items
    c.loop-at.out.items c.loop-at-test.false c.loop-at.invariant in
    (f.0, c.least_ttl-ttl.result, f.1, c.least_ttl-ttl.ensures, f.2, f.3)
