use Rattle.std.proofs.Common.{rules, is_lt}
use Rattle.std.proofs.lemmas.List.Sorted.{ranks_by}
use Rattle.std.proofs.lemmas.Fn.{always_returns_same}
use Rattle.zone_build.specs.Building.{Given, entry_order}
use Rattle.zone_build.proofs.OrderLemmas.{entry_order-total}
use Rattle.zone_build.proofs.SortLemmas.{ordered_from_sorted, stable_from_sorted}
use Rattle.zone_build.proofs.sort.sort.Goals as goal

pub returns-clause-ordered : goal.returns-clause-ordered
returns-clause-ordered c =
    ordered_from_sorted _ (c.in_ok-sort_by.ensures.sorted (λ (a b : Given). is_lt (entry_order a b))
    (ranks_by entry_order-total (λ (g : Given). g)) (always_returns_same _ _ _ (λ a r f k. search rules)))

pub returns-clause-stable : goal.returns-clause-stable
returns-clause-stable c =
    stable_from_sorted _ (c.in_ok-sort_by.ensures.sorted (λ (a b : Given). is_lt (entry_order a b))
    (ranks_by entry_order-total (λ (g : Given). g)) (always_returns_same _ _ _ (λ a r f k. search rules)))
