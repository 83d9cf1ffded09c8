use Rattle.std.proofs.Common.{rules, is_lt}
use Rattle.std.proofs.lemmas.List.Sorted.{ranks_by}
use Rattle.std.proofs.lemmas.Fn.{always_returns_same}
use Rattle.naptr_rule.specs.Rank.{rank_of}
use Rattle.naptr_rule.specs.declared.rule.Naptr.{Naptr}
use Rattle.naptr_rule.proofs.RuleLemmas.{rank_of-total}
use Rattle.wire_source.proofs.SortLemmas.{order_from_sorted}
use Rattle.wire_source.proofs.rules.sort.Goals as goal

pub returns-clause-ordered : goal.returns-clause-ordered
returns-clause-ordered c =
    order_from_sorted _ (c.in_ok-sort_by.ensures.sorted (λ (a b : Naptr). is_lt (rank_of a b))
    (ranks_by rank_of-total (λ (r : Naptr). r)) (always_returns_same _ _ _ (λ a r f k. search rules)))
