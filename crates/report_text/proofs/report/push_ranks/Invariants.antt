use Rattle.std.proofs.Common.{◌≡◌, ◌++◌, take, flat_map, codes, decimal}
use Rattle.report_text.proofs.report.push_ranks.Given as goal

abbrev pub invariant-loop-rank : goal.invariant-loop-rank
invariant-loop-rank l = l.out ≡ l.initial.out ++ flat_map (λ rank. codes "." ++ decimal rank) (take l.rank-index l.ranks)
