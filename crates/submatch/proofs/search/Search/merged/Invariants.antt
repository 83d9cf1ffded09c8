use Rattle.std.proofs.Common.{◌+◌, ◌*◌, ◌≤◌, length}
use Rattle.submatch.specs.Table.{LeadsSome}
use Rattle.submatch.proofs.ColumnLemmas.{IsFilled}
use Rattle.submatch.proofs.search.Search.merged.Given as goal

abbrev pub invariant-loop-from : goal.invariant-loop-from
invariant-loop-from g l = IsFilled l.from (λ i j. LeadsSome l.table l.inside (length l.inside) i j) l.column ×
    (l.steps ≤ l.fn.steps + l.from * length l.inside)
