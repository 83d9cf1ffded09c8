use Rattle.std.proofs.Common.{◌≡◌, IsTrue}
use Rattle.submatch.proofs.ColumnLemmas.{IsFilled}
use Rattle.submatch.proofs.search.Search.stay.Given as goal

abbrev pub invariant-loop-from : goal.invariant-loop-from
invariant-loop-from g l = IsFilled l.from (λ i j. IsTrue l.stops × (i ≡ j)) l.column
