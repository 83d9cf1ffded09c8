use Rattle.std.proofs.Common.{ℕ, ◌≤◌}
use Rattle.submatch.specs.Parses.{IsParse}
use Rattle.submatch.specs.Ends.{Reaches}
use Rattle.submatch.specs.Table.{tree_of}
use Rattle.submatch.proofs.search.Search.longest_end.Given as goal

abbrev pub invariant-loop-end : goal.invariant-loop-end
invariant-loop-end g l = (f : ℕ) → l.end ≤ f → Reaches (IsParse l.self.fold l.self.text.now (tree_of l.self.ere.now l.table l.number)) l.from f → ⊥
