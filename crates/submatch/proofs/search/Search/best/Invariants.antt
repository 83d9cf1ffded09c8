use Rattle.std.proofs.Common.{◌≡◌, ℕ, ◌+◌, ◌<◌, ◌≤◌}
use Rattle.submatch.specs.Best.{HasNoMatch}
use Rattle.submatch.specs.Table.{IsAlive, tree_of}
use Rattle.submatch.proofs.search.Search.best.Given as goal

abbrev pub invariant-loop-start : goal.invariant-loop-start
invariant-loop-start g l = record {
  none : (k : ℕ) → k < l.start → HasNoMatch l.self.fold l.self.text.now (tree_of l.self.ere.now l.table l.whole) k;
  looked : l.steps ≤ l.fn.steps + l.start;
  idle : (IsAlive l.table l.whole → ⊥) → l.steps ≡ l.fn.steps;
}
