use Rattle.std.proofs.Common.{ℕ, ◌+◌, ◌<◌, ◌≤◌}
use Rattle.posix_ere.specs.Parts.{parts_of}
use Rattle.submatch.specs.Parses.{Parses, IsBranch}
use Rattle.submatch.specs.Table.{tree_of}
use Rattle.submatch.proofs.search.Search.earliest.Given as goal

abbrev pub invariant-loop-k : goal.invariant-loop-k
invariant-loop-k g l = record {
  looked : l.steps ≤ l.fn.steps + l.k;
  earlier : (d : ℕ) (b : Parses) → d < l.k
      → IsBranch l.self.fold l.self.text.now
      (parts_of (tree_of l.self.ere.now l.table l.number)) d l.over.from l.over.to b → ⊥;
}
