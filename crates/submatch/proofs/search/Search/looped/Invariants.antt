use Rattle.std.proofs.Common.{◌≡◌, ◌+◌, ◌*◌, ◌≤◌, length}
use Rattle.posix_ere.specs.Nodes.{tree_at}
use Rattle.submatch.proofs.EndsOfRowsLemmas.{IsLoopedFrom}
use Rattle.submatch.proofs.search.Search.looped.Given as goal

abbrev pub invariant-loop-from : goal.invariant-loop-from
invariant-loop-from g l = IsLoopedFrom l.self.fold l.self.text.now (tree_at l.self.ere.now l.child) l.least l.from l.column ×
    (l.steps + l.from * (2 * (length l.self.text.now + 1)) ≤ l.fn.steps + (length l.self.text.now + 1) * (2 * (length l.self.text.now + 1))) ×
    (length l.part ≡ 0 → l.steps ≡ l.fn.steps)
