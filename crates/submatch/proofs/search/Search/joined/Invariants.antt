use Rattle.std.proofs.Common.{◌≡◌, ◌+◌, ◌*◌, ◌≤◌, length}
use Rattle.submatch.specs.Rows.{StopsOrGoes}
use Rattle.submatch.proofs.ColumnLemmas.{IsFilled}
use Rattle.submatch.proofs.search.Search.joined.Given as goal

abbrev pub invariant-loop-from : goal.invariant-loop-from
invariant-loop-from g l = IsFilled l.from (StopsOrGoes l.joint.stops l.joint.empties l.part l.rest) l.column ×
    (l.steps ≤ l.fn.steps + l.from * (2 * (length l.self.text.now + 1))) × (length l.part ≡ 0 → l.steps ≡ l.fn.steps)
