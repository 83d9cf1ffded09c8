use Rattle.std.proofs.Common.{ℕ, ◌+◌, ◌-◌, ◌<◌, ◌≤◌}
use Rattle.submatch.specs.Rows.{Has}
use Rattle.submatch.proofs.ClosedLemmas.{IsJoinedTo}
use Rattle.submatch.proofs.column.Column.join_new_rows.Given as goal

abbrev pub decreases-loop-at : goal.decreases-loop-at
decreases-loop-at g l = 256 - l.at

abbrev pub invariant-loop-at : goal.invariant-loop-at
invariant-loop-at g l = record {
  within : l.at ≤ 256;
  joined : IsJoinedTo l.self l.places l.from l.at l.fn.row l.row;
  looked : l.steps + l.from ≤ l.fn.steps + l.at;
  most : (n : ℕ) → l.from ≤ n → ((at : ℕ) → Has l.places at → at < n) → l.steps + l.from ≤ l.fn.steps + n;
  up : l.fn.steps ≤ l.steps;
}
