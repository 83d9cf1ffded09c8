use Rattle.std.proofs.Common.{◌+◌, ◌≤◌}
use Rattle.submatch.proofs.JoiningLemmas.{IsWordGone}
use Rattle.submatch.proofs.column.Column.join_word.Given as goal

abbrev pub decreases-loop-left : goal.decreases-loop-left
decreases-loop-left g l = l.left

abbrev pub invariant-loop-left : goal.invariant-loop-left
invariant-loop-left g l = record {
  gone : IsWordGone l.self l.word l.start l.fn.row l.left l.at l.row;
  looked : l.steps + l.start ≤ l.fn.steps + l.at;
  up : l.fn.steps ≤ l.steps;
}
