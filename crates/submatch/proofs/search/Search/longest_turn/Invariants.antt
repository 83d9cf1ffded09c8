use Rattle.std.proofs.Common.{ℕ, ◌+◌, ◌≤◌, length}
use Rattle.submatch.specs.Rows.{IsTurn}
use Rattle.submatch.proofs.search.Search.longest_turn.Given as goal

abbrev pub invariant-loop-end : goal.invariant-loop-end
invariant-loop-end g l = ((f : ℕ) → l.end ≤ f → IsTurn l.empties l.part l.rest l.over.from l.over.to f → ⊥) ×
    (l.steps + l.end ≤ l.fn.steps + (length l.self.text.now + 2))
