use Rattle.std.proofs.Common.{◌≡◌, ◌++◌}
use Rattle.responder.proofs.added.push_all.Given as goal

abbrev pub invariant-loop-one : goal.invariant-loop-one
invariant-loop-one l = l.out ≡ l.fn.out ++ l.yielded
