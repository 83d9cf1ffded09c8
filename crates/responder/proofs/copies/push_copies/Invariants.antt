use Rattle.std.proofs.Common.{◌≡◌, ◌++◌, take}
use Rattle.responder.proofs.copies.push_copies.Given as goal

abbrev pub invariant-loop-one : goal.invariant-loop-one
invariant-loop-one l = l.out ≡ l.fn.out ++ take l.one-index l.records
