use Rattle.std.proofs.Common.{◌≡◌, ◌++◌, take}
use Rattle.registry.proofs.copies.copy_all.Given as goal

abbrev pub invariant-loop-one : goal.invariant-loop-one
invariant-loop-one l = l.to ≡ l.fn.to ++ take l.one-index l.from
