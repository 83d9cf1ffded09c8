use Rattle.std.proofs.Common.{◌≡◌, take}
use Rattle.registry.proofs.filling.filled.Given as goal

abbrev pub invariant-loop-one : goal.invariant-loop-one
invariant-loop-one l = l.sets ≡ take l.one-index l.records
