use Rattle.std.proofs.Common.{take}
use Rattle.wire_source.specs.Sorting.{AreGiven}
use Rattle.wire_source.proofs.rules.given_rules.Given as goal

abbrev pub invariant-loop-one : goal.invariant-loop-one
invariant-loop-one l = AreGiven l.name (take l.one-index l.records) l.rules.items
