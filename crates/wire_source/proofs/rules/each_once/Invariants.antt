use Rattle.std.proofs.Common.{take}
use Rattle.wire_source.specs.Sorting.{AreOnce}
use Rattle.wire_source.proofs.rules.each_once.Given as goal

abbrev pub invariant-loop-rule : goal.invariant-loop-rule
invariant-loop-rule l = AreOnce (take l.rule-index l.rules) l.once
