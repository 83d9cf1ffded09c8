use Rattle.zone_build.proofs.ArrangeLemmas.{IsArranging}
use Rattle.zone_build.proofs.arrange.arrange.Given as goal

abbrev pub invariant-loop-next : goal.invariant-loop-next
invariant-loop-next l = IsArranging l.fn.records l.keeps l.next l.records l.who l.at
