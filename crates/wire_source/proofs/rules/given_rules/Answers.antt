use Rattle.std.proofs.Common.{◌+◌, take, sym, subst, ◌∙◌}
use Rattle.wire_source.specs.Sorting.{AreGiven}
use Rattle.wire_source.proofs.RuleLemmas.{given_next, given_passed}
use Rattle.wire_source.proofs.rules.given_rules.Goals.{in-Some+in_ok-push, in_default}
use Rattle.wire_source.proofs.rules.given_rules.Goals as goal

pub loop-one-preserved : goal.loop-one-preserved
loop-one-preserved c = elim c.match-rule_in.branch [
  | in-Some+in_ok-push w ↦
      subst (AreGiven c.args.name.now (take (c.loop-one.one-index + 1) c.args.records.now))
      (sym ((λ i. (w.rules-is i).items) ∙ w.in_ok-push.ensures.items))
      (given_next c.args.name.now c.args.records.now c.loop-one.one-index c.one-item.result c.loop-one.rules.items w.in-Some.rule
      c.loop-one-test.true c.one-item.is c.loop-one.invariant w.in-Some.ensures)
  | in_default w ↦
      subst (AreGiven c.args.name.now (take (c.loop-one.one-index + 1) c.args.records.now)) (sym (λ i. (w.rules-is i).items))
      (given_passed c.args.name.now c.args.records.now c.loop-one.one-index c.one-item.result c.loop-one.rules.items c.loop-one-test.true
      c.one-item.is c.loop-one.invariant w.in_default.ensures)
]
