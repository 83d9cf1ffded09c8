use Rattle.std.proofs.Common.{◌+◌, take, refl, sym, subst, ◌∙◌}
use Rattle.std.specs.Prelude.{Contains}
use Rattle.wire_source.specs.Sorting.{AreOnce}
use Rattle.wire_source.proofs.SortLemmas.{once_next, once_passed, order_of_once}
use Rattle.wire_source.proofs.rules.each_once.Goals.{then-is_further+in_ok-push, else-is_further}
use Rattle.wire_source.proofs.rules.each_once.Goals as goal

pub loop-rule-preserved : goal.loop-rule-preserved
loop-rule-preserved c = elim c.if-is_further.branch [
  | then-is_further+in_ok-push w ↦
      subst (AreOnce (take (c.loop-rule.rule-index + 1) c.args.rules.now)) (sym (w.once-is ∙ w.in_ok-push.ensures.ok))
      (once_next c.args.rules.now c.loop-rule.rule-index c.rule-item.result c.loop-rule.once c.loop-rule-test.true c.rule-item.is
      c.loop-rule.invariant (λ s k. w.if-is_further.ensures.after refl s (subst (λ l. Contains l s) (sym c.as_slice.ensures) k)))
  | else-is_further w ↦
      subst (AreOnce (take (c.loop-rule.rule-index + 1) c.args.rules.now)) (sym w.once-is)
      (once_passed c.args.rules.now c.loop-rule.rule-index c.rule-item.result c.loop-rule.once c.loop-rule-test.true c.rule-item.is
      c.loop-rule.invariant (subst (λ l. Contains l c.rule-item.result) c.as_slice.ensures (w.if-is_further.ensures.among refl)))
]

pub is_further-requires-clause-ordered : goal.is_further-requires-clause-ordered
is_further-requires-clause-ordered c = λ s k.
    order_of_once c.args.rules.now c.loop-rule.rule-index c.rule-item.result c.loop-rule.once c.requires c.loop-rule-test.true c.rule-item.is
    c.loop-rule.invariant s (subst (λ l. Contains l s) c.as_slice.ensures k)
