use Rattle.std.proofs.Common.{sym, subst, length, ◌∙◌}
use Rattle.zone_build.specs.Building.{IsOrdered}
use Rattle.zone_build.proofs.RunLemmas.{ordered_take, ordered_drop}
use Rattle.zone_build.proofs.ClashLemmas.{IsMixing, mixing_none, mixing_passed, mixing_met, mixing_all}
use Rattle.zone_build.proofs.build.first_mixed.Goals as goal
use Rattle.zone_build.proofs.build.first_mixed.Goals.{then-is_mixed, else-is_mixed}

pub loop-at-init : goal.loop-at-init
loop-at-init c = mixing_none c.args.sorted.now

pub is_mixed-requires-clause-ordered : goal.is_mixed-requires-clause-ordered
is_mixed-requires-clause-ordered c =
    subst IsOrdered (sym c.run_at-owner.ensures.part) (ordered_take _ _ (ordered_drop c.loop-at.at c.args.sorted.now c.requires))

pub loop-at-preserved : goal.loop-at-preserved
loop-at-preserved c = elim c.if-is_mixed.branch [
  | then-is_mixed w ↦
      subst (IsMixing c.args.sorted.now _) (sym (w.first-is ∙ w.lesser-first.ensures))
      (mixing_met c.args.sorted.now c.run_at-owner.result.now c.loop-at.at (length c.run_at-owner.result.now)
      c.loop-at.first w.least_place.result c.loop-at.invariant c.run_at-owner.ensures.run
      c.run_at-owner.ensures.part (c.is_mixed.ensures.0 w.if-is_mixed.true) w.least_place.ensures)
  | else-is_mixed w ↦
      subst (IsMixing c.args.sorted.now _) (sym w.first-is)
      (mixing_passed c.args.sorted.now c.run_at-owner.result.now c.loop-at.at (length c.run_at-owner.result.now)
      c.loop-at.first c.loop-at.invariant c.run_at-owner.ensures.run c.run_at-owner.ensures.part
      (λ m. absurd (cc (w.if-is_mixed.false, c.is_mixed.ensures.1 m))))
]

pub returns : goal.returns
returns c = mixing_all c.args.sorted.now c.loop-at.at c.loop-at.first c.loop-at-test.false c.loop-at.invariant
