use Rattle.std.proofs.Common.{length, refl}
use Rattle.zone_build.specs.Building.{givens_from}
use Rattle.zone_build.proofs.SizeLemmas.{apart_none, apart_more, none_large_yet}
use Rattle.zone_build.proofs.SetRunLemmas.{set_passed, set_met, none_met}
use Rattle.zone_build.proofs.build.first_large.Goals as goal

pub loop-at-init : goal.loop-at-init
loop-at-init c = record { apart = apart_none (givens_from 0 c.args.records.now); none = none_large_yet (givens_from 0 c.args.records.now) }

pub returns-then-is_large-clause-first : goal.returns-then-is_large-clause-first
returns-then-is_large-clause-first c =
    set_met c.args.records.now c.set_at-set.result.now c.loop-at.at
    (length c.set_at-set.result.now) c.loop-at.invariant.apart c.set_at-set.ensures.run c.set_at-set.ensures.part
    (c.if-is_large.ensures.0 refl) c.loop-at.invariant.none c.loop-at-test.true

pub loop-at-preserved : goal.loop-at-preserved
loop-at-preserved c = record {
  apart = apart_more (givens_from 0 c.args.records.now) c.loop-at.at (length c.set_at-set.result.now) c.loop-at.invariant.apart c.set_at-set.ensures.run;
  none = set_passed c.args.records.now c.set_at-set.result.now c.loop-at.at
      (length c.set_at-set.result.now) c.loop-at.invariant.apart c.set_at-set.ensures.run c.set_at-set.ensures.part
      (λ l. absurd (cc (c.if-is_large.ensures.1 l))) c.loop-at.invariant.none;
}

pub returns-clause-first : goal.returns-clause-first
returns-clause-first c = none_met c.args.records.now c.loop-at.at c.loop-at-test.false c.loop-at.invariant.none
