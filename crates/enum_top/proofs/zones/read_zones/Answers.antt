use Rattle.std.proofs.Common.{refl}
use Rattle.enum_base.specs.Stages.Then.{goes, stops}
use Rattle.enum_top.proofs.DoesLemmas.{done, got, passed, stopped_by}
use Rattle.enum_top.proofs.FileLoopLemmas.{all_read, none_read, one_read, stopped_next, same_shelf}
use Rattle.enum_top.proofs.ObjectLemmas.{idle_shelf, shelf_as}
use Rattle.enum_top.proofs.ShelfLemmas.{then_reads}
use Rattle.enum_top.proofs.zones.read_zones.Goals as goal

pub returns-in_err-zone-clause-does : goal.returns-in_err-zone-clause-does
returns-in_err-zone-clause-does g c =
    passed c.from_residual.ensures.1
    (stopped_by (λ object used. used)
    (λ cause stopped. stopped_next _ _ _ _ _ cause c.loop-place-test.true c.loop-place.invariant.leads
    (stops cause
    (same_shelf _ _ _ _ _ c.loop-place.invariant.shelf.files stopped) refl)) c.in_err-zone.ensures.does)

pub returns-in_err-add_zone-clause-does : goal.returns-in_err-add_zone-clause-does
returns-in_err-add_zone-clause-does g c =
    passed c.from_residual-in_err-add_zone.ensures.1
    (stopped_by (λ object none. absurd none)
    (λ cause stopped. stopped_next _ _ _ _ _ cause c.loop-place-test.true c.loop-place.invariant.leads
    (goes _ (same_shelf _ _ _ _ _ c.loop-place.invariant.shelf.files
    (got c.in_ok-zone.ensures.does)) stopped)) c.in_err-add_zone.ensures)

pub loop-place-preserved : goal.loop-place-preserved
loop-place-preserved g c = record {
  leads = one_read _ _ _ _ _ _ c.loop-place-test.true c.loop-place.invariant.leads
      (goes _ (same_shelf _ _ _ _ _ c.loop-place.invariant.shelf.files (got c.in_ok-zone.ensures.does))
      (got c.in_ok-add_zone.ensures));
  shelf = then_reads _ _ _ _ _ (λ none. none) c.loop-place.invariant.shelf
      (shelf_as _ _ (λ e. absurd (cc e)) (λ none. absurd none) _ _ c.in_ok-zone.ensures.shelf);
}

pub returns-clause-does : goal.returns-clause-does
returns-clause-does g c = done (all_read _ _ _ _ _ c.loop-place-test.false c.loop-place.invariant.leads)

pub loop-place-init : goal.loop-place-init
loop-place-init g c = record {
  leads = none_read _ _ _ _ c.new-zones.ensures;
  shelf = idle_shelf _ ⊥ (λ none. none);
}
