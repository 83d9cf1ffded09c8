use Rattle.std.proofs.Common.{refl, sym, subst}
use Rattle.zone_db.specs.LookUp.{HasKind}
use Rattle.std.specs.List.{AllByRecursion}
use Rattle.std.proofs.Common.{take}
use Rattle.registry.specs.Commands.{HasRecord}
use Rattle.registry.proofs.LookLemmas.{all_more, kind_record, no_record, other_kinds, soa_record}
use Rattle.registry.proofs.registry.Registry.has_record.Goals as goal

pub returns-then-same : goal.returns-then-same
returns-then-same c = (
  λ t. subst (λ z. HasRecord z c.args.owner.now) c.self.view_is
      (soa_record c.self.inside.apex c.self.inside.soa c.self.inside.sets c.args.owner.now (c.same.ensures.0 c.if-same.true)),
  λ h. refl,
)

pub loop-kind-init : goal.loop-kind-init
loop-kind-init c = tt

pub returns-then-has_kind : goal.returns-then-has_kind
returns-then-has_kind c = (λ t. kind_record c.args.self.now c.args.owner.now _ (c.has_kind.ensures.0 c.if-has_kind.true), λ h. refl)

pub loop-kind-preserved : goal.loop-kind-preserved
loop-kind-preserved c =
    all_more (λ kind. ¬ HasKind c.args.self.now c.args.owner.now kind) other_kinds c.loop-kind.kind-index 0 c.loop-kind-test.true
    c.loop-kind.invariant (λ h. absurd (cc (c.if-has_kind.false, c.has_kind.ensures.1 h)))

pub returns : goal.returns
returns c = (
  λ t. cc t,
  λ h. absurd (no_record c.self.inside.apex c.self.inside.soa c.self.inside.sets c.args.owner.now c.self.invariant
      (λ same. absurd (cc (c.if-same.false, c.same.ensures.1 same))) c.loop-kind.kind-index c.loop-kind-test.false
      (subst (λ z. AllByRecursion (λ kind. ¬ HasKind z c.args.owner.now kind) (take c.loop-kind.kind-index other_kinds)) (sym c.self.view_is)
      c.loop-kind.invariant)
      (subst (λ z. HasRecord z c.args.owner.now) (sym c.self.view_is) h)),
)
