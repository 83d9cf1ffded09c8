use Rattle.std.proofs.Common.{refl, sym, subst, arith}
use Rattle.dns_name.specs.Name.{AreSame}
use Rattle.dns_wire.specs.Kinds.{ns}
use Rattle.zone_build.specs.Zone.{Zone, IsValid}
use Rattle.zone_db.proofs.SeekLemmas.{parent_inside, root_is_apex, shorter_above}
use Rattle.zone_db.specs.LookUp.{HasKind}
use Rattle.registry.proofs.LookLemmas.{apex_not_cut, cut_at, cut_off_above, cut_off_here}
use Rattle.registry.proofs.registry.Registry.+is_cut_off.Goals as goal

pub returns-then-same : goal.returns-then-same
returns-then-same t c = (
  λ no. cc no,
  λ h. absurd (apex_not_cut c.args.self.now c.args.name.now (subst IsValid c.self.view_is c.self.invariant)
      (subst (λ (z : Zone). AreSame c.args.name.now z.apex) c.self.view_is (c.same.ensures.0 c.if-same.true)) h),
)

pub returns-then-has_kind : goal.returns-then-has_kind
returns-then-has_kind t c =
    let apart : ¬ AreSame c.args.name.now c.args.self.now.apex =
    λ same. absurd (cc (c.if-same.false, c.same.ensures.1 (subst (λ (z : Zone). AreSame c.args.name.now z.apex) (sym c.self.view_is) same))) in
    (λ yes. cut_at c.args.self.now c.args.name.now apart (c.has_kind.ensures.0 c.if-has_kind.true), λ h. refl)

pub is_cut_off-requires : goal.is_cut_off-requires
is_cut_off-requires t c =
    let s = shorter_above c.args.name.now c.in-Some.above c.in-Some.ensures in
    let apart : ¬ AreSame c.args.name.now c.args.self.now.apex =
    λ same. absurd (cc (c.if-same.false, c.same.ensures.1 (subst (λ (z : Zone). AreSame c.args.name.now z.apex) (sym c.self.view_is) same))) in
    (omega (arith, s, c.decreases), parent_inside c.args.self.now.apex c.args.name.now c.in-Some.above c.in-Some.ensures apart c.requires)

pub returns-in-Some : goal.returns-in-Some
returns-in-Some t c =
    let none : ¬ HasKind c.args.self.now c.args.name.now ns = λ h. absurd (cc (c.if-has_kind.false, c.has_kind.ensures.1 h)) in (
      λ yes. cut_off_above c.args.self.now c.args.name.now c.in-Some.above c.in-Some.ensures (c.is_cut_off.ensures.0 yes),
      λ h. c.is_cut_off.ensures.1 (cut_off_here c.args.self.now c.args.name.now c.in-Some.above c.in-Some.ensures none h),
    )

pub returns-in-None : goal.returns-in-None
returns-in-None t c =
    let same = root_is_apex c.args.self.now.apex c.args.name.now c.in-None.ensures c.requires in
    absurd (cc (c.if-same.false, c.same.ensures.1 (subst (λ (z : Zone). AreSame c.args.name.now z.apex) (sym c.self.view_is) same)))
