use Rattle.std.proofs.Common.{inl, inr, refl, sym, subst}
use Rattle.dns_name.specs.Name.{AreSame}
use Rattle.zone_build.specs.Zone.{Zone}
use Rattle.zone_build.proofs.ListLemmas.{turn_of, turned_all, read_in}
use Rattle.zone_db.proofs.set.holds_apex.Goals as goal

pub returns-then-same : goal.returns-then-same
returns-then-same c = (
  λ t. (
    c.zone-item.result,
    read_in c.args.zones.now c.loop-zone.zone-index c.zone-item.result c.loop-zone-test.true c.zone-item.is,
    subst (λ a. AreSame a c.args.apex.now) c.apex.ensures.apex (c.if-same.ensures.0 refl),
  ),
  λ s. refl,
)

pub loop-zone-preserved : goal.loop-zone-preserved
loop-zone-preserved c = λ z k same. elim (turn_of c.args.zones.now c.loop-zone.zone-index c.zone-item.result z c.loop-zone-test.true c.zone-item.is k) [
  | inl old ↦ c.loop-zone.invariant z old same
  | inr new ↦ absurd
      (cc (c.if-same.ensures.1
      (subst (λ a. AreSame a c.args.apex.now) (sym c.apex.ensures.apex)
      (subst (λ (y : Zone). AreSame y.apex c.args.apex.now) new same))))
]

pub returns : goal.returns
returns c = (
  λ t. absurd (cc),
  λ (z, k, same). absurd (c.loop-zone.invariant z (turned_all c.args.zones.now c.loop-zone.zone-index z c.loop-zone-test.false k) same),
)
