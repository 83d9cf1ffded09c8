use Rattle.std.proofs.Common.{◌≡◌, inl, inr, refl, sym, subst}
use Rattle.dns_wire.specs.Kinds.{soa}
use Rattle.zone_build.specs.Zone.{AreRepeats}
use Rattle.zone_build.specs.Building.{Given}
use Rattle.zone_build.proofs.ListLemmas.{turn_of, turned_all, read_in}
use Rattle.zone_build.proofs.soa.is_only_soa.Goals as goal

pub returns-then-not-goes_with : goal.returns-then-not-goes_with
returns-then-not-goes_with c = (
  λ t. absurd (cc),
  λ all. absurd
      (cc (c.if-not-goes_with.ensures.1
      (all c.entry-item.result
      (read_in c.args.entries.now c.loop-entry.entry-index c.entry-item.result c.loop-entry-test.true
      c.entry-item.is)))),
)

pub loop-entry-preserved : goal.loop-entry-preserved
loop-entry-preserved c = λ e k. elim (turn_of c.args.entries.now c.loop-entry.entry-index c.entry-item.result e c.loop-entry-test.true c.entry-item.is k) [
  | inl old ↦ c.loop-entry.invariant e old
  | inr new ↦
      subst (λ (g : Given). g.given.kind ≡ soa → AreRepeats c.args.first.now.given g.given) (sym new) (c.if-not-goes_with.ensures.0 refl)
]

pub returns : goal.returns
returns c = (
  λ t e k is. c.loop-entry.invariant e (turned_all c.args.entries.now c.loop-entry.entry-index e c.loop-entry-test.false k) is,
  λ all. refl,
)
