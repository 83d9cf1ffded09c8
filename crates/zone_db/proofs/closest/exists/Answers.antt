use Rattle.std.proofs.Common.{inl, inr, refl, sym, subst}
use Rattle.dns_name.specs.Name.{AreSame}
use Rattle.zone_db.proofs.SeekLemmas.{exists_at, exists_below, exists_cases}
use Rattle.zone_db.proofs.closest.exists.Goals as goal

pub returns-then-same : goal.returns-then-same
returns-then-same c = (
  λ t. exists_at c.args.zone.now c.args.name.now (subst (AreSame c.args.name.now) c.apex.ensures.apex (c.if-same.ensures.0 refl)),
  λ e. c.if-same.true,
)

pub has_below-requires-clause-below : goal.has_below-requires-clause-below
has_below-requires-clause-below c = λ same. absurd (cc (c.if-same.false, c.if-same.ensures.1 (subst (AreSame c.args.name.now) (sym c.apex.ensures.apex) same)))

pub returns-else-same : goal.returns-else-same
returns-else-same c = (
  λ t. exists_below c.args.zone.now c.args.name.now (c.has_below.ensures.0 t),
  λ e. elim (exists_cases c.args.zone.now c.args.name.now e) [
    | inl same ↦ absurd (cc (c.if-same.ensures.1 (subst (AreSame c.args.name.now) (sym c.apex.ensures.apex) same)))
    | inr below ↦ c.has_below.ensures.1 below
  ],
)
