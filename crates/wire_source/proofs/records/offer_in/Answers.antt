use Rattle.std.proofs.Common.{refl, sym, subst}
use Rattle.wire_source.specs.Readings.{AreRulesAt, HasNoAlias, IsReferral}
use Rattle.wire_source.proofs.records.offer_in.Goals.{else-are_none-via-then-are_none+else-is_referral, else-are_none-via-else-are_none}
use Rattle.wire_source.proofs.records.offer_in.Goals as goal

pub returns-then-is_referral-clause-said : goal.returns-then-is_referral-clause-said
returns-then-is_referral-clause-said c = (
  subst (HasNoAlias c.args.name.now) c.as_slice-answers.ensures c.in_default.ensures,
  subst (AreRulesAt c.args.name.now c.args.message.now.answers) (c.if-are_none.ensures.0 refl)
      (subst (λ l. AreRulesAt c.args.name.now l c.in_ok-rules.rules) c.as_slice-answers.ensures c.in_ok-rules.ensures.rules),
  subst IsReferral c.as_slice-authority.ensures (c.if-is_referral.ensures.0 refl),
)

pub returns-clause-said : goal.returns-clause-said
returns-clause-said c = (
  subst (HasNoAlias c.args.name.now) c.as_slice-answers.ensures c.in_default.ensures,
  subst (λ l. AreRulesAt c.args.name.now l c.in_ok-rules.rules) c.as_slice-answers.ensures c.in_ok-rules.ensures.rules,
  λ none refers. elim c.else-are_none.branch [
    | else-are_none-via-then-are_none+else-is_referral w ↦
        absurd (cc (w.if-is_referral.ensures.1 (subst IsReferral (sym c.as_slice-authority.ensures) refers)))
    | else-are_none-via-else-are_none w ↦ absurd (cc (w.if-are_none.ensures.1 none))
  ],
)
