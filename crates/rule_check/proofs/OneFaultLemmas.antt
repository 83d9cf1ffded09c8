-- A rule has one first fault at most, and a well-formed one has none.
use Rattle.std.proofs.Common.{◌≡◌, ◌⊎◌, inl, inr, ℕ, ◌<◌, Some, refl, sym, ap, ◌∙◌, arith}
use Rattle.naptr_rule.specs.declared.rule.Naptr.{Naptr}
use Rattle.service_field.specs.Applications.{Meaning}
use Rattle.subst_expr.specs.Laws.{OneFault, WellFormedHasNoFault}
use Rattle.rule_check.specs.WellFormed.{HasFault, OneRuleFault, WellFormedHasNoRuleFault, number}
use Rattle.rule_check.specs.declared.fault.RuleFault.{RuleFault}
use Rattle.rule_check.specs.declared.fault.RuleFault.TheVariants as fault
use Rattle.rule_check.proofs.CheckLemmas.{no_earlier}

-- two faults of a rule at one place of the order are one
same_number : OneFault → (m : Meaning) (rule : Naptr) (one other : RuleFault) → number one ≡ number other
    → HasFault m rule one → HasFault m rule other → one ≡ other
same_number law m rule fault.UnknownFlags fault.UnknownFlags e h k = refl
same_number law m rule fault.BothFields fault.BothFields e h k = refl
same_number law m rule fault.NoField fault.NoField e h k = refl
same_number law m rule fault.WrongField fault.WrongField e h k = refl
same_number law m rule (fault.Services why) (fault.Services other) e h k =
    let same : Some why ≡ Some other = sym h.0 ∙ k.0 in
    let equal : why ≡ other = cc in
    ap (λ x. fault.Services x) equal
same_number law m rule (fault.Regexp why) (fault.Regexp other) e h k =
    ap (λ x. fault.Regexp x) (law rule.regexp why other h.1 k.1 h.2 k.2)
same_number law m rule fault.NoScheme fault.NoScheme e h k = refl
same_number law m rule fault.UriForm fault.UriForm e h k = refl
same_number law m rule fault.Memory fault.Memory e h k = refl
same_number law m rule one other e h k = absurd (omega (arith, e))

pub one_rule_fault : OneFault → OneRuleFault
one_rule_fault law m rule one other h k = by (cases (number one) (number other))
  where
    cases : (n p : ℕ) → (n < p) ⊎ ((n ≡ p) ⊎ (p < n))
    cases n p = grind arith

    by : (number one < number other) ⊎ ((number one ≡ number other) ⊎ (number other < number one)) → one ≡ other
    by (inl less) = absurd (k.first one less h.here)
    by (inr (inl same)) = same_number law m rule one other same h.here k.here
    by (inr (inr less)) = absurd (h.first other less k.here)

-- a well-formed rule has no fault
pub no_fault : WellFormedHasNoFault → WellFormedHasNoRuleFault
no_fault law m rule fault.NoScheme w h = h.1 (w.scheme h.0)
no_fault law m rule fault.UriForm w h = h.2 (w.whole h.1 h.0)
no_fault law m rule f w h = no_earlier law m rule w.fields w.services w.regexp f (omega arith) h
