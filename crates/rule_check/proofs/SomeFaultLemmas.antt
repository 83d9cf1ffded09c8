-- Each rule is well formed or has a first fault.
use Rattle.std.proofs.Common.{◌≡◌, ◌≢◌, ◌⊎◌, inl, inr, ℕ, ◌<◌, ◌==◌, not, Bool, true, false, List, [], ◌∷◌, ◌++◌}
use Rattle.std.proofs.Common.{Option, Some, None, Result, Ok, Err, refl, sym, ap, subst, ◌∙◌, arith}
use Rattle.std.specs.List.{list_all}
use Rattle.std.specs.Prelude.{codes}
use Rattle.naptr_data.proofs.DecideLemmas.{Either, lists, numbers}
use Rattle.naptr_rule.specs.declared.rule.Naptr.{Naptr}
use Rattle.service_field.specs.Applications.{Meaning}
use Rattle.service_field.specs.declared.fault.ServiceFault.{ServiceFault}
use Rattle.service_field.specs.declared.kind.Kind.{Kind}
use Rattle.service_field.specs.declared.kind.Kind.TheVariants as kind
use Rattle.subst_expr.specs.Laws.{FormedOrFault, OneSplit, SplitHasPieces, WellFormedHasNoFault}
use Rattle.subst_expr.specs.Regexp.{IsRegexpFault, IsWellFormed}
use Rattle.subst_expr.specs.Split.{Splits}
use Rattle.subst_expr.specs.declared.regexp.RegexpFault.{RegexpFault}
use Rattle.subst_expr.specs.declared.regexp.RegexpFault.TheVariants as regexp
use Rattle.subst_expr.specs.declared.subst.Subst.{Subst}
use Rattle.rule_check.specs.Checking.{HasUriForm, IsUriFault, literal_from}
use Rattle.rule_check.specs.Fields.{HasFields}
use Rattle.rule_check.specs.WellFormed.{BeginsWithScheme, HasFault, HasGoodServices, HasScheme, HasWhole}
use Rattle.rule_check.specs.WellFormed.{IsFirstFault, IsWellFormedRule, TakesWhole, WellFormedOrFault, number}
use Rattle.rule_check.specs.declared.fault.RuleFault.{RuleFault}
use Rattle.rule_check.specs.declared.fault.RuleFault.TheVariants as fault
use Rattle.rule_check.proofs.CheckLemmas.{before_regexp, before_services, same_of, scheme_cut, scheme_none, scheme_there, scheme_told, uri_first}
use Rattle.rule_check.proofs.DecideLemmas.{HasColon, both, cut_or_plain, is_empty, is_true, one_of, regexp_or_not, replacement_or_not, scheme_or_not}
use Rattle.std.proofs.lemmas.List.Sums.{AllPass-from_list_all}

is_step : (k : Kind) → Either (k ≡ kind.Step)
is_step kind.Step = inl refl
is_step kind.TerminalUri = inr (λ e. cc)
is_step (kind.TerminalName letter) = inr (λ e. cc)
is_step kind.Unknown = inr (λ e. cc)

is_uri : (k : Kind) → Either (k ≡ kind.TerminalUri)
is_uri kind.Step = inr (λ e. cc)
is_uri kind.TerminalUri = inl refl
is_uri (kind.TerminalName letter) = inr (λ e. cc)
is_uri kind.Unknown = inr (λ e. cc)

is_unknown : (k : Kind) → Either (k ≡ kind.Unknown)
is_unknown kind.Step = inr (λ e. cc)
is_unknown kind.TerminalUri = inr (λ e. cc)
is_unknown (kind.TerminalName letter) = inr (λ e. cc)
is_unknown kind.Unknown = inl refl

fields_or_not : (k : Kind) (by_regexp : Bool) (rule : Naptr) → Either (HasFields k by_regexp rule)
fields_or_not kind.Step by_regexp rule = one_of (replacement_or_not rule) (both (is_true by_regexp) (regexp_or_not rule))
fields_or_not kind.TerminalUri by_regexp rule = regexp_or_not rule
fields_or_not (kind.TerminalName letter) by_regexp rule = replacement_or_not rule
fields_or_not kind.Unknown by_regexp rule = inr (λ h. h)

-- the first fault of a rule that has not the field that its flags ask for
module _ (m : Meaning) (rule : Naptr) where
  none_before : (e : RuleFault) → number e < 1 → HasFault m rule e → ⊥
  none_before fault.UnknownFlags less h = absurd (omega (arith, less))
  none_before e less h = absurd (omega (arith, less))

  known_before : (HasFault m rule fault.UnknownFlags → ⊥) → (e : RuleFault) → number e < 2 → HasFault m rule e → ⊥
  known_before known fault.UnknownFlags less h = known h
  known_before known e less h = absurd (omega (arith, less))

  some_before : (HasFault m rule fault.UnknownFlags → ⊥) → (HasFault m rule fault.BothFields → ⊥) → (e : RuleFault) → number e < 3
      → HasFault m rule e → ⊥
  some_before known one fault.UnknownFlags less h = known h
  some_before known one fault.BothFields less h = one h
  some_before known one e less h = absurd (omega (arith, less))

  one_before : (HasFault m rule fault.UnknownFlags → ⊥) → (HasFault m rule fault.BothFields → ⊥) → (HasFault m rule fault.NoField → ⊥)
      → (e : RuleFault) → number e < 4 → HasFault m rule e → ⊥
  one_before known one some fault.UnknownFlags less h = known h
  one_before known one some fault.BothFields less h = one h
  one_before known one some fault.NoField less h = some h
  one_before known one some e less h = absurd (omega (arith, less))

  pub unknown_first : m.kind rule.flags ≡ kind.Unknown → IsFirstFault m rule fault.UnknownFlags
  unknown_first unknown = record { here = unknown; first = none_before }

  pub both_first : (m.kind rule.flags ≡ kind.Unknown → ⊥) → rule.regexp ≢ [] → rule.replacement ≢ [] → IsFirstFault m rule fault.BothFields
  both_first known r s = record { here = (r, s); first = known_before known }

  pub none_first : (m.kind rule.flags ≡ kind.Unknown → ⊥) → rule.regexp ≡ [] → rule.replacement ≡ [] → IsFirstFault m rule fault.NoField
  none_first known r s = record { here = (r, s); first = some_before known (λ h. h.0 r) }

  pub wrong_first : (m.kind rule.flags ≡ kind.Unknown → ⊥) → (rule.regexp ≢ [] → rule.replacement ≢ [] → ⊥)
      → (rule.regexp ≡ [] → rule.replacement ≡ [] → ⊥)
      → (HasFields (m.kind rule.flags) m.steps_by_regexp rule → ⊥) → IsFirstFault m rule fault.WrongField
  wrong_first known one some wrong = record { here = wrong; first = one_before known (λ h. one h.0 h.1) (λ h. some h.0 h.1) }

  first_of_fields : (HasFields (m.kind rule.flags) m.steps_by_regexp rule → ⊥) → (f : RuleFault) × IsFirstFault m rule f
  first_of_fields wrong = by (is_unknown (m.kind rule.flags)) (is_empty rule.regexp) (is_empty rule.replacement)
    where
      by : Either (m.kind rule.flags ≡ kind.Unknown) → Either (rule.regexp ≡ []) → Either (rule.replacement ≡ [])
          → (f : RuleFault) × IsFirstFault m rule f
      by (inl unknown) r s = (fault.UnknownFlags, unknown_first unknown)
      by (inr known) (inr r) (inr s) = (fault.BothFields, both_first known r s)
      by (inr known) (inl r) (inl s) = (fault.NoField, none_first known r s)
      by (inr known) (inl r) (inr s) = (fault.WrongField, wrong_first known (λ n k. n r) (λ n k. s k) wrong)
      by (inr known) (inr r) (inl s) = (fault.WrongField, wrong_first known (λ n k. k s) (λ n k. r n) wrong)

  services_or_fault : HasGoodServices m rule ⊎ ((why : ServiceFault) × HasFault m rule (fault.Services why))
  services_or_fault = by (m.fault rule.services) refl (both (is_step (m.kind rule.flags)) (is_empty rule.services))
    where
      by : (o : Option ServiceFault) → m.fault rule.services ≡ o → Either ((m.kind rule.flags ≡ kind.Step) × (rule.services ≡ []))
          → HasGoodServices m rule ⊎ ((why : ServiceFault) × HasFault m rule (fault.Services why))
      by None e step = inl (inl e)
      by (Some why) e (inl step) = inl (inr step)
      by (Some why) e (inr other) = inr (why, (e, other))

  regexp_or_fault : FormedOrFault → ((rule.regexp ≡ []) ⊎ IsWellFormed rule.regexp) ⊎ ((why : RegexpFault) × HasFault m rule (fault.Regexp why))
  regexp_or_fault formed = by (is_empty rule.regexp) (formed rule.regexp)
    where
      by : Either (rule.regexp ≡ []) → IsWellFormed rule.regexp ⊎ ((why : RegexpFault) × (why ≢ regexp.Memory) × IsRegexpFault rule.regexp why)
          → ((rule.regexp ≡ []) ⊎ IsWellFormed rule.regexp) ⊎ ((why : RegexpFault) × HasFault m rule (fault.Regexp why))
      by (inl none) h = inl (inl none)
      by (inr some) (inl h) = inl (inr h)
      by (inr some) (inr (why, other, h)) = inr (why, (some, other, h))

begins_or_not : (text : List ℕ) → Either (BeginsWithScheme text)
begins_or_not text = by (cut_or_plain text)
  where
    halves : (front back : List ℕ) → text ≡ front ++ 58 ∷ back → list_all (λ b. not (b == 58)) front ≡ true → Either (BeginsWithScheme text)
    halves front back is plain = elim (scheme_or_not front) [
      | inl scheme ↦ inl (front, back, is, scheme)
      | inr other ↦ inr (λ h. other (scheme_cut text front back is (AllPass-from_list_all (λ b. not (b == 58)) front plain) h))
    ]

    by : HasColon text ⊎ (list_all (λ b. not (b == 58)) text ≡ true) → Either (BeginsWithScheme text)
    by (inl (front, back, is, plain)) = halves front back is plain
    by (inr plain) = inr (λ h. scheme_none text (AllPass-from_list_all (λ b. not (b == 58)) text plain) h)

-- a split text gives a scheme, or not; its expression takes the whole string, or not
scheme_of_split : OneSplit → SplitHasPieces → (text : List ℕ) (s : Subst) → Splits text (Ok s) → Either (HasScheme text)
scheme_of_split one pieces text s split = elim (begins_or_not (literal_from false s.repl)) [
  | inl begins ↦ inl (scheme_told pieces text s split begins)
  | inr other ↦ inr (λ h. other (scheme_there s h.0 (same_of s h.0 (one text (Ok s) (Ok h.0) split h.1)) h.2))
]

whole_of_split : OneSplit → (text : List ℕ) (s : Subst) → Splits text (Ok s) → Either (HasWhole text)
whole_of_split one text s split = by (one_of (lists numbers s.ere (codes ".*")) (lists numbers s.ere (codes "^.*$")))
  where
    by : Either (TakesWhole s.ere) → Either (HasWhole text)
    by (inl takes) = inl (s, split, takes)
    by (inr other) = inr (λ h. other (subst (λ r. TakesWhole r.ere) (sym (same_of s h.0 (one text (Ok s) (Ok h.0) split h.1))) h.2))

module _ (one : OneSplit) (pieces : SplitHasPieces) (m : Meaning) (rule : Naptr) where
  abbrev UriAnswer : Type 0
  UriAnswer = HasUriForm m rule ⊎ ((f : RuleFault) × IsUriFault m rule f)

  uri_of_form : m.kind rule.flags ≡ kind.TerminalUri → Either (HasScheme rule.regexp) → Either (m.wants_whole ≡ true)
      → Either (HasWhole rule.regexp) → UriAnswer
  uri_of_form is (inr none) strict whole = inr (fault.NoScheme, inl (refl, (is, none)))
  uri_of_form is (inl scheme) (inr free) whole = inl (record { scheme = λ e. scheme; whole = λ e w. absurd (free w) })
  uri_of_form is (inl scheme) (inl strict) (inl whole) = inl (record { scheme = λ e. scheme; whole = λ e w. whole })
  uri_of_form is (inl scheme) (inl strict) (inr none) = inr (fault.UriForm, inr (refl, (λ h. h.1 scheme), (strict, is, none)))

  regexp_there : HasFields (m.kind rule.flags) m.steps_by_regexp rule → m.kind rule.flags ≡ kind.TerminalUri → rule.regexp ≢ []
  regexp_there fields is =
      let own : HasFields kind.TerminalUri m.steps_by_regexp rule = subst (λ k. HasFields k m.steps_by_regexp rule) is fields in
      own.0

  uri_or_fault : HasFields (m.kind rule.flags) m.steps_by_regexp rule → (rule.regexp ≡ []) ⊎ IsWellFormed rule.regexp → UriAnswer
  uri_or_fault fields formed = by formed (is_uri (m.kind rule.flags))
    where
      by : (rule.regexp ≡ []) ⊎ IsWellFormed rule.regexp → Either (m.kind rule.flags ≡ kind.TerminalUri) → UriAnswer
      by formed (inr other) = inl (record { scheme = λ e. absurd (other e); whole = λ e w. absurd (other e) })
      by (inl none) (inl is) = absurd (regexp_there fields is none)
      by (inr (s, t, (tree, groups))) (inl is) = uri_of_form is (scheme_of_split one pieces rule.regexp s tree.splits)
          (is_true m.wants_whole) (whole_of_split one rule.regexp s tree.splits)

abbrev Answer : Meaning → Naptr → Type 0
Answer m rule = IsWellFormedRule m rule ⊎ ((f : RuleFault) × IsFirstFault m rule f)

pub rule_or_fault : OneSplit → SplitHasPieces → FormedOrFault → WellFormedHasNoFault → WellFormedOrFault
rule_or_fault one pieces formed law m rule = by (fields_or_not (m.kind rule.flags) m.steps_by_regexp rule)
  where
    by_uri : HasFields (m.kind rule.flags) m.steps_by_regexp rule → HasGoodServices m rule → (rule.regexp ≡ []) ⊎ IsWellFormed rule.regexp
        → HasUriForm m rule ⊎ ((f : RuleFault) × IsUriFault m rule f) → Answer m rule
    by_uri fields services regexp (inl h) =
        inl (record { fields = fields; services = services; regexp = regexp; scheme = h.scheme; whole = h.whole })
    by_uri fields services regexp (inr (f, h)) = inr (f, uri_first law m rule f fields services regexp h)

    by_regexp : HasFields (m.kind rule.flags) m.steps_by_regexp rule → HasGoodServices m rule
        → ((rule.regexp ≡ []) ⊎ IsWellFormed rule.regexp) ⊎ ((why : RegexpFault) × HasFault m rule (fault.Regexp why)) → Answer m rule
    by_regexp fields services (inl regexp) = by_uri fields services regexp (uri_or_fault one pieces m rule fields regexp)
    by_regexp fields services (inr (why, h)) =
        inr (fault.Regexp why, record { here = h; first = before_regexp m rule fields services })

    by_services : HasFields (m.kind rule.flags) m.steps_by_regexp rule
        → HasGoodServices m rule ⊎ ((why : ServiceFault) × HasFault m rule (fault.Services why)) → Answer m rule
    by_services fields (inl services) = by_regexp fields services (regexp_or_fault m rule formed)
    by_services fields (inr (why, h)) = inr (fault.Services why, record { here = h; first = before_services m rule fields })

    by : Either (HasFields (m.kind rule.flags) m.steps_by_regexp rule) → Answer m rule
    by (inl fields) = by_services fields (services_or_fault m rule)
    by (inr wrong) = inr (first_of_fields m rule wrong)
