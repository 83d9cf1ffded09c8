-- The rules at a name among records.
use Rattle.std.proofs.Common.{◌≡◌, inl, inr, ℕ, ◌+◌, ◌<◌, ◌≤◌, List, [], ◌∷◌, ◌++◌, length, take, get_or, sym, ap, subst, ◌∙◌, arith, length-append}
use Rattle.std.specs.Prelude.{Contains}
use Rattle.std.proofs.lemmas.List.{take_more, take_all}
use Rattle.std.proofs.lemmas.List.Elements.{Contains-append_left, Contains-append_right, Contains-append_cases}
use Rattle.naptr_rule.specs.declared.rule.Naptr.{Naptr}
use Rattle.naptr_data.specs.Zones.{Labels}
use Rattle.naptr_data.proofs.CutLemmas.{Contains-head}
use Rattle.dns_wire.specs.declared.content.Content.TheVariants as content
use Rattle.dns_wire.specs.declared.record.Record.{Record}
use Rattle.zone_build.proofs.ListLemmas.{only_one}
use Rattle.wire_source.specs.Readings.{IsRuleAt}
use Rattle.wire_source.specs.Sorting.{AreGiven}

one_rule : (r s : Naptr) → content.Naptr r ≡ content.Naptr s → r ≡ s
one_rule r s e = cc

-- the rule of one more record
given_push : (name : Labels) (taken : List Record) (x : Record) (old : List Naptr) (r : Naptr) → AreGiven name taken old → IsRuleAt name x r
    → AreGiven name (taken ++ x ∷ []) (old ++ r ∷ [])
given_push name taken x old r given is = record {
  each = λ rule. (
    λ c. elim (Contains-append_cases old (r ∷ []) rule c) [
      | inl was ↦ let f = (given.each rule).0 was in (f.0, Contains-append_left taken (x ∷ []) f.0 f.1, f.2)
      | inr new ↦ (x, Contains-append_right taken (x ∷ []) x (Contains-head x []), (is.0, is.1 ∙ ap content.Naptr (sym (only_one r rule new))))
    ],
    λ (one, c, at). elim (Contains-append_cases taken (x ∷ []) one c) [
      | inl there ↦ Contains-append_left old (r ∷ []) rule ((given.each rule).1 (one, there, at))
      | inr here ↦
          let same = one_rule r rule (sym is.1 ∙ ap (λ (y : Record). y.content) (sym (only_one x one here)) ∙ at.1) in
          subst (Contains (old ++ r ∷ [])) same (Contains-append_right old (r ∷ []) r (Contains-head r []))
    ],
  );
  few = let f = given.few in omega (arith, f, length-append taken (x ∷ []), length-append old (r ∷ []));
}

-- .. which has none
given_pass : (name : Labels) (taken : List Record) (x : Record) (old : List Naptr) → AreGiven name taken old
    → ((rule : Naptr) → ¬ IsRuleAt name x rule) → AreGiven name (taken ++ x ∷ []) old
given_pass name taken x old given not = record {
  each = λ rule. (
    λ c. let f = (given.each rule).0 c in (f.0, Contains-append_left taken (x ∷ []) f.0 f.1, f.2),
    λ (one, c, at). elim (Contains-append_cases taken (x ∷ []) one c) [
      | inl there ↦ (given.each rule).1 (one, there, at)
      | inr here ↦ absurd (not rule (subst (λ (y : Record). IsRuleAt name y rule) (only_one x one here) at))
    ],
  );
  few = let f = given.few in omega (arith, f, length-append taken (x ∷ []));
}

next_taken : (records : List Record) (i : ℕ) (x : Record) → i < length records → x ≡ get_or records i x → take i records ++ x ∷ [] ≡ take (i + 1) records
next_taken records i x within is = ap (λ y. take i records ++ y ∷ []) is ∙ sym (take_more records i x within)

pub given_next : (name : Labels) (records : List Record) (i : ℕ) (x : Record) (old : List Naptr) (r : Naptr) → i < length records
    → x ≡ get_or records i x → AreGiven name (take i records) old → IsRuleAt name x r → AreGiven name (take (i + 1) records) (old ++ r ∷ [])
given_next name records i x old r within here given is =
    subst (λ l. AreGiven name l (old ++ r ∷ [])) (next_taken records i x within here) (given_push name (take i records) x old r given is)

pub given_passed : (name : Labels) (records : List Record) (i : ℕ) (x : Record) (old : List Naptr) → i < length records
    → x ≡ get_or records i x → AreGiven name (take i records) old → ((rule : Naptr) → ¬ IsRuleAt name x rule) → AreGiven name (take (i + 1) records) old
given_passed name records i x old within here given not =
    subst (λ l. AreGiven name l old) (next_taken records i x within here) (given_pass name (take i records) x old given not)

pub given_all : (name : Labels) (records : List Record) (i : ℕ) (old : List Naptr) → length records ≤ i → AreGiven name (take i records) old
    → AreGiven name records old
given_all name records i old end given = subst (λ l. AreGiven name l old) (take_all i records end) given
