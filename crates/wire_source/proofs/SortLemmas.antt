-- Rules in their order, each once.
use Rattle.std.proofs.Common.{◌≡◌, ◌≢◌, inl, inr, is_lt, ℕ, zero, suc, ◌+◌, ◌<◌, ◌≤◌, List, [], ◌∷◌, ◌++◌, length, take, get_or, refl, sym, ap, subst, ◌∙◌, arith, length-append, ◌-◌, ◌⊎◌}
use Rattle.std.specs.Prelude.{Contains, IsPermutation, IfOk, Result, Ok, Err, Some, false}
use Rattle.std.specs.List.{slice_get}
use Rattle.std.specs.List.Sorted.{IsSortedBy}
use Rattle.std.specs.declared.cmp.Ordering.{Ordering}
use Rattle.std.specs.declared.cmp.Ordering.TheVariants.{Less, Equal, Greater}
use Rattle.std.proofs.lemmas.List.{take_more, take_all}
use Rattle.std.proofs.lemmas.List.Elements.{Contains-append_left, Contains-append_right, Contains-append_cases, Contains-get_or}
use Rattle.std.proofs.lemmas.List.MinMax.{ranks_by}
use Rattle.std.proofs.lemmas.List.Sorted.{Contains-permutation, IsPermutation-sym, length_permutation, sorted_far}
use Rattle.naptr_rule.specs.Rank.{rank_of}
use Rattle.naptr_rule.specs.Rdata.{IsRule}
use Rattle.naptr_rule.specs.declared.rule.Naptr.{Naptr}
use Rattle.naptr_rule.proofs.RuleLemmas.{rank_of-equal, rank_of-total}
use Rattle.naptr_data.specs.Zones.{Labels, IsRising}
use Rattle.naptr_data.proofs.CutLemmas.{Contains-head, Contains-after, Contains-none, head_or_after}
use Rattle.naptr_data.proofs.RisingLemmas.{turned}
use Rattle.dns_wire.specs.declared.record.Record.{Record}
use Rattle.zone_build.proofs.ListLemmas.{AllByRecursion-contains, AllByRecursion-made, only_one}
use Rattle.wire_source.specs.Readings.{AreRulesAt}
use Rattle.wire_source.specs.Sorting.{AreGiven, AreOnce, IsInOrder}

rising_push : (rules : List Naptr) (rule : Naptr) → IsRising rules → ((s : Naptr) → Contains rules s → rank_of s rule ≡ Less) → IsRising (rules ++ rule ∷ [])
rising_push [] rule r before = (tt, tt)
rising_push (s ∷ rules) rule r before = (
  AllByRecursion-made (λ next. rank_of s next ≡ Less) (rules ++ rule ∷ []) (λ t c. elim (Contains-append_cases rules (rule ∷ []) t c) [
    | inl old ↦ AllByRecursion-contains (λ next. rank_of s next ≡ Less) rules t r.0 old
    | inr new ↦ subst (λ u. rank_of s u ≡ Less) (sym (only_one rule t new)) (before s (Contains-head s rules))
  ]),
  rising_push rules rule r.1 (λ t c. before t (Contains-after s rules t c)),
)

next_taken : (rules : List Naptr) (i : ℕ) (x : Naptr) → i < length rules → x ≡ get_or rules i x → take i rules ++ x ∷ [] ≡ take (i + 1) rules
next_taken rules i x within is = ap (λ y. take i rules ++ y ∷ []) is ∙ sym (take_more rules i x within)

-- one more rule, which comes after the others
once_push : (taken : List Naptr) (r : Naptr) (old : List Naptr) → AreOnce taken old → ((s : Naptr) → Contains old s → rank_of s r ≡ Less)
    → AreOnce (taken ++ r ∷ []) (old ++ r ∷ [])
once_push taken r old once after = record {
  each = λ rule. (
    λ c. elim (Contains-append_cases old (r ∷ []) rule c) [
      | inl was ↦ Contains-append_left taken (r ∷ []) rule ((once.each rule).0 was)
      | inr new ↦ Contains-append_right taken (r ∷ []) rule new
    ],
    λ c. elim (Contains-append_cases taken (r ∷ []) rule c) [
      | inl was ↦ Contains-append_left old (r ∷ []) rule ((once.each rule).1 was)
      | inr new ↦ Contains-append_right old (r ∷ []) rule new
    ],
  );
  rising = rising_push old r once.rising after;
  few = let f = once.few in omega (arith, f, length-append taken (r ∷ []), length-append old (r ∷ []));
}

-- .. or is among them
once_pass : (taken : List Naptr) (r : Naptr) (old : List Naptr) → AreOnce taken old → Contains old r → AreOnce (taken ++ r ∷ []) old
once_pass taken r old once among = record {
  each = λ rule. (
    λ c. Contains-append_left taken (r ∷ []) rule ((once.each rule).0 c),
    λ c. elim (Contains-append_cases taken (r ∷ []) rule c) [
      | inl was ↦ (once.each rule).1 was
      | inr new ↦ subst (Contains old) (sym (only_one r rule new)) among
    ],
  );
  rising = once.rising;
  few = let f = once.few in omega (arith, f, length-append taken (r ∷ []));
}

pub once_next : (rules : List Naptr) (i : ℕ) (r : Naptr) (old : List Naptr) → i < length rules → r ≡ get_or rules i r
    → AreOnce (take i rules) old → ((s : Naptr) → Contains old s → rank_of s r ≡ Less) → AreOnce (take (i + 1) rules) (old ++ r ∷ [])
once_next rules i r old within here once after =
    subst (λ l. AreOnce l (old ++ r ∷ [])) (next_taken rules i r within here) (once_push (take i rules) r old once after)

pub once_passed : (rules : List Naptr) (i : ℕ) (r : Naptr) (old : List Naptr) → i < length rules → r ≡ get_or rules i r
    → AreOnce (take i rules) old → Contains old r → AreOnce (take (i + 1) rules) old
once_passed rules i r old within here once among =
    subst (λ l. AreOnce l old) (next_taken rules i r within here) (once_pass (take i rules) r old once among)

pub once_all : (rules : List Naptr) (i : ℕ) (old : List Naptr) → length rules ≤ i → AreOnce (take i rules) old → AreOnce rules old
once_all rules i old end once = subst (λ l. AreOnce l old) (take_all i rules end) once

-- no rule before comes after one of rules in order
order_before : (rules : List Naptr) (i : ℕ) (d s : Naptr) → IsInOrder rules → i < length rules → Contains (take i rules) s
    → rank_of s (get_or rules i d) ≢ Greater
order_before [] i d s o within c = absurd (omega arith)
order_before (x ∷ rules) zero d s o within c = absurd (Contains-none s c)
order_before (x ∷ rules) (suc i) d s o within c = elim (head_or_after x (take i rules) s c) [
  | inl here ↦ subst (λ (z : Naptr). rank_of z (get_or rules i d) ≢ Greater) (sym here)
      (AllByRecursion-contains (λ next. rank_of x next ≢ Greater) rules (get_or rules i d) o.0 (Contains-get_or rules i d (omega arith)))
  | inr after ↦ order_before rules i d s o.1 (omega arith) after
]

pub order_of_once : (rules : List Naptr) (i : ℕ) (r : Naptr) (old : List Naptr) → IsInOrder rules → i < length rules → r ≡ get_or rules i r
    → AreOnce (take i rules) old → (s : Naptr) → Contains old s → rank_of s r ≢ Greater
order_of_once rules i r old o within here once s c =
    subst (λ (z : Naptr). rank_of s z ≢ Greater) (sym here) (order_before rules i r s o within ((once.each s).0 c))

-- the last of rules that rise
some_is : (x y : Naptr) → Some x ≡ Some y → x ≡ y
some_is x y e = cc

at_place : (rules : List Naptr) (i : ℕ) (last : Naptr) → Some last ≡ slice_get rules i → Contains rules last
at_place [] i last e = absurd (cc)
at_place (x ∷ rules) zero last e = subst (Contains (x ∷ rules)) (sym (some_is last x e)) (Contains-head x rules)
at_place (x ∷ rules) (suc i) last e = Contains-after x rules last (at_place rules i last e)

at_end : (rules : List Naptr) (i : ℕ) (last : Naptr) → Some last ≡ slice_get rules i → i + 1 ≡ length rules → IsRising rules → (s : Naptr) → Contains rules s
    → (s ≡ last) ⊎ (rank_of s last ≡ Less)
at_end [] i last e end r s c = absurd (cc)
at_end (x ∷ rules) zero last e end r s c = elim (head_or_after x rules s c) [
  | inl here ↦ inl (here ∙ sym (some_is last x e))
  | inr (k, within, is) ↦ absurd (omega (arith, end, within))
]
at_end (x ∷ rules) (suc i) last e end r s c = elim (head_or_after x rules s c) [
  | inl here ↦ inr (subst (λ (y : Naptr). rank_of y last ≡ Less) (sym here)
      (AllByRecursion-contains (λ next. rank_of x next ≡ Less) rules last r.0 (at_place rules i last e)))
  | inr after ↦ at_end rules i last e (omega (arith, end)) r.1 s after
]

some_place : (rules : List Naptr) (last : Naptr) → Some last ≡ slice_get rules (length rules - 1) → length rules - 1 + 1 ≡ length rules
some_place [] last e = absurd (cc)
some_place (x ∷ rules) last e = omega arith

-- a rule that comes after the last comes after all
pub after_all : (rules : List Naptr) (last rule : Naptr) → Some last ≡ slice_get rules (length rules - 1) → IsRising rules → rank_of last rule ≡ Less
    → (s : Naptr) → Contains rules s → rank_of s rule ≡ Less
after_all rules last rule e r less s c = elim (at_end rules (length rules - 1) last e (some_place rules last e) r s c) [
  | inl same ↦ subst (λ (y : Naptr). rank_of y rule ≡ Less) (sym same) less
  | inr before ↦ rank_of-total.trans s last rule before less
]

-- one that does not is the last
by_order : (o : Ordering) → o ≢ Less → o ≢ Greater → o ≡ Equal
by_order Less not_less not_greater = absurd (not_less refl)
by_order Equal not_less not_greater = refl
by_order Greater not_less not_greater = absurd (not_greater refl)

pub among_all : (rules : List Naptr) (last rule : Naptr) → Some last ≡ slice_get rules (length rules - 1) → IsRule last → IsRule rule
    → ((s : Naptr) → Contains rules s → rank_of s rule ≢ Greater) → rank_of last rule ≢ Less → Contains rules rule
among_all rules last rule e p q order not =
    let c = at_place rules (length rules - 1) last e in
    subst (Contains rules) (rank_of-equal last rule p q (by_order (rank_of last rule) not (order last c))) c

-- sorted rules are in order
abbrev IsFar : List Naptr → Type 0
IsFar xs = (i j : ℕ) (d : Naptr) → i ≤ j → j < length xs → rank_of (get_or xs i d) (get_or xs j d) ≢ Greater

not_less : (x y : Naptr) → is_lt (rank_of y x) ≡ false → rank_of x y ≢ Greater
not_less x y not e = let less = turned x y e in absurd (cc (sym not ∙ ap is_lt less))

order_far : (xs : List Naptr) → IsFar xs → IsInOrder xs
order_far [] far = tt
order_far (x ∷ xs) far = (
  AllByRecursion-made (λ (next : Naptr). rank_of x next ≢ Greater) xs
      (λ y (k, l, e). subst (λ z. rank_of x z ≢ Greater) e (far 0 (suc k) y (omega arith) (omega arith))),
  order_far xs (λ i j d h k. far (suc i) (suc j) d (omega arith) (omega arith)),
)

pub order_from_sorted : (xs : List Naptr) → IsSortedBy (λ (a b : Naptr). is_lt (rank_of a b)) xs → IsInOrder xs
order_from_sorted xs sorted =
    order_far xs (λ i j d h k. not_less (get_or xs i d) (get_or xs j d)
    (sorted_far (λ (a b : Naptr). is_lt (rank_of a b)) (ranks_by rank_of-total (λ (r : Naptr). r)) xs sorted i j d h k))

-- rules that were given, sorted, and each kept once
rules_are : (name : Labels) (records : List Record) (given sorted once : List Naptr) → AreGiven name records given
    → IsPermutation given sorted → AreOnce sorted once → AreRulesAt name records once
rules_are name records given sorted once is same o = record {
  each = λ rule. (
    λ c. (is.each rule).0 (Contains-permutation sorted given rule (IsPermutation-sym given sorted same) ((o.each rule).0 c)),
    λ c. (o.each rule).1 (Contains-permutation given sorted rule same ((is.each rule).1 c)),
  );
  rising = o.rising;
}

rules_few : (name : Labels) (records : List Record) (given sorted once : List Naptr) → AreGiven name records given
    → IsPermutation given sorted → AreOnce sorted once → length once ≤ length records
rules_few name records given sorted once is same o =
    let few = is.few in
    let fewer = o.few in
    omega (arith, few, fewer, length_permutation given sorted same)

pub once_rules : {E : Type 0} (name : Labels) (records : List Record) (given sorted : List Naptr) (result : Result (List Naptr) E)
    → AreGiven name records given → IsPermutation given sorted → IfOk result (AreOnce sorted) → IfOk result (AreRulesAt name records)
once_rules name records given sorted (Ok once) is same o = rules_are name records given sorted once is same o
once_rules name records given sorted (Err fault) is same o = tt

pub once_few : {E : Type 0} (name : Labels) (records : List Record) (given sorted : List Naptr) (result : Result (List Naptr) E)
    → AreGiven name records given → IsPermutation given sorted → IfOk result (AreOnce sorted)
    → IfOk result (λ once. length once ≤ length records)
once_few name records given sorted (Ok once) is same o = rules_few name records given sorted once is same o
once_few name records given sorted (Err fault) is same o = tt
