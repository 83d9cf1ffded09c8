-- Runs in entries that are in order.
use Rattle.std.proofs.Common.{◌≡◌, ◌≢◌, ◌⊎◌, inl, inr, ℕ, zero, suc, ◌+◌, ◌<◌, ◌≤◌, List, [], ◌∷◌, length, take, drop, get_or, sym, ap, subst, ◌∙◌, arith}
use Rattle.std.specs.Prelude.{Contains}
use Rattle.std.specs.List.{AllByRecursion}
use Rattle.std.specs.declared.cmp.Ordering.{Ordering}
use Rattle.std.specs.declared.cmp.Ordering.TheVariants.{Less, Equal, Greater}
use Rattle.std.proofs.lemmas.List.{drop_all}
use Rattle.std.proofs.lemmas.Cmp.{tied_itself}
use Rattle.naptr_data.proofs.CutLemmas.{Contains-head, Contains-none, head_or_after}
use Rattle.zone_build.specs.Zone.{AreRepeats, order_of}
use Rattle.zone_build.specs.Building.{Given, key_order, AreAlike, IsOrdered, IsStable, IsRun}
use Rattle.zone_build.specs.declared.entry.Key.{Key}
use Rattle.zone_build.proofs.ListLemmas.{take_in, drop_in, turn_of, turned_all, AllByRecursion-contains}
use Rattle.zone_build.proofs.OrderLemmas.{alike_itself, key_order-total, key_not_after, alike_equal, alike_sym}
use Rattle.zone_build.proofs.OrderLemmas.{alike_trans, equal_less, less_not_after, then_before}

AllByRecursion-drop : {X : Type 0} (P : X → Type 0) (n : ℕ) (xs : List X) → AllByRecursion P xs → AllByRecursion P (drop n xs)
AllByRecursion-drop P zero xs all = all
AllByRecursion-drop P (suc n) [] all = all
AllByRecursion-drop P (suc n) (x ∷ xs) all = AllByRecursion-drop P n xs all.1

AllByRecursion-take : {X : Type 0} (P : X → Type 0) (n : ℕ) (xs : List X) → AllByRecursion P xs → AllByRecursion P (take n xs)
AllByRecursion-take P zero xs all = tt
AllByRecursion-take P (suc n) [] all = tt
AllByRecursion-take P (suc n) (x ∷ xs) all = (all.0, AllByRecursion-take P n xs all.1)

pub ordered_drop : (n : ℕ) (all : List Given) → IsOrdered all → IsOrdered (drop n all)
ordered_drop zero all o = o
ordered_drop (suc n) [] o = o
ordered_drop (suc n) (x ∷ all) o = ordered_drop n all o.1

pub ordered_take : (n : ℕ) (all : List Given) → IsOrdered all → IsOrdered (take n all)
ordered_take zero all o = tt
ordered_take (suc n) [] o = tt
ordered_take (suc n) (x ∷ all) o = (AllByRecursion-take _ n all o.0, ordered_take n all o.1)

pub stable_drop : (n : ℕ) (all : List Given) → IsStable all → IsStable (drop n all)
stable_drop zero all o = o
stable_drop (suc n) [] o = o
stable_drop (suc n) (x ∷ all) o = stable_drop n all o.1

pub stable_take : (n : ℕ) (all : List Given) → IsStable all → IsStable (take n all)
stable_take zero all o = tt
stable_take (suc n) [] o = tt
stable_take (suc n) (x ∷ all) o =
    (AllByRecursion-take (λ (next : Given). AreRepeats x.given next.given → x.place ≤ next.place) n all o.0, stable_take n all o.1)

-- the first of stable entries is before its repeats among them
pub stable_head : (part : List Given) (head other : Given) → IsStable part → head ≡ get_or part 0 head
    → Contains part other → AreRepeats head.given other.given → head.place ≤ other.place
stable_head [] head other o is c same = absurd (Contains-none other c)
stable_head (x ∷ part) head other o is c same = elim (head_or_after x part other c) [
  | inl here ↦ let e = ap (λ (g : Given). g.place) (is ∙ sym here) in omega (arith, e)
  | inr after ↦
      let e = ap (λ (g : Given). g.place) is in
      let l = AllByRecursion-contains
      (λ (next : Given). AreRepeats x.given next.given → x.place ≤ next.place) part other o.0 after
      (subst (λ (g : Given). AreRepeats g.given other.given) is same) in
      omega (arith, e, l)
]

-- what stands in front of another does not come after it
pub ordered_pair : (n : ℕ) (all : List Given) (one other : Given) → IsOrdered all → Contains (take n all) one
    → Contains (drop n all) other → order_of one.given other.given ≢ Greater
ordered_pair zero all one other o c d = absurd (Contains-none one c)
ordered_pair (suc n) [] one other o c d = absurd (Contains-none one c)
ordered_pair (suc n) (x ∷ all) one other o c d =
    elim (head_or_after x (take n all) one c) [
      | inl here ↦
          subst (λ (g : Given). order_of g.given other.given ≢ Greater) (sym here)
          (AllByRecursion-contains (λ (next : Given). order_of x.given next.given ≢ Greater) all other o.0
          (drop_in n all other d))
      | inr after ↦ ordered_pair n all one other o.1 after d
    ]

-- from a place on stand its element, and others that do not come before it
from_place : (at : ℕ) (all : List Given) (next other : Given) → IsOrdered all → at < length all
    → next ≡ get_or all at next → Contains (drop at all) other
    → (other ≡ next) ⊎ (order_of next.given other.given ≢ Greater)
from_place zero [] next other o within is c = absurd (Contains-none other c)
from_place zero (x ∷ all) next other o within is c =
    elim (head_or_after x all other c) [
      | inl here ↦ inl (here ∙ sym is)
      | inr after ↦
          inr (subst (λ (g : Given). order_of g.given other.given ≢ Greater) (sym is)
          (AllByRecursion-contains (λ (y : Given). order_of x.given y.given ≢ Greater) all other o.0 after))
    ]
from_place (suc n) [] next other o within is c = absurd (Contains-none other c)
from_place (suc n) (x ∷ all) next other o within is c = from_place n all next other o.1 (omega arith) is c

not_at_head : (key : Key) (all : List Given) (head next : Given) (at : ℕ) → head ≡ get_or all 0 head
    → next ≡ get_or all at next → at < length all → key_order key head.given next.given ≢ Equal → 0 < at
not_at_head key [] head next at h is within not = absurd (omega arith)
not_at_head key (x ∷ all) head next zero h is within not =
    absurd (not (ap (λ (g : Given). key_order key head.given g.given) (is ∙ sym h) ∙ tied_itself (key_order-total key) head.given))
not_at_head key (x ∷ all) head next (suc at) h is within not = omega arith

head_in : (all : List Given) (head : Given) (n : ℕ) → head ≡ get_or all 0 head → 0 < n → 0 < length all → Contains (take n all) head
head_in [] head n h some more = absurd (omega arith)
head_in (x ∷ all) head zero h some more = absurd (omega arith)
head_in (x ∷ all) head (suc n) h some more =
    subst (λ g. Contains (x ∷ take n all) g) (sym h) (Contains-head x (take n all))

place_in : (all : List Given) (next : Given) (at : ℕ) → next ≡ get_or all at next → at < length all → Contains (drop at all) next
place_in [] next at is within = absurd (omega arith)
place_in (x ∷ all) next zero is within = subst (λ g. Contains (x ∷ all) g) (sym is) (Contains-head x all)
place_in (x ∷ all) next (suc at) is within = place_in all next at is (omega arith)

-- a run ends at the first that is not alike
pub run_ends : (key : Key) (all : List Given) (head next : Given) (at : ℕ) (o : Ordering) → IsOrdered all
    → head ≡ get_or all 0 head → next ≡ get_or all at next → at < length all
    → ((e : Given) → Contains (take at all) e → AreAlike key head.given e.given)
    → o ≡ key_order key head.given next.given → o ≢ Equal → IsRun key all at
run_ends key all head next at o ordered h is within alike order not =
    let differs : key_order key head.given next.given ≢ Equal = λ e. not (order ∙ e) in
    let some : 0 < at = not_at_head key all head next at h is within differs in
    let more : 0 < length all = omega arith in
    let front : Contains (take at all) head = head_in all head at h some more in
    let back : Contains (drop at all) next = place_in all next at is within in
    let first : key_order key head.given next.given ≡ Less =
    then_before (key_order key head.given next.given) differs
    (key_not_after key head.given next.given (ordered_pair at all head next ordered front back)) in
    record {
      some = some;
      within = omega arith;
      here = λ one other c d. alike_trans key one.given head.given other.given (alike_sym key head.given one.given (alike one c)) (alike other d);
      later = λ one other c d.
          equal_less (key_order key) (key_order-total key) one.given head.given other.given
          (alike_equal key one.given head.given (alike_sym key head.given one.given (alike one c)))
          (after first other d);
    }
  where
    after : key_order key head.given next.given ≡ Less → (other : Given) → Contains (drop at all) other → key_order key head.given other.given ≡ Less
    after first other d = elim (from_place at all next other ordered within is d) [
      | inl same ↦ subst (λ (g : Given). key_order key head.given g.given ≡ Less) (sym same) first
      | inr far ↦
          less_not_after (key_order key) (key_order-total key) head.given next.given other.given first (key_not_after key next.given other.given far)
    ]

-- all are alike
pub run_all : (key : Key) (all : List Given) (head : Given) (at : ℕ) → 0 < length all → length all ≤ at
    → ((e : Given) → Contains (take at all) e → AreAlike key head.given e.given) → IsRun key all (length all)
run_all key all head at some end alike = record {
  some = some;
  within = omega arith;
  here = λ one other c d.
      alike_trans key one.given head.given other.given
      (alike_sym key head.given one.given (alike one (turned_all all at one end (take_in (length all) all one c))))
      (alike other (turned_all all at other end (take_in (length all) all other d)));
  later = λ one other c d. absurd (Contains-none other (subst (λ l. Contains l other) (drop_all (length all) all (omega arith)) d));
}

-- one more that is alike
pub alike_more : (key : Key) (all : List Given) (head next : Given) (at : ℕ) → next ≡ get_or all at next
    → at < length all → ((e : Given) → Contains (take at all) e → AreAlike key head.given e.given)
    → AreAlike key head.given next.given → (e : Given) → Contains (take (at + 1) all) e
    → AreAlike key head.given e.given
alike_more key all head next at is within alike here e c =
    elim (turn_of all at next e within is c) [
      | inl old ↦ alike e old
      | inr new ↦ subst (λ (g : Given). AreAlike key head.given g.given) (sym new) here
    ]

-- the head is alike to itself
pub alike_head : (key : Key) (all : List Given) (head : Given) → head ≡ get_or all 0 head → 0 < length all
    → (e : Given) → Contains (take 1 all) e → AreAlike key head.given e.given
alike_head key all head is some = alike_more key all head head 0 is some (λ e c. absurd (Contains-none e c)) (alike_itself key head.given)
