-- Given records as entries, and entries that were sorted.
use Rattle.std.proofs.Common.{◌≡◌, ◌≢◌, inl, inr, ℕ, zero, suc, ◌+◌, ◌<◌, ◌≤◌, List, [], ◌∷◌, ◌++◌, length, take}
use Rattle.std.proofs.Common.{get_or, refl, sym, ap, subst, ◌∙◌, arith, false, is_lt, length-take}
use Rattle.std.specs.Prelude.{Contains}
use Rattle.std.specs.List.Sorted.{IsPermutation, IsSortedBy}
use Rattle.std.specs.declared.cmp.Ordering.{Ordering}
use Rattle.std.specs.declared.cmp.Ordering.TheVariants.{Less, Equal, Greater}
use Rattle.std.specs.Ordering.{ordering_then, ordering_reverse, nat_cmp}
use Rattle.std.proofs.lemmas.Cmp.{ranked}
use Rattle.std.proofs.lemmas.List.Sorted.{ranks_by, sorted_far, Contains-permutation, IsPermutation-sym}
use Rattle.std.proofs.lemmas.List.{take_more}
use Rattle.naptr_data.proofs.CutLemmas.{Contains-head, Contains-after, Contains-none, head_or_after}
use Rattle.dns_wire.specs.declared.record.Record.{Record}
use Rattle.zone_build.specs.Zone.{AreRepeats, order_of}
use Rattle.zone_build.specs.Building.{Given, IsOrdered, IsStable, entry_order, AreGivens, givens_from}
use Rattle.zone_build.specs.declared.entry.Key.TheVariants.{Whole}
use Rattle.zone_build.proofs.ListLemmas.{AllByRecursion-made}
use Rattle.zone_build.proofs.OrderLemmas.{entry_order-total, then_front, alike_equal}

-- of two places the entry at the first does not come after that at the second
abbrev IsFar : List Given → Type 0
IsFar xs = (i j : ℕ) (d : Given) → i ≤ j → j < length xs → entry_order (get_or xs i d) (get_or xs j d) ≢ Greater

not_less_back : (one other : Given) → is_lt (entry_order other one) ≡ false → entry_order one other ≢ Greater
not_less_back one other not e =
    let back : entry_order other one ≡ Less = entry_order-total.antisymm other one ∙ ap ordering_reverse e in
    cc (sym not ∙ ap is_lt back)

sorted_is_far : (xs : List Given) → IsSortedBy (λ (a b : Given). is_lt (entry_order a b)) xs → IsFar xs
sorted_is_far xs sorted i j d h k =
    not_less_back (get_or xs i d) (get_or xs j d)
    (sorted_far (λ (a b : Given). is_lt (entry_order a b))
    (ranks_by entry_order-total (λ (g : Given). g)) xs sorted i j d h k)

-- what comes after the head of sorted entries
after_head : (x : Given) (xs : List Given) → IsFar (x ∷ xs) → (y : Given) → Contains xs y → entry_order x y ≢ Greater
after_head x xs far y (k, l, e) = subst (λ (g : Given). entry_order x g ≢ Greater) e (far 0 (suc k) y (omega arith) (omega arith))

ordered_far : (xs : List Given) → IsFar xs → IsOrdered xs
ordered_far [] far = tt
ordered_far (x ∷ xs) far = (
  AllByRecursion-made (λ (next : Given). order_of x.given next.given ≢ Greater) xs
      (λ y c. then_front (order_of x.given y.given) (nat_cmp x.place y.place) (after_head x xs far y c)),
  ordered_far xs (λ i j d h k. far (suc i) (suc j) d (omega arith) (omega arith)),
)

not_greater : (n m : ℕ) (o : Ordering) → o ≡ nat_cmp n m → o ≢ Greater → n ≤ m
not_greater n m Less is not = let l = ranked n m Less is in omega (arith, l)
not_greater n m Equal is not = let l = ranked n m Equal is in omega (arith, l)
not_greater n m Greater is not = absurd (not refl)

-- repeats that are in order are in that of their places
placed : (one other : Given) → entry_order one other ≢ Greater → AreRepeats one.given other.given → one.place ≤ other.place
placed one other not same =
    let e : entry_order one other ≡ nat_cmp one.place other.place =
    ap (λ o. ordering_then o (nat_cmp one.place other.place)) (alike_equal Whole one.given other.given same) in
    not_greater one.place other.place (nat_cmp one.place other.place) refl (λ g. not (e ∙ g))

stable_far : (xs : List Given) → IsFar xs → IsStable xs
stable_far [] far = tt
stable_far (x ∷ xs) far = (
  AllByRecursion-made (λ (next : Given). AreRepeats x.given next.given → x.place ≤ next.place) xs (λ y c. placed x y (after_head x xs far y c)),
  stable_far xs (λ i j d h k. far (suc i) (suc j) d (omega arith) (omega arith)),
)

-- sorted entries are in order, and repeats in that of their places
pub ordered_from_sorted : (xs : List Given) → IsSortedBy (λ (a b : Given). is_lt (entry_order a b)) xs → IsOrdered xs
ordered_from_sorted xs sorted = ordered_far xs (sorted_is_far xs sorted)

pub stable_from_sorted : (xs : List Given) → IsSortedBy (λ (a b : Given). is_lt (entry_order a b)) xs → IsStable xs
stable_from_sorted xs sorted = stable_far xs (sorted_is_far xs sorted)

abbrev entry : ℕ → Record → Given
entry place one = record { place = place; given = one }

givens_from-append : (place : ℕ) (xs : List Record) (y : Record) → givens_from place (xs ++ y ∷ []) ≡ givens_from place xs ++ entry (place + length xs) y ∷ []
givens_from-append place [] y =
    let e : place ≡ place + 0 = omega arith in
    ap (λ n. entry n y ∷ []) e
givens_from-append place (x ∷ xs) y =
    let e : place + 1 + length xs ≡ place + suc (length xs) = omega arith in
    ap (λ l. entry place x ∷ l) (givens_from-append (place + 1) xs y ∙ ap (λ n. givens_from (place + 1) xs ++ entry n y ∷ []) e)

-- one more record in its turn
pub givens_next : (xs : List Record) (i : ℕ) (x : Record) → i < length xs → x ≡ get_or xs i x
    → givens_from 0 (take i xs) ++ entry i x ∷ [] ≡ givens_from 0 (take (i + 1) xs)
givens_next xs i x within is =
    let size : 0 + length (take i xs) ≡ i = omega (arith, length-take i xs) in
    ap (λ n. givens_from 0 (take i xs) ++ entry n x ∷ []) (sym size) ∙ sym (givens_from-append 0 (take i xs) x)
    ∙ ap (givens_from 0) (ap (λ y. take i xs ++ y ∷ []) is ∙ sym (take_more xs i x within))

pub length-givens_from : (place : ℕ) (xs : List Record) → length (givens_from place xs) ≡ length xs
length-givens_from place [] = refl
length-givens_from place (x ∷ xs) = ap suc (length-givens_from (place + 1) xs)

-- an entry stands for the record at its place
given_at : (place : ℕ) (xs : List Record) (e : Given) → Contains (givens_from place xs) e
    → (k : ℕ) × (k < length xs) × (e.place ≡ place + k) × (get_or xs k e.given ≡ e.given)
given_at place [] e c = absurd (Contains-none e c)
given_at place (x ∷ xs) e c = elim (head_or_after (record { place = place; given = x }) (givens_from (place + 1) xs) e c) [
  | inl here ↦ (0, omega arith, ap (λ (g : Given). g.place) here ∙ omega arith, sym (ap (λ (g : Given). g.given) here))
  | inr after ↦
      let r = given_at (place + 1) xs e after in
      let l = r.1 in
      let p = r.2 in
      (suc r.0, omega arith, omega arith, r.3)
]

at_given : (place : ℕ) (xs : List Record) (k : ℕ) (x : Record) → k < length xs → get_or xs k x ≡ x
    → Contains (givens_from place xs) (record { place = place + k; given = x })
at_given place [] k x h is = absurd (omega arith)
at_given place (y ∷ xs) zero x h is =
    let e : place ≡ place + 0 = omega arith in
    subst (λ (z : Record). Contains (givens_from place (y ∷ xs)) (record { place = place + 0; given = z })) is
    (subst (λ n. Contains (givens_from place (y ∷ xs)) (record { place = n; given = y })) e
    (Contains-head (record { place = place; given = y }) (givens_from (place + 1) xs)))
at_given place (y ∷ xs) (suc k) x h is =
    let e : place + 1 + k ≡ place + suc k = omega arith in
    subst (λ n. Contains (givens_from place (y ∷ xs)) (record { place = n; given = x })) e
    (Contains-after (record { place = place; given = y }) (givens_from (place + 1) xs)
    (record { place = place + 1 + k; given = x }) (at_given (place + 1) xs k x (omega arith) is))

-- the records as entries, in any order
pub are_givens : (given : List Record) (entries : List Given) → IsPermutation (givens_from 0 given) entries → AreGivens given entries
are_givens given entries moved = record {
  each = λ e c.
      let r = given_at 0 given e (Contains-permutation entries (givens_from 0 given) e (IsPermutation-sym (givens_from 0 given) entries moved) c) in
      let p : r.0 ≡ e.place = omega (arith, r.2) in
      (subst (λ k. k < length given) p r.1, subst (λ k. get_or given k e.given ≡ e.given) p r.3);
  all = λ k one h is.
      let e : 0 + k ≡ k = omega arith in
      Contains-permutation (givens_from 0 given) entries _ moved
      (subst (λ n. Contains (givens_from 0 given) (record { place = n; given = one })) e
      (at_given 0 given k one h is));
}
