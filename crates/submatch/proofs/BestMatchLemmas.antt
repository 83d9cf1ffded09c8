-- There is one best match, or none; the laws of the order of parses.
use Rattle.std.proofs.Common.{◌≡◌, ℕ, zero, suc, ◌<◌, ◌≤◌, ◌⊎◌, inl, inr, refl, sym, subst, arith, Bool, List, length}
use Rattle.posix_ere.specs.Tree.{Tree}
use Rattle.submatch.specs.Parses.{Parses, no_more, next, AreParses, IsNext, IsParse}
use Rattle.submatch.specs.Greater.{AreGreatest, IsGreatestParse}
use Rattle.submatch.specs.Best.{IsMatch, HasNoMatch, IsBestMatch}
use Rattle.submatch.specs.Laws.{OneIsGreater, HasGreatest, OneIsBest}
use Rattle.submatch.proofs.OrderLemmas.{compare_parses, greater_asymmetric}
use Rattle.submatch.proofs.EndsLemmas.{parse_within}
use Rattle.submatch.proofs.GreedyLemmas.{greatest_is_one}
use Rattle.submatch.proofs.OutcomesLemmas.{Outcome, found, nothing, Chosen, chosen, no_choice, part_chosen, next_outcome}

pub one_is_greater : OneIsGreater
one_is_greater fold w t i j k ps qs one other differ = elim (compare_parses ps qs) [
  | inl same ↦ absurd (differ same)
  | inr greater ↦ elim greater [
    | inl up ↦ inl (up, greater_asymmetric ps qs up)
    | inr down ↦ inr (down, greater_asymmetric qs ps down)
  ]
]

greatest_of : (P : ℕ → Parses → Type 0) (c : ℕ) (a : Parses) → P c a → Chosen P → (d : ℕ) × (b : Parses) × IsGreatestParse P d b
greatest_of P c a h (chosen d b g) = (d, b, g)
greatest_of P c a h (no_choice never) = absurd (never c a h)

pub has_greatest : HasGreatest
has_greatest fold w t i j c a within h = greatest_of (IsParse fold w t i j) c a h (part_chosen fold w t i j within)

-- a parse of the whole from i, as one parse and nothing after it
abbrev Whole : Bool → List ℕ → Tree → AreParses
Whole fold w t = IsNext (IsParse fold w t) (λ e j rest. rest ≡ no_more)

match_of_whole : (fold : Bool) (w : List ℕ) (t : Tree) (i : ℕ) (ps : Parses) → Whole fold w t i 0 ps → IsMatch fold w t i ps
match_of_whole fold w t i no_more h = h
match_of_whole fold w t i (next e c a rest) h = h

whole_of_match : (fold : Bool) (w : List ℕ) (t : Tree) (i : ℕ) (ps : Parses) → IsMatch fold w t i ps → Whole fold w t i 0 ps
whole_of_match fold w t i no_more h = h
whole_of_match fold w t i (next e c a rest) h = h

renamed : (fold : Bool) (w : List ℕ) (t : Tree) (i : ℕ) → Outcome (Whole fold w t i 0) → Outcome (IsMatch fold w t i)
renamed fold w t i (found ps g) = found ps (record {
  holds = match_of_whole fold w t i ps g.holds;
  most = λ qs h. g.most qs (whole_of_match fold w t i qs h);
})
renamed fold w t i (nothing never) = nothing (λ ps h. never ps (whole_of_match fold w t i ps h))

match_outcome : (fold : Bool) (w : List ℕ) (t : Tree) (i : ℕ) → i ≤ length w → Outcome (IsMatch fold w t i)
match_outcome fold w t i within = renamed fold w t i
    (next_outcome (IsParse fold w t) (λ e j rest. rest ≡ no_more) i 0
    (λ e. part_chosen fold w t i e within)
    (λ e c a h. found no_more (record { holds = refl; most = λ qs k. inl (sym k) }))
    (length w) (λ e c a h. (parse_within fold w t i e c a h).inside within))

-- a best match from a start below n, or no start below n has a match
abbrev BestBelow : Bool → List ℕ → Tree → ℕ → Type 0
BestBelow fold w t n =
    ((i j c : ℕ) × (a : Parses) × IsBestMatch fold w t i j c a) ⊎ ((i : ℕ) → i < n → HasNoMatch fold w t i)

best_of_greatest : (fold : Bool) (w : List ℕ) (t : Tree) (i : ℕ) (ps : Parses) → i ≤ length w →
    ((k : ℕ) → k < i → HasNoMatch fold w t k) → AreGreatest (IsMatch fold w t i) ps →
    (k j c : ℕ) × (a : Parses) × IsBestMatch fold w t k j c a
best_of_greatest fold w t i no_more within least g = absurd g.holds
best_of_greatest fold w t i (next j c a rest) within least g = (
  i,
  j,
  c,
  a,
  record {
    within = within;
    least = least;
    greatest = subst (λ x. AreGreatest (IsMatch fold w t i) (next j c a x)) g.holds.1 g;
  },
)

below_or_at : (i n : ℕ) → i < suc n → (i < n) ⊎ (i ≡ n)
below_or_at i n h = grind arith

at_start : (fold : Bool) (w : List ℕ) (t : Tree) (n : ℕ) → n ≤ length w →
    ((k : ℕ) → k < n → HasNoMatch fold w t k) → Outcome (IsMatch fold w t n) → BestBelow fold w t (suc n)
at_start fold w t n within least (found ps g) = inl (best_of_greatest fold w t n ps within least g)
at_start fold w t n within least (nothing never) = inr (λ i h. elim (below_or_at i n h) [
  | inl less ↦ least i less
  | inr same ↦ λ ps k. never ps (subst (λ x. IsMatch fold w t x ps) same k)
])

best_below : (fold : Bool) (w : List ℕ) (t : Tree) (n : ℕ) → n ≤ suc (length w) → BestBelow fold w t n
best_below fold w t zero bound = inr (λ i h. absurd (omega arith))
best_below fold w t (suc n) bound = elim (best_below fold w t n (omega arith)) [
  | inl best ↦ inl best
  | inr least ↦ at_start fold w t n (omega arith) least (match_outcome fold w t n (omega arith))
]

has_match : (fold : Bool) (w : List ℕ) (t : Tree) (i j c : ℕ) (a : Parses) → IsBestMatch fold w t i j c a → HasNoMatch fold w t i → ⊥
has_match fold w t i j c a best never = never (next j c a no_more) best.greatest.holds

order_of : (i k : ℕ) → (i < k) ⊎ ((k < i) ⊎ (k ≡ i))
order_of i k = grind arith

parts_of : (j l c d : ℕ) (a b : Parses) → next l d b no_more ≡ next j c a no_more → (l ≡ j) × (d ≡ c) × (b ≡ a)
parts_of j l c d a b e = (cc e, cc e, cc e)

pub best_is_one : (fold : Bool) (w : List ℕ) (t : Tree) (i j c k l d : ℕ) (a b : Parses) →
    IsBestMatch fold w t i j c a → IsBestMatch fold w t k l d b → (k ≡ i) × (l ≡ j) × (d ≡ c) × (b ≡ a)
best_is_one fold w t i j c k l d a b best other = elim (order_of i k) [
  | inl less ↦ absurd (has_match fold w t i j c a best (other.least i less))
  | inr rest ↦ elim rest [
    | inl less ↦ absurd (has_match fold w t k l d b other (best.least k less))
    | inr same ↦
        let there : AreGreatest (IsMatch fold w t i) (next l d b no_more) =
        subst (λ x. AreGreatest (IsMatch fold w t x) (next l d b no_more)) same other.greatest in
        let parts = parts_of j l c d a b (greatest_is_one (IsMatch fold w t i) (next l d b no_more) (next j c a no_more)
        there best.greatest) in
        (same, parts.0, parts.1, parts.2)
  ]
]

pub one_is_best : OneIsBest
one_is_best fold w t = elim (best_below fold w t (suc (length w)) (omega arith)) [
  | inl h ↦ inl (h.0, h.1, h.2, h.3, h.4, λ k l d b other. best_is_one fold w t h.0 h.1 h.2 k l d h.3 b h.4 other)
  | inr never ↦ inr (λ i within. never i (omega arith))
]
