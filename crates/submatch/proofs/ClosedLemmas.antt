-- Joins that pass over places whose rows are in the row already, since the rows are closed.
use Rattle.std.proofs.Common.{◌≡◌, ℕ, zero, suc, ◌+◌, ◌-◌, ◌%◌, ◌^◌, ◌<◌, ◌≤◌, ◌⊎◌, inl, inr, refl, sym, ◌∙◌, subst}
use Rattle.std.proofs.Common.{arith, Bool, true, false, List, IsTrue, ◌↔◌, w64, min}
use Rattle.std.specs.Int.{bit_at, trailing_zeros, bit_not}
use Rattle.std.specs.Prelude.{bit_and}
use Rattle.std.proofs.lemmas.Nat.Bits.{bit_at-zero, bit_at-lt, bit_at_and, bit_at_not, bit_at-trailing_zeros}
use Rattle.submatch.specs.Rows.{Row, Has, Leads, AddsPlaces, AreEnds, IsClosedFrom, IsClosedOver}
use Rattle.submatch.proofs.JoiningLemmas.{LeadsBetween, AreWordFrom, compare, places_none}

-- below the lowest bit that is set there is none
below_lowest : (word i : ℕ) → word < 2 ^ 64 → i < trailing_zeros w64 word → bit_at word i ≡ 0
below_lowest zero i fits less = bit_at-zero i
below_lowest (suc n) i fits less = (bit_at-trailing_zeros w64 (suc n) (omega arith) fits).2 i less

-- below the lowest bit that is new, each bit that is set is known
pub known_below : (word known bit : ℕ) → known < 2 ^ 64 → bit_and word (bit_not w64 known) < 2 ^ 64 → bit < 64 →
    bit < trailing_zeros w64 (bit_and word (bit_not w64 known)) → bit_at word bit ≡ 1 → bit_at known bit ≡ 1
known_below word known bit fits new_fits small less set =
    let clear : bit_at (bit_and word (bit_not w64 known)) bit ≡ 0 = below_lowest (bit_and word (bit_not w64 known)) bit new_fits less in
    let other : bit_at (bit_not w64 known) bit ≡ 1 - bit_at known bit = bit_at_not w64 known bit fits small in
    decide (bit_at word bit) (bit_at (bit_not w64 known) bit) (bit_at known bit) set other (bit_at-lt known bit)
    (sym (bit_at_and word (bit_not w64 known) bit) ∙ clear)
  where
    decide : (x y z : ℕ) → x ≡ 1 → y ≡ 1 - z → z < 2 → min x y ≡ 0 → z ≡ 1
    decide x y z p q r e = grind arith

-- the places before the first new one are in both rows
pub passed_places : (row other : Row) (place first word known k : ℕ) → AreWordFrom row place word → AreWordFrom other place known →
    first ≤ 63 - place % 64 → ((bit : ℕ) → bit < first → bit_at word bit ≡ 1 → bit_at known bit ≡ 1) → place ≤ k → k < place + first →
    Has row k → Has other k
passed_places row other place first word known k here there within passed up less h =
    let back : k ≡ place + (k - place) = omega arith in
    let set : bit_at word (k - place) ≡ 1 = (here (k - place)).1 (omega arith, subst (λ x. Has row x) back h) in
    subst (λ x. Has other x) (sym back) ((there (k - place)).0 (passed (k - place) (omega arith) set)).1

true_or_not : (b : Bool) → IsTrue b ⊎ (IsTrue b → ⊥)
true_or_not true = inl refl
true_or_not false = inr (λ e. cc e)

-- the rows of the places before this one are in the row, and it is closed
pub record IsJoinedTo (rows : List Row) (places : Row) (from at : ℕ) (old row : Row) : Type 0 where
  pub later : from ≤ at
  pub adds : AddsPlaces (LeadsBetween rows places from at) old row
  pub closed : IsClosedOver from rows row

module _ (rows : List Row) (places : Row) (from : ℕ) where
  pub joined_none : (old : Row) → IsClosedOver from rows old → IsJoinedTo rows places from from old old
  joined_none old closed = record { later = omega arith; adds = places_none rows places from old; closed = closed }

  -- the place `next` is the next one whose row may be new
  pub joined_next : (at next : ℕ) (holds : Bool) (old row new : Row) → IsClosedFrom from rows → at ≤ next →
      ((k : ℕ) → at ≤ k → k < next → Has places k → Has row k) → (IsTrue holds ↔ Has places next) →
      AddsPlaces (λ j. IsTrue holds × Leads rows next j) row new → IsJoinedTo rows places from at old row →
      IsJoinedTo rows places from (next + 1) old new
  joined_next at next holds old row new closed up passed there joins gone =
      let later : from ≤ at = gone.later in
      record {
        later = omega arith;
        adds = record {
          each = λ j h. elim (joins.each j h) [
            | inr here ↦ inr (record { at = next; later = omega arith; below = omega arith; there = there.0 here.0; leads = here.1 })
            | inl before ↦ elim (gone.adds.each j before) [
              | inl first ↦ inl first
              | inr l ↦ let less : l.at < at = l.below in
                  inr (record { at = l.at; later = l.later; below = omega arith; there = l.there; leads = l.leads })
            ]
          ];
          kept = λ j h. joins.kept j (gone.adds.kept j h);
          added = λ j l. let less : l.at < next + 1 = l.below in elim (compare l.at at) [
            | inl before ↦ joins.kept j (gone.adds.added j (record { at = l.at; later = l.later; below = before; there = l.there; leads = l.leads }))
            | inr after ↦ elim (compare l.at next) [
              | inl between ↦ joins.kept j (gone.closed l.at j l.later (passed l.at after between l.there) l.leads)
              | inr last ↦ let same : l.at ≡ next = omega arith in
                  joins.added j (there.1 (subst (λ x. Has places x) same l.there), subst (λ x. Leads rows x j) same l.leads)
            ]
          ];
        };
        closed = λ j l after h leads. elim (joins.each j h) [
          | inl before ↦ joins.kept l (gone.closed j l after before leads)
          | inr here ↦ joins.added l (here.0, closed next j l (omega arith) after here.1 leads)
        ];
      }

-- one step more only for a place that there is
pub looked_more : (s t u next from n : ℕ) (holds : Bool) → s + from ≤ t + next → s + from ≤ t + n → u ≤ s + 1 → ((IsTrue holds → ⊥) → u ≡ s) →
    (IsTrue holds → next < n) → u + from ≤ t + n
looked_more s t u next from n holds looked most more idle bound = elim (true_or_not holds) [
  | inl held ↦ let less : next < n = bound held in omega arith
  | inr never ↦ let same : u ≡ s = idle never in omega arith
]

-- a row of one place is closed from the next on
pub one_is_closed : (rows : List Row) (holds : Bool) (from : ℕ) (row : Row) → AreEnds (λ j. IsTrue holds × (from ≡ j)) row →
    IsClosedOver (from + 1) rows row
one_is_closed rows holds from row ends j l after h leads = let same : from ≡ j = (ends.each j h).1 in absurd (omega arith)

pub closed_after : (k : ℕ) (rows : List Row) → IsClosedFrom 0 rows → IsClosedFrom k rows
closed_after k rows closed i j l up after first second = closed i j l (omega arith) (omega arith) first second
