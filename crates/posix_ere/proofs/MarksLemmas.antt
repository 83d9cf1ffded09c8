-- Marking the bytes of an item one after another.
use Rattle.std.proofs.Common.{ℕ, ◌≡◌, ◌+◌, ◌<◌, ◌≤◌, ◌≢◌, Bool, true, false, ◌||◌, List, length, get_or, set, refl, ◌∙◌}
use Rattle.std.proofs.Common.{arith, ◌⊎◌, inl, inr, get_or-set_other, get_or-set_same, ◌==◌}
use Rattle.std.proofs.Math.ListN.{length-set}
use Rattle.std.proofs.lemmas.List.FromFn.{fill_by_all}
use Rattle.std.proofs.lemmas.Bool.Decides.{nat_tests}
use Rattle.posix_ere.specs.Bracket.{Item, has}
use Rattle.posix_ere.specs.Bracket.Item.{single, range}
use Rattle.posix_ere.specs.BracketMachine.{marked}

or_false : (b : Bool) → b ≡ b || false
or_false true = refl
or_false false = refl

or_true : (b : Bool) → true ≡ b || true
or_true true = refl
or_true false = refl

-- the marks of the numbers below n are made
pub record Marking (i : Item) (n : ℕ) (old new : List Bool) : Type 0 where
  pub size : length new ≡ 128
  pub below : (k : ℕ) → k < n → get_or new k false ≡ (get_or old k false || has i k)
  pub above : (k : ℕ) → n ≤ k → get_or new k false ≡ get_or old k false

pub marking_none : (i : Item) (old : List Bool) → length old ≡ 128 → Marking i 0 old old
marking_none i old h = record { size = h; below = λ k l. absurd (omega arith); above = λ k l. refl }

at_or_below : (k n : ℕ) → k < n + 1 → (k < n) ⊎ (k ≡ n)
at_or_below k n h = grind arith

same_or_not : (k n : ℕ) → (k ≡ n) ⊎ (k ≢ n)
same_or_not k n = grind arith

pub marking_kept : (i : Item) (n : ℕ) (old new : List Bool) → Marking i n old new → has i n ≡ false → Marking i (n + 1) old new
marking_kept i n old new m h = record {
  size = m.size;
  below = λ k l. elim (at_or_below k n l) [
    | inl b ↦ m.below k b
    | inr e ↦ rw (e, h) (m.above n (omega arith) ∙ or_false _)
  ];
  above = λ k l. m.above k (omega arith);
}

pub marking_set : (i : Item) (n : ℕ) (old new : List Bool) → Marking i n old new → n < 128 → has i n ≡ true → Marking i (n + 1) old (set new n true)
marking_set i n old new m b h = record {
  size = length-set new n true ∙ m.size;
  below = λ k l. elim (at_or_below k n l) [
    | inl c ↦ (let ne : k ≢ n = omega arith in rw get_or-set_other (m.below k c))
    | inr e ↦ (let lt : n < length new = omega (arith, m.size) in rw (e, h) (rw get_or-set_same (or_true _)))
  ];
  above = λ k l. let ne : k ≢ n = omega arith in rw get_or-set_other (m.above k (omega arith));
}

pub marking_done : (i : Item) (old new : List Bool) → Marking i 128 old new → new ≡ marked i old
unfolding marked
marking_done i old new m = fill_by_all (λ b. get_or old b false || has i b) new 128 false m.size m.below

eq_true : (k : ℕ) → (k == k) ≡ true
eq_true k = grind (arith, nat_tests)

eq_false : (k n : ℕ) → k ≢ n → (k == n) ≡ false
eq_false k n h = grind (arith, nat_tests)

pub marked_single : (e : ℕ) (old : List Bool) → length old ≡ 128 → e < 128 → set old e true ≡ marked (single e) old
unfolding marked
marked_single e old h b =
    fill_by_all (λ k. get_or old k false || has (single e) k) (set old e true) 128 false (length-set old e true ∙ h)
    (λ k l. elim (same_or_not k e) [
      | inl s ↦ (let lt : e < length old = omega (arith, h) in rw (s, eq_true e) (rw get_or-set_same (or_true _)))
      | inr n ↦ rw (get_or-set_other, eq_false k e n) (or_false _)
    ])

pub range_true : (e f n : ℕ) → e ≤ n → n ≤ f → has (range e f) n ≡ true
range_true e f n a b = grind (arith, nat_tests)

pub range_false : (e f n : ℕ) → (n < e) ⊎ (f < n) → has (range e f) n ≡ false
range_false e f n h = grind (arith, nat_tests)

pub marked_beyond : (e : ℕ) (old : List Bool) → length old ≡ 128 → 128 ≤ e → old ≡ marked (single e) old
unfolding marked
marked_beyond e old h b =
    fill_by_all (λ k. get_or old k false || has (single e) k) old 128 false h
    (λ k l. let n : k ≢ e = omega arith in rw (eq_false k e n) (or_false _))
