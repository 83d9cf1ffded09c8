-- Bits of rows.
use Rattle.std.proofs.Common.{◌≡◌, ◌≢◌, ℕ, zero, suc, ◌/◌, ◌%◌, ◌^◌, ◌<◌, ◌⊎◌, inl, inr, refl, sym, ◌∙◌, subst, ap}
use Rattle.std.proofs.Common.{arith, true, [], ◌∷◌, length, get_or, set, eqb, eqb-true, eq-eqb, max}
use Rattle.std.specs.Prelude.{bit_and, bit_or, ◌↔◌}
use Rattle.std.specs.Int.{bit_at}
use Rattle.std.proofs.lemmas.List.{get_or-set_same, get_or-set_other}
use Rattle.std.proofs.lemmas.Nat.Bits.{bit_at_or, bit_at-zero, bit_at-pow_same, bit_at-pow_other, bit_at-lt, shr_and_one}
use Rattle.submatch.specs.Rows.{Row, Has, AddsPlaces, AreEnds}

pub has_tests : (row : Row) (j : ℕ) → j < 256 →
    (eqb (bit_and (get_or row (j / 64) 0 / 2 ^ (j % 64)) 1) 1 ≡ true) ↔ Has row j
unfolding Has
has_tests row j small = rw shr_and_one ((λ e. (small, eqb-true _ 1 e)), (λ h. eq-eqb _ 1 h.1))

abbrev zeros : Row
zeros = 0 ∷ 0 ∷ 0 ∷ 0 ∷ []

pub none_there : AreEnds (λ j. ⊥) zeros
unfolding Has
none_there = record {
  each = λ j h. let e : bit_at (get_or zeros (j / 64) 0) (j % 64) ≡ bit_at 0 (j % 64) =
      ap (λ x. bit_at x (j % 64)) (zero_at (j / 64)) in
      let z : bit_at 0 (j % 64) ≡ 0 = bit_at-zero (j % 64) in
      let one : bit_at (get_or zeros (j / 64) 0) (j % 64) ≡ 1 = h.1 in
      omega arith;
  all = λ j h. absurd h;
}
  where
    zero_at : (k : ℕ) → get_or zeros k 0 ≡ 0
    zero_at zero = refl
    zero_at (suc zero) = refl
    zero_at (suc (suc zero)) = refl
    zero_at (suc (suc (suc zero))) = refl
    zero_at (suc (suc (suc (suc k)))) = refl

-- one of two bits
or_bit : (a b i : ℕ) → bit_at (bit_or a b) i ≡ 1 → (bit_at a i ≡ 1) ⊎ (bit_at b i ≡ 1)
or_bit a b i h = decide (bit_at a i) (bit_at b i) (bit_at-lt a i) (bit_at-lt b i) (sym (bit_at_or a b i) ∙ h)
  where
    decide : (x y : ℕ) → x < 2 → y < 2 → max x y ≡ 1 → (x ≡ 1) ⊎ (y ≡ 1)
    decide x y p q e = grind arith

or_left : (a b i : ℕ) → bit_at a i ≡ 1 → bit_at (bit_or a b) i ≡ 1
or_left a b i h = bit_at_or a b i ∙ (let p = bit_at-lt b i in omega arith)

or_right : (a b i : ℕ) → bit_at b i ≡ 1 → bit_at (bit_or a b) i ≡ 1
or_right a b i h = bit_at_or a b i ∙ (let p = bit_at-lt a i in omega arith)

module _ (old other : Row) where
  abbrev pub both : Row
  both = bit_or (get_or old 0 0) (get_or other 0 0) ∷ bit_or (get_or old 1 0) (get_or other 1 0) ∷
      bit_or (get_or old 2 0) (get_or other 2 0) ∷ bit_or (get_or old 3 0) (get_or other 3 0) ∷ []

  both_at : (k : ℕ) → k < 4 → get_or both k 0 ≡ bit_or (get_or old k 0) (get_or other k 0)
  both_at zero h = refl
  both_at (suc zero) h = refl
  both_at (suc (suc zero)) h = refl
  both_at (suc (suc (suc zero))) h = refl
  both_at (suc (suc (suc (suc k)))) h = absurd (omega arith)

  pub joined_places : (new : Row) → new ≡ both → AddsPlaces (Has other) old new
  unfolding Has
  joined_places new e = subst (λ x. AddsPlaces (Has other) old x) (sym e) (record {
    each = λ j h. let less : j < 256 = h.0 in
        let at : get_or both (j / 64) 0 ≡ bit_or (get_or old (j / 64) 0) (get_or other (j / 64) 0) = both_at (j / 64) (omega arith) in
        elim (or_bit (get_or old (j / 64) 0) (get_or other (j / 64) 0) (j % 64) (subst (λ x. bit_at x (j % 64) ≡ 1) at h.1)) [
          | inl first ↦ inl (less, first)
          | inr second ↦ inr (less, second)
        ];
    kept = λ j h. let less : j < 256 = h.0 in
        let at : get_or both (j / 64) 0 ≡ bit_or (get_or old (j / 64) 0) (get_or other (j / 64) 0) = both_at (j / 64) (omega arith) in
        (less, subst (λ x. bit_at x (j % 64) ≡ 1) (sym at) (or_left (get_or old (j / 64) 0) (get_or other (j / 64) 0) (j % 64) h.1));
    added = λ j h. let less : j < 256 = h.0 in
        let at : get_or both (j / 64) 0 ≡ bit_or (get_or old (j / 64) 0) (get_or other (j / 64) 0) = both_at (j / 64) (omega arith) in
        (less, subst (λ x. bit_at x (j % 64) ≡ 1) (sym at) (or_right (get_or old (j / 64) 0) (get_or other (j / 64) 0) (j % 64) h.1));
  })

module _ (old : Row) (p : ℕ) (four : length old ≡ 4) (small : p < 256) where
  abbrev word : ℕ
  word = bit_or (get_or old (p / 64) 0) (2 ^ (p % 64))

  at_place : (k : ℕ) → (k ≡ p / 64) ⊎ (k ≢ p / 64)
  at_place k = grind arith

  same_word : (k : ℕ) → k ≡ p / 64 → get_or (set old (p / 64) word) k 0 ≡ word
  same_word k e = subst (λ x. get_or (set old (p / 64) word) x 0 ≡ word) (sym e) (get_or-set_same old (p / 64) word 0 (omega arith))

  same_place : (j : ℕ) → j / 64 ≡ p / 64 → (j % 64 ≡ p % 64) ⊎ (j % 64 ≢ p % 64)
  same_place j e = grind arith

  pub added_place : AddsPlaces (λ j. p ≡ j) old (set old (p / 64) word)
  unfolding Has
  added_place = record {
    each = λ j h. elim (at_place (j / 64)) [
      | inr other ↦ inl (h.0, subst (λ x. bit_at x (j % 64) ≡ 1) (get_or-set_other old (p / 64) (j / 64) word 0 other) h.1)
      | inl same ↦ elim (same_place j same) [
        | inl bit ↦ inr (omega arith)
        | inr bit ↦ inl (
          h.0,
          elim (or_bit (get_or old (p / 64) 0) (2 ^ (p % 64)) (j % 64) (subst (λ x. bit_at x (j % 64) ≡ 1) (same_word (j / 64) same) h.1)) [
            | inl first ↦ subst (λ x. bit_at (get_or old x 0) (j % 64) ≡ 1) (sym same) first
            | inr second ↦ let none : bit_at (2 ^ (p % 64)) (j % 64) ≡ 0 = bit_at-pow_other (p % 64) (j % 64) bit in absurd (omega arith)
          ],
        )
      ]
    ];
    kept = λ j h. (
      h.0,
      elim (at_place (j / 64)) [
        | inr other ↦ subst (λ x. bit_at x (j % 64) ≡ 1) (sym (get_or-set_other old (p / 64) (j / 64) word 0 other)) h.1
        | inl same ↦ subst (λ x. bit_at x (j % 64) ≡ 1) (sym (same_word (j / 64) same))
            (or_left (get_or old (p / 64) 0) (2 ^ (p % 64)) (j % 64) (subst (λ x. bit_at (get_or old x 0) (j % 64) ≡ 1) same h.1))
      ],
    );
    added = λ j e. subst (λ x. (x < 256) × (bit_at (get_or (set old (p / 64) word) (x / 64) 0) (x % 64) ≡ 1)) e (
      small,
      subst (λ x. bit_at x (p % 64) ≡ 1) (sym (same_word (p / 64) refl))
          (or_right (get_or old (p / 64) 0) (2 ^ (p % 64)) (p % 64) (bit_at-pow_same (p % 64))),
    );
  }
