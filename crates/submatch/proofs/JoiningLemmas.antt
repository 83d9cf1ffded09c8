-- Rows joined to a row: those of the places whose bits are set in a word, and those of the places of another row.
use Rattle.std.proofs.Common.{◌≡◌, ℕ, zero, suc, refl, ◌+◌, ◌-◌, ◌*◌, ◌/◌, ◌%◌, ◌^◌, ◌<◌, ◌≤◌, ◌⊎◌, inl, inr, sym, ◌∙◌}
use Rattle.std.proofs.Common.{subst, ap, arith, List, get_or, w64, eqb, eqb-true, eq-eqb, IsTrue, ◌↔◌}
use Rattle.std.specs.Int.{bit_at, trailing_zeros}
use Rattle.std.proofs.lemmas.Nat.{shr-shr, shr_le}
use Rattle.std.proofs.lemmas.Nat.Bits.{bit_at-zero, bit_at_above, bit_at_lowest, bit_at-trailing_zeros}
use Rattle.submatch.specs.Rows.{Row, Has, Leads, LeadsFrom, LeadsFromBit, AddsPlaces}

shifted : (word a i : ℕ) → bit_at (word / 2 ^ a) i ≡ bit_at word (a + i)
shifted word a i = ap (λ x. x % 2) (shr-shr word a i)

pub compare : (k n : ℕ) → (k < n) ⊎ (n ≤ k)
compare k n = grind arith

-- of what is left of a word, no bit is set
none_left : (word from k : ℕ) → word / 2 ^ from ≡ 0 → from ≤ k → bit_at word k ≡ 0
none_left word from k e up =
    let back : from + (k - from) ≡ k = omega arith in
    subst (λ x. bit_at word x ≡ 0) back (sym (shifted word from (k - from)) ∙ ap (λ x. bit_at x (k - from)) e ∙ bit_at-zero (k - from))

-- a bit that is set is one of the word
pub bit_within : (word n bit : ℕ) → word < 2 ^ n → bit_at word bit ≡ 1 → bit < n
bit_within word n bit fits one = elim (compare bit n) [
  | inl less ↦ less
  | inr past ↦ let clear : bit_at word bit ≡ 0 = bit_at_above word n bit fits past in absurd (omega arith)
]

-- a word has a bit that is set, this one or a later one
record HasBit (word done : ℕ) : Type 0 where
  bit : ℕ
  later : done ≤ bit
  within : bit < 64
  there : bit_at word bit ≡ 1

some_left : (word done left : ℕ) → word < 2 ^ 64 → left ≡ word / 2 ^ done → (left ≡ 0 → ⊥) → HasBit word done
some_left word done left fits is other =
    let t : ℕ = trailing_zeros w64 left in
    let less : word / 2 ^ done ≤ word = shr_le word done in
    let h = bit_at-trailing_zeros w64 left (not_zero left other) (omega (arith, less, is)) in
    let one : bit_at word (done + t) ≡ 1 = sym (shifted word done t) ∙ ap (λ x. bit_at x t) (sym is) ∙ h.1 in
    record { bit = done + t; later = omega arith; within = bit_within word 64 (done + t) fits one; there = one }
  where
    not_zero : (n : ℕ) → (n ≡ 0 → ⊥) → 0 < n
    not_zero zero other = absurd (other refl)
    not_zero (suc n) other = omega arith

-- the lowest bit of what is left
lowest_left : (word done left : ℕ) → left ≡ word / 2 ^ done → bit_at word done ≡ left % 2
lowest_left word done left is =
    let none : done + 0 ≡ done = omega arith in
    subst (λ k. bit_at word k ≡ left % 2) none (sym (shifted word done 0) ∙ ap (λ x. bit_at x 0) (sym is) ∙ bit_at_lowest left)

-- the rows of the places whose bits are set in a word have the place j, the bits before n alone
pub record LeadsFromBitBelow (rows : List Row) (word start n j : ℕ) : Type 0 where
  pub bit : ℕ
  pub below : bit < n
  pub there : bit_at word bit ≡ 1
  pub leads : Leads rows (start + bit) j

-- the bits of a word are gone over up to those that are left
pub record IsWordGone (rows : List Row) (word start : ℕ) (old : Row) (left at : ℕ) (row : Row) : Type 0 where
  pub later : start ≤ at
  pub within : at ≤ start + 64
  pub is_left : left ≡ word / 2 ^ (at - start)
  pub few : (n : ℕ) → ((bit : ℕ) → bit_at word bit ≡ 1 → bit < n) → at ≤ start + n
  pub adds : AddsPlaces (LeadsFromBitBelow rows word start (at - start)) old row

pub word_none : (rows : List Row) (word start : ℕ) (old : Row) → IsWordGone rows word start old word start old
word_none rows word start old =
    let none : start - start ≡ 0 = omega arith in
    let whole : word / 1 ≡ word = omega arith in
    record {
      later = omega arith;
      within = omega arith;
      is_left = subst (λ d. word ≡ word / 2 ^ d) (sym none) (sym whole);
      few = λ n bits. omega arith;
      adds = record {
        each = λ j h. inl h;
        kept = λ j h. h;
        added = λ j l. let b : l.bit < start - start = l.below in absurd (omega arith);
      };
    }

pub word_next : (rows : List Row) (word start : ℕ) (old : Row) (left at : ℕ) (row new : Row) → word < 2 ^ 64 → (left ≡ 0 → ⊥) →
    AddsPlaces (λ j. IsTrue (eqb (left % 2) 1) × Leads rows at j) row new → IsWordGone rows word start old left at row →
    IsWordGone rows word start old (left / 2) (at + 1) new
word_next rows word start old left at row new fits other joins gone =
    let some : HasBit word (at - start) = some_left word (at - start) left fits gone.is_left other in
    let low : bit_at word (at - start) ≡ left % 2 = lowest_left word (at - start) left gone.is_left in
    let up : start ≤ at = gone.later in
    let done : at + 1 - start ≡ at - start + 1 = omega arith in
    let place : start + (at - start) ≡ at = omega arith in
    record {
      later = omega arith;
      within = omega (arith, some.later, some.within);
      is_left = ap (λ x. x / 2) gone.is_left ∙ shr-shr word (at - start) 1 ∙ ap (λ d. word / 2 ^ d) (sym done);
      few = λ n bits. let b : some.bit < n = bits some.bit some.there in omega (arith, some.later);
      adds = record {
        each = λ j h. elim (joins.each j h) [
          | inr here ↦ inr (record {
            bit = at - start;
            below = omega arith;
            there = low ∙ eqb-true (left % 2) 1 here.0;
            leads = subst (λ x. Leads rows x j) (sym place) here.1;
          })
          | inl before ↦ elim (gone.adds.each j before) [
            | inl first ↦ inl first
            | inr l ↦ inr (record { bit = l.bit; below = omega (arith, done, l.below); there = l.there; leads = l.leads })
          ]
        ];
        kept = λ j h. joins.kept j (gone.adds.kept j h);
        added = λ j l. elim (compare l.bit (at - start)) [
          | inl before ↦ joins.kept j (gone.adds.added j (record { bit = l.bit; below = before; there = l.there; leads = l.leads }))
          | inr after ↦ let below : l.bit < at + 1 - start = l.below in
              let same : l.bit ≡ at - start = omega (arith, done) in
              let here : start + l.bit ≡ at = omega (arith, same, place) in
              joins.added j (
                eq-eqb (left % 2) 1 (sym low ∙ subst (λ x. bit_at word x ≡ 1) same l.there),
                subst (λ x. Leads rows x j) here l.leads,
              )
        ];
      };
    }

pub word_all : (rows : List Row) (word start : ℕ) (old : Row) (left at : ℕ) (row : Row) → left ≡ 0 → IsWordGone rows word start old left at row →
    AddsPlaces (LeadsFromBit rows word start) old row
word_all rows word start old left at row none gone = record {
  each = λ j h. elim (gone.adds.each j h) [
    | inl first ↦ inl first
    | inr l ↦ inr (record { bit = l.bit; there = l.there; leads = l.leads })
  ];
  kept = gone.adds.kept;
  added = λ j l. elim (compare l.bit (at - start)) [
    | inl before ↦ gone.adds.added j (record { bit = l.bit; below = before; there = l.there; leads = l.leads })
    | inr after ↦ let clear : bit_at word l.bit ≡ 0 = none_left word (at - start) l.bit (sym gone.is_left ∙ none) after in
        let one : bit_at word l.bit ≡ 1 = l.there in absurd (omega arith)
  ];
}

pub bits_shifted : (word from bit : ℕ) → word < 2 ^ 64 → (bit_at (word / 2 ^ from) bit ≡ 1) ↔ ((from + bit < 64) × (bit_at word (from + bit) ≡ 1))
bits_shifted word from bit fits = (
  (λ one. let set : bit_at word (from + bit) ≡ 1 = sym (shifted word from bit) ∙ one in (bit_within word 64 (from + bit) fits set, set)),
  (λ h. shifted word from bit ∙ h.1),
)

-- the bits of a word from a place on are the places of the row
pub word_bits : (row : Row) (place word part bit : ℕ) → place < 256 → word ≡ get_or row (place / 64) 0 →
    (bit_at part bit ≡ 1) ↔ ((place % 64 + bit < 64) × (bit_at word (place % 64 + bit) ≡ 1)) →
    (bit_at part bit ≡ 1) ↔ ((bit < 64 - place % 64) × Has row (place + bit))
unfolding Has
word_bits row place word part bit small is bits = (
  (λ one.
      let h = bits.0 one in
      let low : place % 64 + bit < 64 = h.0 in
      let number : (place + bit) / 64 ≡ place / 64 = omega arith in
      let at : (place + bit) % 64 ≡ place % 64 + bit = omega arith in (
        omega arith,
        (
          omega arith,
          subst (λ k. bit_at (get_or row k 0) ((place + bit) % 64) ≡ 1) (sym number)
              (subst (λ k. bit_at (get_or row (place / 64) 0) k ≡ 1) (sym at) (subst (λ x. bit_at x (place % 64 + bit) ≡ 1) is h.1)),
        ),
      )),
  (λ h.
      let low : bit < 64 - place % 64 = h.0 in
      let number : (place + bit) / 64 ≡ place / 64 = omega arith in
      let at : (place + bit) % 64 ≡ place % 64 + bit = omega arith in
      bits.1 (
        omega arith,
        subst (λ x. bit_at x (place % 64 + bit) ≡ 1) (sym is) (subst (λ k. bit_at (get_or row (place / 64) 0) k ≡ 1) at
            (subst (λ k. bit_at (get_or row k 0) ((place + bit) % 64) ≡ 1) number h.1.1)),
      )),
)

-- the rows of the places of a row, from one place on and before another, have the place j
pub record LeadsBetween (rows : List Row) (places : Row) (from n j : ℕ) : Type 0 where
  pub at : ℕ
  pub later : from ≤ at
  pub below : at < n
  pub there : Has places at
  pub leads : Leads rows at j

-- the bits of a word are the places of a row from this one on, to the last of the same word
abbrev pub AreWordFrom : Row → ℕ → ℕ → Type 0
AreWordFrom places at word = (bit : ℕ) → (bit_at word bit ≡ 1) ↔ ((bit < 64 - at % 64) × Has places (at + bit))

pub places_none : (rows : List Row) (places : Row) (from : ℕ) (old : Row) → AddsPlaces (LeadsBetween rows places from from) old old
places_none rows places from old = record {
  each = λ j h. inl h;
  kept = λ j h. h;
  added = λ j l. let a : from ≤ l.at = l.later in let b : l.at < from = l.below in absurd (omega arith);
}

pub places_next : (rows : List Row) (places : Row) (from at word : ℕ) (old row new : Row) → from ≤ at → AreWordFrom places at word →
    AddsPlaces (LeadsFromBit rows word at) row new → AddsPlaces (LeadsBetween rows places from at) old row →
    AddsPlaces (LeadsBetween rows places from ((at / 64 + 1) * 64)) old new
places_next rows places from at word old row new up bits joins gone = record {
  each = λ j h. elim (joins.each j h) [
    | inr l ↦ let b = (bits l.bit).0 l.there in
        let low : l.bit < 64 - at % 64 = b.0 in
        inr (record { at = at + l.bit; later = omega arith; below = omega arith; there = b.1; leads = l.leads })
    | inl before ↦ elim (gone.each j before) [
      | inl first ↦ inl first
      | inr l ↦ let less : l.at < at = l.below in
          inr (record { at = l.at; later = l.later; below = omega arith; there = l.there; leads = l.leads })
    ]
  ];
  kept = λ j h. joins.kept j (gone.kept j h);
  added = λ j l. elim (compare l.at at) [
    | inl before ↦ joins.kept j (gone.added j (record { at = l.at; later = l.later; below = before; there = l.there; leads = l.leads }))
    | inr after ↦ let less : l.at < (at / 64 + 1) * 64 = l.below in
        let back : l.at ≡ at + (l.at - at) = omega arith in
        joins.added j (record {
          bit = l.at - at;
          there = (bits (l.at - at)).1 (omega arith, subst (λ x. Has places x) back l.there);
          leads = subst (λ x. Leads rows x j) back l.leads;
        })
  ];
}

pub places_all : (rows : List Row) (places : Row) (from at end : ℕ) (old row : Row) → ((i j : ℕ) → i < 256 → Leads rows i j → i < end) → end ≤ at →
    AddsPlaces (LeadsBetween rows places from at) old row →
    AddsPlaces (LeadsFrom rows places from) old row
unfolding Has
places_all rows places from at end old row rows_end past gone = record {
  each = λ j h. elim (gone.each j h) [
    | inl first ↦ inl first
    | inr l ↦ inr (record { at = l.at; later = l.later; there = l.there; leads = l.leads })
  ];
  kept = gone.kept;
  added = λ j l. let less : l.at < end = rows_end l.at j l.there.0 l.leads in
      gone.added j (record { at = l.at; later = l.later; below = omega arith; there = l.there; leads = l.leads });
}
