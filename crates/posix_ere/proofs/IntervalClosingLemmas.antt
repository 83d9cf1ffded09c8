-- What was read of an interval is the beginning of one.
use Rattle.std.proofs.Common.{ℕ, ◌≡◌, ◌+◌, ◌-◌, ◌*◌, ◌/◌, ◌%◌, ◌<◌, ◌≤◌, Bool, true, false, ◌&&◌, ◌||◌, List, [], ◌∷◌}
use Rattle.std.proofs.Common.{◌++◌, length, refl, sym, ◌∙◌, ap, subst, arith, ◌⊎◌, inl, inr, Some, None, append_assoc}
use Rattle.std.proofs.Common.{length-append, nat_le, nat_lt}
use Rattle.std.specs.List.{list_all}
use Rattle.std.proofs.lemmas.Bool.Decides.{nat_tests}
use Rattle.std.proofs.lemmas.List.{append-nil}
use Rattle.posix_ere.specs.Ascii.{is_digit}
use Rattle.posix_ere.specs.Interval.{IsInterval, value_from}
use Rattle.posix_ere.specs.Reasons.{IsIntervalPart}
use Rattle.posix_ere.specs.IntervalMachine.{may_reach}
use Rattle.posix_ere.specs.declared.interval.Interval.{Interval}
use Rattle.posix_ere.specs.declared.interval.Interval.TheVariants as interval
use Rattle.posix_ere.proofs.IntervalRunsLemmas.{both, value_append}
use Rattle.posix_ere.proofs.IntervalSoundLemmas.{Counted}

-- digits that reach a count
pub record Target (m v c : ℕ) : Type 0 where
  pub digits : List ℕ
  pub all : list_all is_digit digits ≡ true
  pub few : length digits ≤ 2
  pub short : c + length digits ≤ 3
  pub least : m ≤ value_from v digits
  pub most : value_from v digits ≤ 255

digit_of : (d : ℕ) → d ≤ 9 → is_digit (48 + d) ≡ true
digit_of d h = grind (arith, nat_tests)

one_digit : (m v c d : ℕ) → d ≤ 9 → c < 3 → m ≤ v * 10 + d → v * 10 + d ≤ 255 → Target m v c
one_digit m v c d h l a b =
    let e : v * 10 + ((48 + d) - 48) ≡ v * 10 + d = omega arith in
    record {
      digits = (48 + d) ∷ [];
      all = rw (digit_of d h) refl;
      few = omega arith;
      short = omega arith;
      least = omega (arith, e);
      most = omega (arith, e);
    }

two_digits : (m v c d f : ℕ) → d ≤ 9 → f ≤ 9 → c < 2 → m ≤ (v * 10 + d) * 10 + f → (v * 10 + d) * 10 + f ≤ 255 → Target m v c
two_digits m v c d f h k l a b =
    let e : (v * 10 + ((48 + d) - 48)) * 10 + ((48 + f) - 48) ≡ (v * 10 + d) * 10 + f = omega arith in
    record {
      digits = (48 + d) ∷ (48 + f) ∷ [];
      all = rw (digit_of d h, digit_of f k) refl;
      few = omega arith;
      short = omega arith;
      least = omega (arith, e);
      most = omega (arith, e);
    }

le_or_gt : (a b : ℕ) → (a ≤ b) ⊎ (b < a)
le_or_gt a b = grind arith

upto : (a b : ℕ) → nat_le a b ≡ true → a ≤ b
upto a b h = grind (arith, nat_tests)

below : (a b : ℕ) → nat_lt a b ≡ true → a < b
below a b h = grind (arith, nat_tests)

or_cases : (p q : Bool) → (p || q) ≡ true → (p ≡ true) ⊎ (q ≡ true)
or_cases true q h = inl refl
or_cases false q h = inr h

target_two : (m v c : ℕ) → m ≤ 255 → c < 2 → m ≤ v * 100 + 99 → v * 100 ≤ 255 → (m ≤ v * 100) ⊎ (v * 100 < m) → Target m v c
target_two m v c h l a b (inl x) = two_digits m v c 0 0 (omega arith) (omega arith) l (omega arith) (omega arith)
target_two m v c h l a b (inr x) =
    let d = m - v * 100 in
    let q : 10 * (d / 10) + d % 10 ≡ d = omega arith in
    let r : d % 10 < 10 = omega arith in
    let y : d ≤ 99 = omega arith in
    let z : d / 10 ≤ 9 = omega (arith, q, r) in
    let u : (v * 10 + d / 10) * 10 + d % 10 ≡ m = omega (arith, q) in
    two_digits m v c (d / 10) (d % 10) z (omega arith) l (omega (arith, u)) (omega (arith, u))

target_one : (m v c : ℕ) → m ≤ 255 → c < 3 → m ≤ v * 10 + 9 → v * 10 ≤ 255 → (m ≤ v * 10) ⊎ (v * 10 < m) → Target m v c
target_one m v c h l a b (inl x) = one_digit m v c 0 (omega arith) l (omega arith) (omega arith)
target_one m v c h l a b (inr x) = one_digit m v c (m - v * 10) (omega arith) l (omega arith) (omega arith)

pub target : (m v c : ℕ) → m ≤ 255 → c ≤ 3 → may_reach m v c ≡ true → Target m v c
target m v c h l r =
    elim (or_cases ((nat_le m v && nat_le v 255) || (nat_lt c 3 && nat_le m (v * 10 + 9) && nat_le (v * 10) 255))
    (nat_lt c 2 && nat_le m (v * 100 + 99) && nat_le (v * 100) 255) r) [
      | inl a ↦ elim (or_cases (nat_le m v && nat_le v 255) (nat_lt c 3 && nat_le m (v * 10 + 9) && nat_le (v * 10) 255) a) [
        | inl b ↦ (let q = both (nat_le m v) (nat_le v 255) b in none_more (upto m v q.0) (upto v 255 q.1))
        | inr b ↦ (let q = both (nat_lt c 3 && nat_le m (v * 10 + 9)) (nat_le (v * 10) 255) b in
            let p = both (nat_lt c 3) (nat_le m (v * 10 + 9)) q.0 in
            target_one m v c h (below c 3 p.0) (upto m (v * 10 + 9) p.1) (upto (v * 10) 255 q.1) (le_or_gt m (v * 10)))
      ]
      | inr a ↦ (let q = both (nat_lt c 2 && nat_le m (v * 100 + 99)) (nat_le (v * 100) 255) a in
          let p = both (nat_lt c 2) (nat_le m (v * 100 + 99)) q.0 in
          target_two m v c h (below c 2 p.0) (upto m (v * 100 + 99) p.1) (upto (v * 100) 255 q.1) (le_or_gt m (v * 100)))
    ]
  where
    none_more : m ≤ v → v ≤ 255 → Target m v c
    none_more a b = record { digits = []; all = refl; few = omega arith; short = omega arith; least = a; most = b }

pub nat_le_true : (a b : ℕ) → a ≤ b → nat_le a b ≡ true
nat_le_true a b h = grind (arith, nat_tests)

digits_append : (xs ys : List ℕ) → list_all is_digit xs ≡ true → list_all is_digit ys ≡ true → list_all is_digit (xs ++ ys) ≡ true
digits_append [] ys h g = g
digits_append (x ∷ xs) ys h g = let q = both (is_digit x) (list_all is_digit xs) h in rw q.0 (digits_append xs ys q.1 g)

pub counted_part : (i : Interval) (z : List ℕ) → Counted z i → IsIntervalPart z
counted_part interval.Start z h = (
  48 ∷ [],
  0,
  Some 0,
  subst (λ y. IsInterval (y ++ 48 ∷ []) 0 (Some 0)) (sym h)
      (inl (refl, record { digits = refl; some = omega arith; short = omega arith; value = refl; most = omega arith })),
)
counted_part (interval.Low v c) z (h, l) = ([], v, Some v, subst (λ y. IsInterval y v (Some v)) (sym (append-nil z)) (inl (refl, h)))
counted_part (interval.Comma m) z (x, e, h) = ([], m, None, subst (λ y. IsInterval y m None) (sym (append-nil z)) (x, e, h))
counted_part (interval.High m v c) z (x, y, e, a, b, l, r) =
    let t = target m v c a.most (omega (arith, b.short, l)) r in
    let n = length-append y t.digits in (
      t.digits,
      m,
      Some (value_from v t.digits),
      inr (
        x,
        y ++ t.digits,
        ap (λ w. w ++ t.digits) e ∙ append_assoc x (44 ∷ y) t.digits,
        a,
        record {
          digits = digits_append y t.digits b.digits t.all;
          some = omega (arith, n, b.some);
          short = omega (arith, n, l, t.short);
          value = value_append 0 y t.digits ∙ ap (λ k. value_from k t.digits) b.value;
          most = t.most;
        },
        t.least,
      ),
    )
