-- Texts are in the order of the numbers that they begin with, where these differ.
use Rattle.std.proofs.Common.{◌≡◌, ◌≢◌, inl, inr, ℕ, zero, suc, ◌+◌, ◌*◌, ◌^◌, ◌<◌, List, [], ◌∷◌, get_or, refl, sym, ap, ◌∙◌, arith, add-one}
use Rattle.std.specs.declared.cmp.Ordering.{Ordering}
use Rattle.std.specs.declared.cmp.Ordering.TheVariants.{Less, Equal, Greater}
use Rattle.std.specs.Ordering.{nat_cmp, ordering_then, ordering_reverse}
use Rattle.std.specs.Cmp.{nat_cmp_is}
use Rattle.std.specs.Cmp.Lexicographic.{slice_cmp}
use Rattle.std.proofs.Math.Nat.{pow-suc, pow-le-pow_right}
use Rattle.std.proofs.lemmas.Bool.{cases_lt}
use Rattle.std.proofs.lemmas.Cmp.{ranked, nat_list_cmp_total}
use Rattle.zone_build.specs.Building.{front_of}

-- so many first numbers are bytes
abbrev pub BytesBelow : ℕ → List ℕ → Type 0
BytesBelow more xs = (at : ℕ) → at < more → get_or xs at 0 < 256

-- so many first bytes are the same
abbrev AreAlikeBelow : ℕ → List ℕ → List ℕ → Type 0
AreAlikeBelow more xs ys = (at : ℕ) → at < more → get_or xs at 0 ≡ get_or ys at 0

fewer : (more : ℕ) (xs : List ℕ) → BytesBelow (suc more) xs → BytesBelow more xs
fewer more xs small at h = small at (omega arith)

front-step : (more : ℕ) (xs : List ℕ) → front_of (suc more) xs ≡ 256 * front_of more xs + get_or xs more 0
unfolding front_of
front-step more xs = refl

-- one byte more
pub front-next : (more : ℕ) (xs : List ℕ) → front_of (more + 1) xs ≡ 256 * front_of more xs + get_or xs more 0
front-next more xs = ap (λ n. front_of n xs) (add-one more) ∙ front-step more xs

pub front-none : (xs : List ℕ) → front_of 0 xs ≡ 0
unfolding front_of
front-none xs = refl

pub front-bound : (more : ℕ) (xs : List ℕ) → BytesBelow more xs → front_of more xs < 256 ^ more
front-bound zero xs small = let e = front-none xs in omega (arith, e)
front-bound (suc more) xs small =
    let below = front-bound more xs (fewer more xs small) in
    let last = small more (omega arith) in
    let step = front-step more xs in
    let power = pow-suc 256 more in
    omega (arith, below, last, step, power)

-- with one byte more sixteen bytes' number is not passed
pub front-fits : (at : ℕ) (xs : List ℕ) → at < 16 → BytesBelow at xs → 256 * front_of at xs + 255 < 256 ^ 16
front-fits at xs within small =
    let below = front-bound at xs small in
    let power = pow-le-pow_right {n = 256} (omega arith) {i = at} {j = 15} (omega arith) in
    omega (arith, below, power)

alike_below : (more : ℕ) (xs ys : List ℕ) → BytesBelow more xs → BytesBelow more ys → front_of more xs ≡ front_of more ys → AreAlikeBelow more xs ys
alike_below zero xs ys small small' e at h = absurd (omega arith)
alike_below (suc more) xs ys small small' e at h =
    let last = small more (omega arith) in
    let last' = small' more (omega arith) in
    let step = front-step more xs in
    let step' = front-step more ys in
    let front : front_of more xs ≡ front_of more ys = omega (arith, last, last', step, step', e) in
    let here : get_or xs more 0 ≡ get_or ys more 0 = omega (arith, last, last', step, step', e) in
    elim (cases_lt at more) [
      | inl before ↦ alike_below more xs ys (fewer more xs small) (fewer more ys small') front at before
      | inr not ↦
          let same : more ≡ at = omega arith in
          ap (λ n. get_or xs n 0) (sym same) ∙ here ∙ ap (λ n. get_or ys n 0) same
    ]

first_apart : (more : ℕ) (xs ys : List ℕ) → AreAlikeBelow more xs ys → get_or xs more 0 < get_or ys more 0 → slice_cmp nat_cmp xs ys ≡ Less
first_apart more [] [] same l = absurd (omega (arith, l))
first_apart more [] (y ∷ ys) same l = refl
first_apart more (x ∷ xs) [] same l = absurd (omega (arith, l))
first_apart zero (x ∷ xs) (y ∷ ys) same l = ap (λ o. ordering_then o (slice_cmp nat_cmp xs ys)) (sym (nat_cmp_is x y Less l))
first_apart (suc more) (x ∷ xs) (y ∷ ys) same l =
    ap (λ o. ordering_then o (slice_cmp nat_cmp xs ys)) (sym (nat_cmp_is x y Equal (same 0 (omega arith))))
    ∙ first_apart more xs ys (λ at h. same (suc at) (omega arith)) l

front_less : (more : ℕ) (xs ys : List ℕ) → BytesBelow more xs → BytesBelow more ys → front_of more xs < front_of more ys → slice_cmp nat_cmp xs ys ≡ Less
front_less zero xs ys small small' l =
    let e = front-none ys in
    absurd (omega (arith, l, e))
front_less (suc more) xs ys small small' l =
    let last = small more (omega arith) in
    let last' = small' more (omega arith) in
    let step = front-step more xs in
    let step' = front-step more ys in
    elim (cases_lt (front_of more xs) (front_of more ys)) [
      | inl before ↦ front_less more xs ys (fewer more xs small) (fewer more ys small') before
      | inr not ↦
          let front : front_of more xs ≡ front_of more ys = omega (arith, last, last', step, step', l, not) in
          first_apart more xs ys (alike_below more xs ys (fewer more xs small) (fewer more ys small') front) (omega (arith, last, last', step, step', l, front))
    ]

-- numbers that differ tell the order
pub fronts_apart : (more : ℕ) (xs ys : List ℕ) (o : Ordering) → BytesBelow more xs → BytesBelow more ys
    → o ≡ nat_cmp (front_of more xs) (front_of more ys) → o ≢ Equal → o ≡ slice_cmp nat_cmp xs ys
fronts_apart more xs ys Less small small' is not = sym (front_less more xs ys small small' (ranked (front_of more xs) (front_of more ys) Less is))
fronts_apart more xs ys Equal small small' is not = absurd (not refl)
fronts_apart more xs ys Greater small small' is not =
    sym (nat_list_cmp_total.antisymm xs ys ∙ ap ordering_reverse (front_less more ys xs small' small (ranked (front_of more xs) (front_of more ys) Greater is)))
