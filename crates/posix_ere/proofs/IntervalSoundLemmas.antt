-- What the machine has read of an interval.
use Rattle.std.proofs.Common.{◌||◌, ℕ, ◌≡◌, ◌+◌, ◌-◌, ◌*◌, ◌<◌, ◌≤◌, Bool, true, false, ◌&&◌, ◌==◌, List, [], ◌∷◌, ◌++◌}
use Rattle.std.proofs.Common.{length, refl, sym, ◌∙◌, ap, subst, arith, ◌⊎◌, inl, inr, Option, Some, None, append_assoc}
use Rattle.std.proofs.Common.{length-append, nat_le, nat_lt}
use Rattle.std.specs.Prelude.{if◌then◌else◌}
use Rattle.std.specs.List.{list_all}
use Rattle.std.proofs.lemmas.Bool.Decides.{nat_tests}
use Rattle.posix_ere.specs.Ascii.{is_digit}
use Rattle.posix_ere.specs.Interval.{IsInterval, IsCount}
use Rattle.posix_ere.specs.IntervalMachine.{count_step, may_reach}
use Rattle.posix_ere.specs.declared.interval.Interval.{Interval}
use Rattle.posix_ere.specs.declared.interval.Interval.TheVariants as interval
use Rattle.posix_ere.specs.declared.interval.Counting.TheVariants as counting
use Rattle.posix_ere.proofs.IntervalRunsLemmas.{both, value_append, digit_bounds}

-- what was read after the `{`
abbrev pub Counted : List ℕ → Interval → Type 0
Counted z interval.Start = z ≡ []
Counted z (interval.Low v c) = IsCount z v × (length z ≡ c)
Counted z (interval.Comma m) = (x : List ℕ) × (z ≡ x ++ 44 ∷ []) × IsCount x m
Counted z (interval.High m v c) =
    (x : List ℕ) × (y : List ℕ) × (z ≡ x ++ 44 ∷ y) × IsCount x m × IsCount y v × (length y ≡ c) × (may_reach m v c ≡ true)

all_append : (xs : List ℕ) (b : ℕ) → list_all is_digit xs ≡ true → is_digit b ≡ true → list_all is_digit (xs ++ b ∷ []) ≡ true
all_append [] b h d = rw d refl
all_append (x ∷ xs) b h d =
    let q = both (is_digit x) (list_all is_digit xs) h in
    rw (q.0) (all_append xs b q.1 d)

-- one more digit of a count
count_more : (x : List ℕ) (v c b : ℕ) → IsCount x v → length x ≡ c → is_digit b ≡ true → c < 3 → v * 10 + (b - 48) ≤ 255
    → IsCount (x ++ b ∷ []) (v * 10 + (b - 48)) × (length (x ++ b ∷ []) ≡ c + 1)
count_more x v c b h l d s m =
    let n = length-append x (b ∷ []) in (
      record {
        digits = all_append x b h.digits d;
        some = omega (arith, n);
        short = omega (arith, n, l);
        value = value_append 0 x (b ∷ []) ∙ ap (λ k. k * 10 + (b - 48)) h.value;
        most = m;
      },
      omega (arith, n, l),
    )

count_one : (b : ℕ) → is_digit b ≡ true → IsCount (b ∷ []) (b - 48)
count_one b d =
    let r = digit_bounds b d in
    record { digits = rw d refl; some = omega arith; short = omega arith; value = omega arith; most = omega (arith, r.0, r.1) }

if_more : (p : Bool) (i j : Interval) → (if p then counting.More i else counting.Broken) ≡ counting.More j → (p ≡ true) × (i ≡ j)
if_more true i j e = (refl, cc)
if_more false i j e = absurd (cc)

if_done : (p : Bool) (i : Interval) (a : ℕ) (b : Option ℕ) → (if p then counting.More i else counting.Broken) ≡ counting.Done a b → ⊥
if_done true i a b e = cc
if_done false i a b e = cc

done_if : (p : Bool) (a : ℕ) (b : Option ℕ) (c : ℕ) (d : Option ℕ)
    → (if p then counting.Done a b else counting.Broken) ≡ counting.Done c d → (p ≡ true) × (a ≡ c) × (b ≡ d)
done_if true a b c d e = (refl, cc, cc)
done_if false a b c d e = absurd (cc)

byte_is : (a b : ℕ) → (a == b) ≡ true → a ≡ b
byte_is a b h = grind (arith, nat_tests)

below : (a b : ℕ) → nat_lt a b ≡ true → a < b
below a b h = grind (arith, nat_tests)

upto : (a b : ℕ) → nat_le a b ≡ true → a ≤ b
upto a b h = grind (arith, nat_tests)

LowMore : ℕ → ℕ → ℕ → Interval → Type 0
LowMore v c b j =
    ((is_digit b ≡ true) × (c < 3) × (v * 10 + (b - 48) ≤ 255) × (interval.Low (v * 10 + (b - 48)) (c + 1) ≡ j)) ⊎ ((b ≡ 44) × (interval.Comma v ≡ j))

low_more : (v c b : ℕ) (d : Bool) (k g : Bool) (j : Interval) → is_digit b ≡ d → (b == 125) ≡ k → (b == 44) ≡ g
    → (if d then (if nat_lt c 3 && nat_le (v * 10 + (b - 48)) 255 then counting.More (interval.Low (v * 10 + (b - 48)) (c + 1)) else counting.Broken)
    else (if k then counting.Done v (Some v) else (if g then counting.More (interval.Comma v) else counting.Broken))) ≡ counting.More j → LowMore v c b j
unfolding LowMore
low_more v c b true k g j d x y e =
    let r = if_more (nat_lt c 3 && nat_le (v * 10 + (b - 48)) 255) _ j e in
    let q = both (nat_lt c 3) (nat_le (v * 10 + (b - 48)) 255) r.0 in
    inl (d, below c 3 q.0, upto _ _ q.1, r.1)
low_more v c b false true g j d x y e = absurd (cc)
low_more v c b false false true j d x y e = inr (byte_is b 44 y, cc)
low_more v c b false false false j d x y e = absurd (cc)

low_done : (v c b : ℕ) (d : Bool) (k g : Bool) (p : ℕ) (q : Option ℕ) → (b == 125) ≡ k
    → (if d then (if nat_lt c 3 && nat_le (v * 10 + (b - 48)) 255 then counting.More (interval.Low (v * 10 + (b - 48)) (c + 1)) else counting.Broken)
    else (if k then counting.Done v (Some v) else (if g then counting.More (interval.Comma v) else counting.Broken))) ≡ counting.Done p q
    → (b ≡ 125) × (v ≡ p) × (Some v ≡ q)
low_done v c b true k g p q x e = absurd (if_done (nat_lt c 3 && nat_le (v * 10 + (b - 48)) 255) _ p q e)
low_done v c b false true g p q x e = (byte_is b 125 x, cc, cc)
low_done v c b false false true p q x e = absurd (cc)
low_done v c b false false false p q x e = absurd (cc)

comma_more : (m b : ℕ) (d k : Bool) (j : Interval) → is_digit b ≡ d
    → (if d then (if may_reach m (b - 48) 1 then counting.More (interval.High m (b - 48) 1) else counting.Broken)
    else (if k then counting.Done m None else counting.Broken)) ≡ counting.More j
    → (is_digit b ≡ true) × (may_reach m (b - 48) 1 ≡ true) × (interval.High m (b - 48) 1 ≡ j)
comma_more m b true k j d e = let r = if_more (may_reach m (b - 48) 1) _ j e in (d, r.0, r.1)
comma_more m b false true j d e = absurd (cc)
comma_more m b false false j d e = absurd (cc)

comma_done : (m b : ℕ) (d k : Bool) (p : ℕ) (q : Option ℕ) → (b == 125) ≡ k
    → (if d then (if may_reach m (b - 48) 1 then counting.More (interval.High m (b - 48) 1) else counting.Broken)
    else (if k then counting.Done m None else counting.Broken)) ≡ counting.Done p q
    → (b ≡ 125) × (m ≡ p) × (None ≡ q)
comma_done m b true k p q x e = absurd (if_done (may_reach m (b - 48) 1) _ p q e)
comma_done m b false true p q x e = (byte_is b 125 x, cc, cc)
comma_done m b false false p q x e = absurd (cc)

HighMore : ℕ → ℕ → ℕ → ℕ → Interval → Type 0
HighMore m v c b j =
    (is_digit b ≡ true) × (c < 3) × (v * 10 + (b - 48) ≤ 255) × (may_reach m (v * 10 + (b - 48)) (c + 1) ≡ true)
    × (interval.High m (v * 10 + (b - 48)) (c + 1) ≡ j)

high_more : (m v c b : ℕ) (d k : Bool) (j : Interval) → is_digit b ≡ d
    → (if d then (if nat_lt c 3 && nat_le (v * 10 + (b - 48)) 255 && may_reach m (v * 10 + (b - 48)) (c + 1)
    then counting.More (interval.High m (v * 10 + (b - 48)) (c + 1)) else counting.Broken)
    else (if k && nat_le m v then counting.Done m (Some v) else counting.Broken)) ≡ counting.More j → HighMore m v c b j
unfolding HighMore
high_more m v c b true k j d e =
    let r = if_more (nat_lt c 3 && nat_le (v * 10 + (b - 48)) 255 && may_reach m (v * 10 + (b - 48)) (c + 1)) _ j e in
    let q = both (nat_lt c 3 && nat_le (v * 10 + (b - 48)) 255) (may_reach m (v * 10 + (b - 48)) (c + 1)) r.0 in
    let p = both (nat_lt c 3) (nat_le (v * 10 + (b - 48)) 255) q.0 in
    (d, below c 3 p.0, upto _ _ p.1, q.1, r.1)
high_more m v c b false k j d e = absurd (no_more (k && nat_le m v) e)
  where
    no_more : (p : Bool) → (if p then counting.Done m (Some v) else counting.Broken) ≡ counting.More j → ⊥
    no_more true e = cc
    no_more false e = cc

high_done : (m v c b : ℕ) (d k : Bool) (p : ℕ) (q : Option ℕ) → (b == 125) ≡ k
    → (if d then (if nat_lt c 3 && nat_le (v * 10 + (b - 48)) 255 && may_reach m (v * 10 + (b - 48)) (c + 1)
    then counting.More (interval.High m (v * 10 + (b - 48)) (c + 1)) else counting.Broken)
    else (if k && nat_le m v then counting.Done m (Some v) else counting.Broken)) ≡ counting.Done p q
    → (b ≡ 125) × (m ≤ v) × (m ≡ p) × (Some v ≡ q)
high_done m v c b true k p q x e = absurd (if_done (nat_lt c 3 && nat_le (v * 10 + (b - 48)) 255 && may_reach m (v * 10 + (b - 48)) (c + 1)) _ p q e)
high_done m v c b false k p q x e =
    let r = done_if (k && nat_le m v) m (Some v) p q e in
    let s = both k (nat_le m v) r.0 in
    (byte_is b 125 (x ∙ s.0), upto m v s.1, r.1, r.2)

pub counted_more : (i : Interval) (z : List ℕ) (b : ℕ) (j : Interval) → Counted z i → count_step i b ≡ counting.More j → Counted (z ++ b ∷ []) j
unfolding LowMore HighMore
counted_more interval.Start z b j h e =
    let r = if_more (is_digit b) (interval.Low (b - 48) 1) j e in
    subst (Counted (z ++ b ∷ [])) r.1 (subst (λ y. Counted (y ++ b ∷ []) (interval.Low (b - 48) 1)) (sym h) (count_one b r.0, refl))
counted_more (interval.Low v c) z b j (h, l) e =
    low_case (low_more v c b (is_digit b) (b == 125) (b == 44) j refl refl refl e)
  where
    low_case : LowMore v c b j → Counted (z ++ b ∷ []) j
    low_case (inl (d, s, m, f)) = subst (Counted (z ++ b ∷ [])) f (count_more z v c b h l d s m)
    low_case (inr (f, g)) = subst (Counted (z ++ b ∷ [])) g (z, ap (λ k. z ++ k ∷ []) f, h)
counted_more (interval.Comma m) z b j (x, f, h) e =
    let r = comma_more m b (is_digit b) (b == 125) j refl e in
    subst (Counted (z ++ b ∷ [])) r.2
    (x, b ∷ [], ap (λ y. y ++ b ∷ []) f ∙ append_assoc x (44 ∷ []) (b ∷ []), h, count_one b r.0, refl, r.1)
counted_more (interval.High m v c) z b j (x, y, f, h, k, l, g) e =
    let r = high_more m v c b (is_digit b) (b == 125) j refl e in
    let q = count_more y v c b k l r.0 r.1 r.2 in
    subst (Counted (z ++ b ∷ [])) r.4
    (x, y ++ b ∷ [], ap (λ w. w ++ b ∷ []) f ∙ append_assoc x (44 ∷ y) (b ∷ []), h, q.0, q.1, r.3)

pub counted_done : (i : Interval) (z : List ℕ) (b low : ℕ) (high : Option ℕ) → Counted z i → count_step i b ≡ counting.Done low high
    → (b ≡ 125) × IsInterval z low high
counted_done interval.Start z b low high h e = absurd (if_done (is_digit b) _ low high e)
counted_done (interval.Low v c) z b low high (h, l) e =
    let r = low_done v c b (is_digit b) (b == 125) (b == 44) low high refl e in
    (r.0, subst (IsInterval z low) r.2 (subst (λ k. IsInterval z k (Some v)) r.1 (inl (refl, h))))
counted_done (interval.Comma m) z b low high (x, f, h) e =
    let r = comma_done m b (is_digit b) (b == 125) low high refl e in
    (r.0, subst (IsInterval z low) r.2 (subst (λ k. IsInterval z k None) r.1 (x, f, h)))
counted_done (interval.High m v c) z b low high (x, y, f, h, k, l, g) e =
    let r = high_done m v c b (is_digit b) (b == 125) low high refl e in
    (r.0, subst (IsInterval z low) r.3 (subst (λ k. IsInterval z k (Some v)) r.2 (inr (x, y, f, h, k, r.1))))

digits_count : (xs : List ℕ) → list_all is_digit xs ≡ true → list_all (λ b. is_digit b || b == 44) xs ≡ true
digits_count [] h = refl
digits_count (x ∷ xs) h =
    let q = both (is_digit x) (list_all is_digit xs) h in
    rw q.0 (digits_count xs q.1)

count_bytes_append : (xs ys : List ℕ) → list_all (λ b. is_digit b || b == 44) xs ≡ true → list_all (λ b. is_digit b || b == 44) ys ≡ true
    → list_all (λ b. is_digit b || b == 44) (xs ++ ys) ≡ true
count_bytes_append [] ys h g = g
count_bytes_append (x ∷ xs) ys h g =
    let q = both (is_digit x || x == 44) (list_all (λ b. is_digit b || b == 44) xs) h in
    rw q.0 (count_bytes_append xs ys q.1 g)

-- the text of an interval has digits and commas alone
pub interval_bytes : (w : List ℕ) (m : ℕ) (n : Option ℕ) → IsInterval w m n → list_all (λ b. is_digit b || b == 44) w ≡ true
interval_bytes w m None (x, e, h) =
    ap (list_all (λ b. is_digit b || b == 44)) e ∙ count_bytes_append x (44 ∷ []) (digits_count x h.digits) refl
interval_bytes w m (Some n) (inl (e, h)) = digits_count w h.digits
interval_bytes w m (Some n) (inr (x, y, e, h, k, l)) =
    ap (list_all (λ b. is_digit b || b == 44)) e ∙ count_bytes_append x (44 ∷ y) (digits_count x h.digits) (digits_count y k.digits)

pub bytes_front : (xs ys : List ℕ) → list_all (λ b. is_digit b || b == 44) (xs ++ ys) ≡ true → list_all (λ b. is_digit b || b == 44) xs ≡ true
bytes_front [] ys h = refl
bytes_front (x ∷ xs) ys h =
    let q = both (is_digit x || x == 44) (list_all (λ b. is_digit b || b == 44) (xs ++ ys)) h in
    rw q.0 (bytes_front xs ys q.1)
