-- The machine reads each repeat.
use Rattle.std.proofs.Common.{ℕ, ◌≡◌, ◌+◌, ◌-◌, ◌*◌, ◌<◌, ◌≤◌, Bool, true, false, ◌&&◌, List, [], ◌∷◌, ◌++◌, length}
use Rattle.std.proofs.Common.{refl, sym, ◌∙◌, ap, arith, inl, inr, Ok, Option, Some, None, append_assoc, nat_le, nat_lt}
use Rattle.std.specs.List.{list_all}
use Rattle.std.proofs.lemmas.Bool.Decides.{nat_tests}
use Rattle.posix_ere.specs.Ascii.{is_digit}
use Rattle.posix_ere.specs.Interval.{IsRepeat, IsInterval, IsCount, value_from}
use Rattle.posix_ere.specs.IntervalMachine.{count_step, may_reach, low_step, high_step}
use Rattle.posix_ere.specs.Machine.{State, step, run, with_repeat, at_mode, interval_step, if_repeatable, plain_step, mode_step, sign_of}
use Rattle.posix_ere.specs.declared.interval.Interval.{Interval}
use Rattle.posix_ere.specs.declared.interval.Interval.TheVariants as interval
use Rattle.posix_ere.specs.declared.interval.Counting.TheVariants as counting
use Rattle.posix_ere.specs.declared.frame.Mode.TheVariants as mode
use Rattle.posix_ere.proofs.RunsLemmas.{run_one}

pub both : (p q : Bool) → (p && q) ≡ true → (p ≡ true) × (q ≡ true)
both true q h = (refl, h)
both false q h = absurd (cc)

pub digit_bounds : (d : ℕ) → is_digit d ≡ true → (48 ≤ d) × (d ≤ 57)
digit_bounds d h = let r = both (nat_le 48 d) (nat_le d 57) h in (grind (arith, nat_tests, r.0), grind (arith, nat_tests, r.1))

pub value_grows : (n : ℕ) (ds : List ℕ) → n ≤ value_from n ds
value_grows n [] = omega arith
value_grows n (d ∷ ds) = omega (arith, value_grows (n * 10 + (d - 48)) ds)

pub value_append : (n : ℕ) (xs ys : List ℕ) → value_from n (xs ++ ys) ≡ value_from (value_from n xs) ys
value_append n [] ys = refl
value_append n (x ∷ xs) ys = value_append (n * 10 + (x - 48)) xs ys

low_digit : (v c d : ℕ) → is_digit d ≡ true → c < 3 → v * 10 + (d - 48) ≤ 255 → low_step v c d ≡ counting.More (interval.Low (v * 10 + (d - 48)) (c + 1))
low_digit v c d h l m = rw h (rw test refl)
  where
    test : (nat_lt c 3 && nat_le (v * 10 + (d - 48)) 255) ≡ true
    test = grind (arith, nat_tests)

-- a count of at most three digits can still be reached by the digits that follow
pub reaches : (m v c : ℕ) (ds : List ℕ) → list_all is_digit ds ≡ true → 1 ≤ c → c + length ds ≤ 3 → m ≤ value_from v ds → value_from v ds ≤ 255
    → may_reach m v c ≡ true
reaches m v c [] h o l a b = grind (arith, nat_tests)
reaches m v c (x ∷ []) h o l a b =
    let d = digit_bounds x (both (is_digit x) true h).0 in
    let e : c < 3 = omega arith in
    let f : m ≤ v * 10 + 9 = omega (arith, d.0, d.1) in
    let g : v * 10 ≤ 255 = omega arith in
    reach_two m v c e f g
  where
    reach_two : (m v c : ℕ) → c < 3 → m ≤ v * 10 + 9 → v * 10 ≤ 255 → may_reach m v c ≡ true
    reach_two m v c e f g = grind (arith, nat_tests)
reaches m v c (x ∷ y ∷ []) h o l a b =
    let q = both (is_digit x) (is_digit y && true) h in
    let d = digit_bounds x q.0 in
    let p = digit_bounds y (both (is_digit y) true q.1).0 in
    let e : c < 2 = omega arith in
    let f : m ≤ v * 100 + 99 = omega (arith, d.0, d.1, p.0, p.1) in
    let g : v * 100 ≤ 255 = omega arith in
    reach_three m v c e f g
  where
    reach_three : (m v c : ℕ) → c < 2 → m ≤ v * 100 + 99 → v * 100 ≤ 255 → may_reach m v c ≡ true
    reach_three m v c e f g = grind (arith, nat_tests)
reaches m v c (x ∷ y ∷ z ∷ ds) h o l a b = absurd (omega arith)

high_digit : (m v c d : ℕ) → is_digit d ≡ true → c < 3 → v * 10 + (d - 48) ≤ 255 → may_reach m (v * 10 + (d - 48)) (c + 1) ≡ true
    → high_step m v c d ≡ counting.More (interval.High m (v * 10 + (d - 48)) (c + 1))
high_digit m v c d h l n r = rw h (rw test refl)
  where
    test : (nat_lt c 3 && nat_le (v * 10 + (d - 48)) 255 && may_reach m (v * 10 + (d - 48)) (c + 1)) ≡ true
    test = rw r (grind (arith, nat_tests))

module _ (s : State) where
  unfoldable pub inside : Interval → State
  inside i = at_mode (mode.Interval i) s

  pub counts : (i j : Interval) (b : ℕ) (bs : List ℕ) → count_step i b ≡ counting.More j → run (inside i) (b ∷ bs) ≡ run (inside j) bs
  unfolding step inside
  counts i j b bs e = run_one (inside i) (inside j) b bs (ap (interval_step (inside i) b) e)

  pub done : (i : Interval) (low : ℕ) (high : Option ℕ) → count_step i 125 ≡ counting.Done low high → run (inside i) (125 ∷ []) ≡ Ok (with_repeat low high s)
  unfolding step inside
  done i low high e = run_one (inside i) (with_repeat low high s) 125 [] (ap (interval_step (inside i) 125) e)

  pub lows : (ds bs : List ℕ) (v c : ℕ) → list_all is_digit ds ≡ true → c + length ds ≤ 3 → value_from v ds ≤ 255
      → run (inside (interval.Low v c)) (ds ++ bs) ≡ run (inside (interval.Low (value_from v ds) (c + length ds))) bs
  lows [] bs v c h l m = ap (λ k. run (inside (interval.Low v k)) bs) (omega arith)
  lows (d ∷ ds) bs v c h l m =
      let q = both (is_digit d) (list_all is_digit ds) h in
      let e = low_digit v c d q.0 (omega arith) (omega (arith, value_grows (v * 10 + (d - 48)) ds)) in
      counts _ _ d (ds ++ bs) e ∙ (lows ds bs (v * 10 + (d - 48)) (c + 1) q.1 (omega arith) m
      ∙ ap (λ k. run (inside (interval.Low (value_from (v * 10 + (d - 48)) ds) k)) bs) (omega arith))

  pub low : (ds bs : List ℕ) (n : ℕ) → IsCount ds n → run (inside interval.Start) (ds ++ bs) ≡ run (inside (interval.Low n (length ds))) bs
  low [] bs n h = absurd (omega (arith, h.some))
  low (d ∷ ds) bs n h =
      let q = both (is_digit d) (list_all is_digit ds) h.digits in
      let z : 0 * 10 + (d - 48) ≡ d - 48 = omega arith in
      let v : value_from (d - 48) ds ≡ n = ap (λ k. value_from k ds) (sym z) ∙ h.value in
      let b : value_from (d - 48) ds ≤ 255 = omega (arith, h.most, v) in
      counts interval.Start (interval.Low (d - 48) 1) d (ds ++ bs) (rw q.0 refl)
      ∙ (lows ds bs (d - 48) 1 q.1 (omega (arith, h.short)) b
      ∙ (ap (λ k. run (inside (interval.Low k (1 + length ds))) bs) v ∙ ap (λ k. run (inside (interval.Low n k)) bs) (omega arith)))

  pub highs : (m : ℕ) (ds bs : List ℕ) (v c : ℕ) → list_all is_digit ds ≡ true → 1 ≤ c → c + length ds ≤ 3 → m ≤ value_from v ds → value_from v ds ≤ 255
      → run (inside (interval.High m v c)) (ds ++ bs) ≡ run (inside (interval.High m (value_from v ds) (c + length ds))) bs
  highs m [] bs v c h o l a b = ap (λ k. run (inside (interval.High m v k)) bs) (omega arith)
  highs m (d ∷ ds) bs v c h o l a b =
      let q = both (is_digit d) (list_all is_digit ds) h in
      let r = reaches m (v * 10 + (d - 48)) (c + 1) ds q.1 (omega arith) (omega arith) a b in
      let e = high_digit m v c d q.0 (omega arith) (omega (arith, value_grows (v * 10 + (d - 48)) ds)) r in
      counts _ _ d (ds ++ bs) e ∙ (highs m ds bs (v * 10 + (d - 48)) (c + 1) q.1 (omega arith) (omega arith) a b
      ∙ ap (λ k. run (inside (interval.High m (value_from (v * 10 + (d - 48)) ds) k)) bs) (omega arith))

  pub high : (m : ℕ) (ds bs : List ℕ) (n : ℕ) → m ≤ n → IsCount ds n
      → run (inside (interval.Comma m)) (ds ++ bs) ≡ run (inside (interval.High m n (length ds))) bs
  high m [] bs n l h = absurd (omega (arith, h.some))
  high m (d ∷ ds) bs n l h =
      let q = both (is_digit d) (list_all is_digit ds) h.digits in
      let z : 0 * 10 + (d - 48) ≡ d - 48 = omega arith in
      let v : value_from (d - 48) ds ≡ n = ap (λ k. value_from k ds) (sym z) ∙ h.value in
      let b : value_from (d - 48) ds ≤ 255 = omega (arith, h.most, v) in
      let a : m ≤ value_from (d - 48) ds = omega (arith, v) in
      let r = reaches m (d - 48) 1 ds q.1 (omega arith) (omega (arith, h.short)) a b in
      counts (interval.Comma m) (interval.High m (d - 48) 1) d (ds ++ bs) (rw q.0 (rw r refl))
      ∙ (highs m ds bs (d - 48) 1 q.1 (omega arith) (omega (arith, h.short)) a b
      ∙ (ap (λ k. run (inside (interval.High m k (1 + length ds))) bs) v ∙ ap (λ k. run (inside (interval.High m n k)) bs) (omega arith)))

  pub runs_interval : (w : List ℕ) (m : ℕ) (n : Option ℕ) → IsInterval w m n → run (inside interval.Start) (w ++ 125 ∷ []) ≡ Ok (with_repeat m n s)
  runs_interval w m None (x, e, h) =
      ap (λ k. run (inside interval.Start) (k ++ 125 ∷ [])) e ∙ (ap (run (inside interval.Start)) (append_assoc x (44 ∷ []) (125 ∷ []))
      ∙ (low x (44 ∷ 125 ∷ []) m h ∙ (counts (interval.Low m (length x)) (interval.Comma m) 44 (125 ∷ []) refl ∙ done (interval.Comma m) m None refl)))
  runs_interval w m (Some n) (inl (e, h)) =
      low w (125 ∷ []) m h ∙ (done (interval.Low m (length w)) m (Some m) refl ∙ ap (λ k. Ok (with_repeat m (Some k) s)) e)
  runs_interval w m (Some n) (inr (x, y, e, h, k, l)) =
      ap (λ z. run (inside interval.Start) (z ++ 125 ∷ [])) e ∙ (ap (run (inside interval.Start)) (append_assoc x (44 ∷ y) (125 ∷ []))
      ∙ (low x (44 ∷ (y ++ 125 ∷ [])) m h ∙ (counts (interval.Low m (length x)) (interval.Comma m) 44 (y ++ 125 ∷ []) refl
      ∙ (high m y (125 ∷ []) n l k ∙ done (interval.High m n (length y)) m (Some n) (rw (at_most m n l) refl)))))
    where
      at_most : (m n : ℕ) → m ≤ n → nat_le m n ≡ true
      at_most m n l = grind (arith, nat_tests)

  stepped : (b : ℕ) → s.mode ≡ mode.Plain → step s b ≡ plain_step s b (sign_of b)
  unfolding step
  stepped b e = ap (λ m. mode_step m s b) e

  allowed : (t : State) → s.top.repeatable ≡ true → if_repeatable s t ≡ Ok t
  allowed t r = rw r refl

  pub runs_repeat : (w : List ℕ) (m : ℕ) (n : Option ℕ) → s.mode ≡ mode.Plain → s.top.repeatable ≡ true → IsRepeat w m n
      → run s w ≡ Ok (with_repeat m n s)
  unfolding inside
  runs_repeat w m n e r (inl (h, i, j)) =
      ap (run s) h ∙ (run_one s _ 42 [] (stepped 42 e ∙ allowed (with_repeat 0 None s) r)
      ∙ ap (λ k. Ok (with_repeat k None s)) (sym i) ∙ ap (λ k. Ok (with_repeat m k s)) (sym j))
  runs_repeat w m n e r (inr (inl (h, i, j))) =
      ap (run s) h ∙ (run_one s _ 43 [] (stepped 43 e ∙ allowed (with_repeat 1 None s) r)
      ∙ ap (λ k. Ok (with_repeat k None s)) (sym i) ∙ ap (λ k. Ok (with_repeat m k s)) (sym j))
  runs_repeat w m n e r (inr (inr (inl (h, i, j)))) =
      ap (run s) h ∙ (run_one s _ 63 [] (stepped 63 e ∙ allowed (with_repeat 0 (Some 1) s) r)
      ∙ ap (λ k. Ok (with_repeat k (Some 1) s)) (sym i) ∙ ap (λ k. Ok (with_repeat m k s)) (sym j))
  runs_repeat w m n e r (inr (inr (inr (v, h, i)))) =
      ap (run s) h
      ∙ (run_one s (inside interval.Start) 123 (v ++ 125 ∷ [])
      (stepped 123 e ∙ allowed (at_mode (mode.Interval interval.Start) s) r) ∙ runs_interval v m n i)
