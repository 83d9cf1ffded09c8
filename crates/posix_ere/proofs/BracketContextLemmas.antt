-- In which mode the machine is after a text that a reason speaks of.
use Rattle.std.proofs.Common.{ℕ, zero, suc, ◌≡◌, ◌+◌, Bool, true, false, not, ◌&&◌, ◌||◌, ◌==◌, List, [], ◌∷◌}
use Rattle.std.proofs.Common.{◌++◌, refl, sym, ◌∙◌, ap, subst, arith, ◌⊎◌, inl, inr, Result, Ok, Err, Option, Some}
use Rattle.std.proofs.Common.{None, append_assoc}
use Rattle.std.specs.Prelude.{if◌then◌else◌}
use Rattle.std.specs.List.{list_all}
use Rattle.std.proofs.lemmas.Bool.Decides.{nat_tests}
use Rattle.posix_ere.specs.Ascii.{is_printable, is_digit, is_lower}
use Rattle.posix_ere.specs.Bracket.{Item, name_of, spelled}
use Rattle.posix_ere.specs.Bracket.Item.{single, range, members}
use Rattle.posix_ere.specs.Reasons.{IsBetween, Between, AfterNothing, InEscape, IsUndecided}
use Rattle.posix_ere.specs.IntervalMachine.{count_step}
use Rattle.posix_ere.specs.BracketMachine.{list_step, phase_step, begin_item, named, next_class, at_phase}
use Rattle.posix_ere.specs.Machine.{State, start, step, run, after, mode_step, interval_step, bracket_step, with_group}
use Rattle.posix_ere.specs.Machine.{with_branch, with_leaf, at_mode, no_marks, if_repeatable}
use Rattle.posix_ere.specs.declared.node.Node.TheVariants as n
use Rattle.posix_ere.specs.declared.why.Why.{Why}
use Rattle.posix_ere.specs.declared.why.Why.TheVariants as w
use Rattle.posix_ere.specs.declared.class.Class.{Class}
use Rattle.posix_ere.specs.declared.class.Class.TheVariants as class
use Rattle.posix_ere.specs.declared.interval.Interval.{Interval}
use Rattle.posix_ere.specs.declared.interval.Interval.TheVariants as interval
use Rattle.posix_ere.specs.declared.interval.Counting.{Counting}
use Rattle.posix_ere.specs.declared.interval.Counting.TheVariants as counting
use Rattle.posix_ere.specs.declared.bracket.Bracket.{Bracket}
use Rattle.posix_ere.specs.declared.bracket.Phase.{Phase}
use Rattle.posix_ere.specs.declared.bracket.Phase.TheVariants as phase
use Rattle.posix_ere.specs.BracketMachine.{Listing}
use Rattle.posix_ere.specs.BracketMachine.{Listing as listing}
use Rattle.posix_ere.specs.declared.frame.Mode.TheVariants as mode
use Rattle.posix_ere.proofs.RunsLemmas.{run_on, run_one, err_not_ok}
use Rattle.posix_ere.proofs.IntervalRunsLemmas.{both}
use Rattle.posix_ere.proofs.BracketRunsLemmas.{same_byte}
use Rattle.posix_ere.proofs.CompleteLemmas.{runs_expression, step_plain}

-- the last byte of a text
abbrev pub last_from : ℕ → List ℕ → ℕ
last_from x [] = x
last_from x (y ∷ ys) = last_from y ys

abbrev pub last_of : List ℕ → ℕ
last_of [] = 0
last_of (x ∷ xs) = last_from x xs

pub last_from_append : (x : ℕ) (xs : List ℕ) (y : ℕ) (ys : List ℕ) → last_from x (xs ++ y ∷ ys) ≡ last_from y ys
last_from_append x [] y ys = refl
last_from_append x (z ∷ xs) y ys = last_from_append z xs y ys

pub last_append : (xs : List ℕ) (y : ℕ) (ys : List ℕ) → last_of (xs ++ y ∷ ys) ≡ last_from y ys
last_append [] y ys = refl
last_append (x ∷ xs) y ys = last_from_append x xs y ys

pub last_all : (test : ℕ → Bool) (x : ℕ) (xs : List ℕ) → test x ≡ true → list_all test xs ≡ true → test (last_from x xs) ≡ true
last_all test x [] h v = h
last_all test x (y ∷ ys) h v = let q = both (test y) (list_all test ys) v in last_all test y ys q.0 q.1

pub both_true : (p q : Bool) → p ≡ true → q ≡ true → (p && q) ≡ true
both_true true q h g = g
both_true false q h g = absurd (cc)

pub no_rest : (ys r : List ℕ) → [] ≡ ys ++ r → r ≡ []
no_rest [] r e = sym e
no_rest (y ∷ ys) r e = absurd (cc)

-- all but the last of a list pass a test, so each shorter beginning does
pub front_all : (test : ℕ → Bool) (xs : List ℕ) (x : ℕ) (ys r : List ℕ) → xs ++ x ∷ [] ≡ ys ++ r → (r ≡ [] → ⊥)
    → list_all test xs ≡ true → list_all test ys ≡ true
front_all test xs x [] r e n h = refl
front_all test [] x (y ∷ ys) r e n h = absurd (n (no_rest ys r (cc)))
front_all test (z ∷ xs) x (y ∷ ys) r e n h =
    let q = both (test z) (list_all test xs) h in
    let s : z ≡ y = cc in
    let f : xs ++ x ∷ [] ≡ ys ++ r = cc in
    both_true (test y) (list_all test ys) (ap test (sym s) ∙ q.0) (front_all test xs x ys r f n q.1)

-- the last bytes of a text that ends inside an interval, and the further bytes of a part of an item
abbrev pub is_counting : ℕ → Bool
is_counting b = b == 123 || (is_digit b || b == 44)

abbrev pub is_inner : ℕ → Bool
is_inner b = b == 45 || (b == 91 || (b == 58 || is_lower b))

pub inner_counting : (b : ℕ) → is_inner b ≡ true → is_counting b ≡ false
inner_counting b h = grind (arith, nat_tests)

pub inner_unclosed : (b : ℕ) → is_inner b ≡ true → (b == 93) ≡ false
inner_unclosed b h = grind (arith, nat_tests)

-- between pieces the machine is plain
pub runs_between : (d k : ℕ) (p : List ℕ) → IsBetween d k p → (s : State) × (run start p ≡ Ok s) × (s.mode ≡ mode.Plain) × (s.opened ≡ k)
runs_between zero k p (t, h, e) =
    let r = runs_expression t 0 p start refl refl refl refl h in
    (r.0, r.1, r.2.mode, omega (arith, r.2.opened, e))
runs_between (suc d) k p (q, w, j, t, e, h, x, g) =
    let a = runs_between d j q h in
    let s1 = with_group a.0 in
    let r = runs_expression t (suc j) w s1 a.2 (omega (arith, a.3)) refl refl x in (
      r.0,
      ap (run start) e ∙ (run_on start a.0 q (40 ∷ w) a.1 ∙ (run_one a.0 s1 40 w (step_plain a.0 40 a.2) ∙ r.1)),
      r.2.mode,
      omega (arith, r.2.opened, g),
    )

pub between_mode : (p : List ℕ) → Between p → (s : State) × (run start p ≡ Ok s) × (s.mode ≡ mode.Plain)
between_mode p (d, k, h) = let r = runs_between d k p h in (r.0, r.1, r.2)

-- after nothing that can be repeated
pub nothing_mode : (p : List ℕ) → AfterNothing p → (s : State) × (run start p ≡ Ok s) × (s.mode ≡ mode.Plain) × (s.top.repeatable ≡ false)
nothing_mode p (inl e) = (start, ap (run start) e, refl, refl)
nothing_mode p (inr (q, x, e, h, v)) =
    let a = between_mode q h in
    let r = idle_byte a.0 x a.2 v in
    (r.0, ap (run start) e ∙ (run_on start a.0 q (x ∷ []) a.1 ∙ run_one a.0 r.0 x [] r.1), r.2, r.3)
  where
    or_cases : (p q : Bool) → (p || q) ≡ true → (p ≡ true) ⊎ (q ≡ true)
    or_cases true q h = inl refl
    or_cases false q h = inr h

    plain_byte : (s t : State) (x c : ℕ) → (x == c) ≡ true → step s c ≡ Ok t → step s x ≡ Ok t
    plain_byte s t x c h e = ap (step s) (same_byte x c h) ∙ e

    idle_byte : (s : State) (x : ℕ) → s.mode ≡ mode.Plain → (x == 40 || x == 124 || x == 94 || x == 36) ≡ true
        → (t : State) × (step s x ≡ Ok t) × (t.mode ≡ mode.Plain) × (t.top.repeatable ≡ false)
    idle_byte s x m v = elim (or_cases (x == 40 || x == 124 || x == 94) (x == 36) v) [
      | inr e ↦ (with_leaf n.End no_marks false s, plain_byte s _ x 36 e (step_plain s 36 m), refl, refl)
      | inl a ↦ elim (or_cases (x == 40 || x == 124) (x == 94) a) [
        | inr e ↦ (with_leaf n.Start no_marks false s, plain_byte s _ x 94 e (step_plain s 94 m), refl, refl)
        | inl b ↦ elim (or_cases (x == 40) (x == 124) b) [
          | inl e ↦ (with_group s, plain_byte s _ x 40 e (step_plain s 40 m), m, refl)
          | inr e ↦ (with_branch s, plain_byte s _ x 124 e (step_plain s 124 m), m, refl)
        ]
      ]
    ]

-- a `{` that the machine has read begins an interval
pub not_nothing : (p q z : List ℕ) (s : State) → run start p ≡ Ok s → p ≡ q ++ 123 ∷ z → AfterNothing q → ⊥
not_nothing p q z s h e n =
    let a = nothing_mode q n in
    let f : step a.0 123 ≡ Err w.NothingToRepeat = step_plain a.0 123 a.2 ∙ idle a.0 a.3 in
    err_not_ok w.NothingToRepeat s
    (sym (ap (run start) e ∙ (run_on start a.0 q (123 ∷ z) a.1 ∙ ap (λ r. after r (λ t. run t z)) f)) ∙ h)
  where
    idle : (t : State) → t.top.repeatable ≡ false → if_repeatable t (at_mode (mode.Interval interval.Start) t) ≡ Err w.NothingToRepeat
    idle t r = rw r refl

-- after a backslash
pub escape_mode : (p : List ℕ) → InEscape p → (s : State) × (run start p ≡ Ok s) × (s.mode ≡ mode.Escape)
escape_mode p (q, e, h) =
    let a = between_mode q h in
    let s = at_mode mode.Escape a.0 in
    (s, ap (run start) e ∙ (run_on start a.0 q (92 ∷ []) a.1 ∙ run_one a.0 s 92 [] (step_plain a.0 92 a.2)), refl)

-- inside an interval, digits and commas leave it open
pub record Undone (c : Counting) : Type 0 where
  not_done : (low : ℕ) (high : Option ℕ) → c ≡ counting.Done low high → ⊥

pub undone_more : (i : Interval) → Undone (counting.More i)
undone_more i = record { not_done = λ low high e. cc }

pub undone_broken : Undone counting.Broken
undone_broken = record { not_done = λ low high e. cc }

pub undone_if : (t : Bool) (x y : Counting) → Undone x → Undone y → Undone (if t then x else y)
undone_if true x y f g = f
undone_if false x y f g = g

pub undone_byte : (t : Bool) (b : ℕ) (x y : Counting) → (t || b == 44) ≡ true → Undone x → (b ≡ 44 → Undone y) → Undone (if t then x else y)
undone_byte true b x y h f g = f
undone_byte false b x y h f g = g (same_byte b 44 h)

pub undone_step : (i : Interval) (b : ℕ) → (is_digit b || b == 44) ≡ true → Undone (count_step i b)
undone_step interval.Start b h = undone_if (is_digit b) _ _ (undone_more _) undone_broken
undone_step (interval.Low v c) b h = undone_byte (is_digit b) b _ _ h (undone_if _ _ _ (undone_more _) undone_broken) (λ e. rw e (undone_more _))
undone_step (interval.Comma v) b h = undone_byte (is_digit b) b _ _ h (undone_if _ _ _ (undone_more _) undone_broken) (λ e. rw e undone_broken)
undone_step (interval.High k v c) b h = undone_byte (is_digit b) b _ _ h (undone_if _ _ _ (undone_more _) undone_broken) (λ e. rw e undone_broken)

abbrev pub Counts : Result State Why → Type 0
Counts (Ok t) = (i : Interval) × (t.mode ≡ mode.Interval i)
Counts (Err why) = Unit {0}

pub step_interval : (s : State) (i : Interval) (b : ℕ) → s.mode ≡ mode.Interval i → step s b ≡ interval_step s b (count_step i b)
unfolding step
step_interval s i b m = ap (λ x. mode_step x s b) m

pub counts_on : (v : List ℕ) (s : State) (i : Interval) → s.mode ≡ mode.Interval i → list_all (λ b. is_digit b || b == 44) v ≡ true → Counts (run s v)
counts_on [] s i m h = (i, m)
counts_on (b ∷ v) s i m h =
    let q = both (is_digit b || b == 44) (list_all (λ b. is_digit b || b == 44) v) h in
    subst (λ r. Counts (after r (λ t. run t v))) (sym (step_interval s i b m))
    (go (count_step i b) (undone_step i b q.0) (λ j. counts_on v (at_mode (mode.Interval j) s) j refl q.1))
  where
    go : (c : Counting) → Undone c → ((j : Interval) → Counts (run (at_mode (mode.Interval j) s) v)) → Counts (after (interval_step s b c) (λ t. run t v))
    go (counting.More j) o f = f j
    go (counting.Done low high) o f = absurd (o.not_done low high refl)
    go counting.Broken o f = tt

-- inside a bracket, a byte that is no closing leaves it open
pub record Unlisted (r : Listing) : Type 0 where
  not_done : (negated : Bool) (marks : List Bool) → r ≡ listing.Done negated marks → ⊥

pub unlisted_more : (negated : Bool) (marks : List Bool) (p : Phase) → Unlisted (at_phase negated marks p)
unlisted_more negated marks p = record { not_done = λ x y e. cc }

pub unlisted_broken : (why : Why) → Unlisted (listing.Broken why)
unlisted_broken why = record { not_done = λ x y e. cc }

pub unlisted_if : (t : Bool) (x y : Listing) → Unlisted x → Unlisted y → Unlisted (if t then x else y)
unlisted_if true x y f g = f
unlisted_if false x y f g = g

pub begin_rest : (first negated : Bool) (m : List Bool) (b : ℕ)
    → Unlisted (if b == 91 then at_phase negated m phase.Inner else (if b == 45 && not first then at_phase negated m phase.Last
    else (if is_printable b then at_phase negated m (phase.Element b) else listing.Broken w.NotAscii)))
begin_rest first negated m b =
    unlisted_if (b == 91) _ _ (unlisted_more negated m phase.Inner) (unlisted_if (b == 45 && not first) _ _ (unlisted_more negated m phase.Last)
    (unlisted_if (is_printable b) _ _ (unlisted_more negated m (phase.Element b)) (unlisted_broken w.NotAscii)))

pub begin_open : (first negated : Bool) (m : List Bool) (b : ℕ) → (first ≡ false → (b == 93) ≡ false) → Unlisted (begin_item first negated m b)
begin_open true negated m b h = unlisted_if (b == 93) _ _ (unlisted_more negated m (phase.Element b)) (begin_rest true negated m b)
begin_open false negated m b h = rw (h refl) (begin_rest false negated m b)

pub named_open : (negated : Bool) (m : List Bool) (k b : ℕ) (r : Option Class) → Unlisted (named negated m k b r)
named_open negated m k b (Some c) = unlisted_more negated m (phase.ClassName c k)
named_open negated m k b None = unlisted_broken _

pub start_open : (negated : Bool) (m : List Bool) (b : ℕ) → Unlisted (phase_step negated m phase.Start b)
start_open negated m b = unlisted_if (b == 94) _ _ (unlisted_more true m phase.First) (begin_open true negated m b (λ e. absurd (cc)))

pub element_open : (negated : Bool) (m : List Bool) (e b : ℕ) → (b == 93) ≡ false → Unlisted (phase_step negated m (phase.Element e) b)
element_open negated m e b h = unlisted_if (b == 45) _ _ (unlisted_more negated m (phase.Dash e)) (begin_open false negated _ b (λ f. h))

pub phase_open : (negated : Bool) (m : List Bool) (p : Phase) (b : ℕ) → (b == 93) ≡ false → Unlisted (phase_step negated m p b)
phase_open negated m phase.Start b h = start_open negated m b
phase_open negated m phase.First b h = begin_open true negated m b (λ f. h)
phase_open negated m phase.Next b h = begin_open false negated m b (λ f. h)
phase_open negated m (phase.Element e) b h = element_open negated m e b h
phase_open negated m (phase.Dash e) b h =
    rw h (unlisted_if (not (is_printable b)) _ _ (unlisted_broken _) (unlisted_if _ _ _ (unlisted_broken _)
    (unlisted_if (b == 91) _ _ (unlisted_more negated m _) (unlisted_more negated _ phase.Next))))
phase_open negated m phase.Inner b h =
    unlisted_if (b == 46 || b == 61) _ _ (unlisted_broken _) (unlisted_if (b == 58) _ _ (unlisted_more negated m _) (element_open negated m 91 b h))
phase_open negated m (phase.RangeInner e) b h =
    unlisted_if (b == 46 || b == 61) _ _ (unlisted_broken _) (unlisted_if (b == 58) _ _ (unlisted_broken _) (begin_open false negated _ b (λ f. h)))
phase_open negated m phase.Last b h = rw h (unlisted_broken _)
phase_open negated m (phase.ClassName c k) b h =
    unlisted_if _ _ _ (unlisted_more negated m _) (named_open negated m (k + 1) b (next_class c k b))
phase_open negated m (phase.ClassEnd c) b h = rw h (unlisted_broken _)

-- the machine stays inside a bracket, or refuses
abbrev pub Held : Result State Why → Type 0
Held (Ok t) = (k : Bracket) × (t.mode ≡ mode.Bracket k)
Held (Err why) = Unit {0}

pub step_bracket : (s : State) (k : Bracket) (b : ℕ) → s.mode ≡ mode.Bracket k → step s b ≡ bracket_step s (list_step k b)
unfolding step
step_bracket s k b m = ap (λ x. mode_step x s b) m

pub held_step : (s : State) (k : Bracket) (b : ℕ) (v : List ℕ) → s.mode ≡ mode.Bracket k → Unlisted (list_step k b)
    → ((t : State) (j : Bracket) → t.mode ≡ mode.Bracket j → Held (run t v)) → Held (run s (b ∷ v))
held_step s k b v m u f = subst (λ r. Held (after r (λ t. run t v))) (sym (step_bracket s k b m)) (go (list_step k b) u)
  where
    go : (r : Listing) → Unlisted r → Held (after (bracket_step s r) (λ t. run t v))
    go (listing.More j) o = f (at_mode (mode.Bracket j) s) j refl
    go (listing.Done negated marks) o = absurd (o.not_done negated marks refl)
    go (listing.Broken why) o = tt

pub held_on : (v : List ℕ) (s : State) (k : Bracket) → s.mode ≡ mode.Bracket k → list_all is_inner v ≡ true → Held (run s v)
held_on [] s k m h = (k, m)
held_on (b ∷ v) s k m h =
    let q = both (is_inner b) (list_all is_inner v) h in
    held_step s k b v m (phase_open k.negated k.marks k.phase b (inner_unclosed b q.0)) (λ t j e. held_on v t j e q.1)

-- the further bytes of a part of an item
pub class_inner : (c : Class) → list_all is_inner (58 ∷ (name_of c ++ 58 ∷ [])) ≡ true
class_inner class.Alnum = refl
class_inner class.Alpha = refl
class_inner class.Blank = refl
class_inner class.Cntrl = refl
class_inner class.Digit = refl
class_inner class.Graph = refl
class_inner class.Lower = refl
class_inner class.Print = refl
class_inner class.Punct = refl
class_inner class.Space = refl
class_inner class.Upper = refl
class_inner class.Xdigit = refl

pub undecided_inner : (y : ℕ) (ys : List ℕ) → IsUndecided (y ∷ ys) → list_all is_inner ys ≡ true
undecided_inner y ys (inl e) = let f : ys ≡ [] = cc in subst (λ x. list_all is_inner x ≡ true) (sym f) refl
undecided_inner y ys (inr (e, f)) = let g : ys ≡ 45 ∷ 91 ∷ [] = cc in subst (λ x. list_all is_inner x ≡ true) (sym g) refl

pub part_inner : (i : Item) (y : ℕ) (ys r : List ℕ) → spelled i ≡ y ∷ (ys ++ r) → (r ≡ [] → IsUndecided (y ∷ ys)) → list_all is_inner ys ≡ true
part_inner i y ys [] f u = undecided_inner y ys (u refl)
part_inner (single e) y ys (x ∷ xs) f u = let g : [] ≡ ys ++ x ∷ xs = cc in let h = no_rest ys (x ∷ xs) g in absurd (cc)
part_inner (range e k) y ys (x ∷ xs) f u = let g : 45 ∷ k ∷ [] ≡ ys ++ x ∷ xs = cc in front_all is_inner (45 ∷ []) k ys (x ∷ xs) g (λ h. cc) refl
part_inner (members c) y ys (x ∷ xs) f u =
    let g : 58 ∷ (name_of c ++ 58 ∷ 93 ∷ []) ≡ ys ++ x ∷ xs = cc in
    front_all is_inner (58 ∷ (name_of c ++ 58 ∷ [])) 93 ys (x ∷ xs)
    (ap (λ w. 58 ∷ w) (append_assoc (name_of c) (58 ∷ []) (93 ∷ [])) ∙ g) (λ h. cc) (class_inner c)
