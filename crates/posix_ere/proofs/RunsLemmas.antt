-- Runs of the machine.
use Rattle.std.proofs.Common.{ℕ, ◌≡◌, ◌+◌, ◌≤◌, Bool, true, false, List, [], ◌∷◌, ◌++◌, refl, sym, ◌∙◌, ap, subst, arith, Result, Ok, Err, Option, Some, None}
use Rattle.std.specs.Prelude.{if◌then◌else◌}
use Rattle.std.proofs.lemmas.List.{length-drop}
use Rattle.posix_ere.specs.Ascii.{is_special}
use Rattle.posix_ere.specs.Cells.{put}
use Rattle.posix_ere.specs.Machine.{State, step, run, after, mode_step, plain_step, interval_step, bracket_step, closed}
use Rattle.posix_ere.specs.Machine.{if_repeatable, with_leaf, with_repeat, with_branch, with_group, ended, no_marks}
use Rattle.posix_ere.specs.Machine.{Fair, FairMode, held, start, sign_of}
use Rattle.posix_ere.specs.IntervalMachine.{count_step}
use Rattle.posix_ere.specs.BracketMachine.{list_step}
use Rattle.posix_ere.specs.declared.node.Node.{Node}
use Rattle.posix_ere.specs.declared.node.Node.TheVariants as n
use Rattle.posix_ere.specs.declared.why.Why.{Why}
use Rattle.posix_ere.specs.declared.why.Why.TheVariants as w
use Rattle.posix_ere.specs.declared.sign.Sign.{Sign}
use Rattle.posix_ere.specs.declared.sign.Sign.TheVariants as sign
use Rattle.posix_ere.specs.declared.interval.Counting.{Counting}
use Rattle.posix_ere.specs.declared.interval.Counting.TheVariants as counting
use Rattle.posix_ere.specs.BracketMachine.{Listing}
use Rattle.posix_ere.specs.BracketMachine.{Listing as listing}
use Rattle.posix_ere.specs.declared.frame.Frame.{Frame}
use Rattle.posix_ere.specs.declared.frame.Mode.{Mode}
use Rattle.posix_ere.specs.declared.frame.Mode.TheVariants as mode

after_after : (xs ys : List ℕ) → ((t : State) → run t (xs ++ ys) ≡ after (run t xs) (λ t. run t ys)) → (r : Result State Why)
    → after r (λ t. run t (xs ++ ys)) ≡ after (after r (λ t. run t xs)) (λ t. run t ys)
after_after xs ys f (Ok t) = f t
after_after xs ys f (Err e) = refl

pub run-append : (s : State) (xs ys : List ℕ) → run s (xs ++ ys) ≡ after (run s xs) (λ t. run t ys)
run-append s [] ys = refl
run-append s (x ∷ xs) ys = after_after xs ys (λ t. run-append t xs ys) (step s x)

-- from state to state
pub run_on : (s t : State) (xs ys : List ℕ) → run s xs ≡ Ok t → run s (xs ++ ys) ≡ run t ys
run_on s t xs ys e = run-append s xs ys ∙ ap (λ r. after r (λ t. run t ys)) e

pub run_one : (s t : State) (b : ℕ) (bs : List ℕ) → step s b ≡ Ok t → run s (b ∷ bs) ≡ run t bs
run_one s t b bs e = ap (λ r. after r (λ t. run t bs)) e

pub same_ok : (s t : State) → ◌≡◌ {A = Result State Why} (Ok s) (Ok t) → s ≡ t
same_ok s t e = cc

pub err_not_ok : (why : Why) (t : State) → ◌≡◌ {A = Result State Why} (Err why) (Ok t) → ⊥
err_not_ok why t e = cc

pub when_ok : (b : Bool) (s t : State) (why : Why) → ◌≡◌ {A = Result State Why} (if b then Ok s else Err why) (Ok t) → (b ≡ true) × (s ≡ t)
when_ok true s t why e = (refl, same_ok s t e)
when_ok false s t why e = absurd (err_not_ok why t e)

-- what stays fair from byte to byte
pub fair_start : Fair 0 start
fair_start = record { enough = omega arith; stack = omega arith; opened = omega arith; nodes = omega arith; repeats = λ e. absurd (cc); mode = tt }

module _ (k : ℕ) (s : State) (f : Fair k s) where
  fair_mode : (m : Mode) → FairMode m s.top.repeatable → Fair (k + 1) (record s { mode = m })
  fair_mode m h = record {
    enough = f.enough;
    stack = omega (arith, f.stack);
    opened = omega (arith, f.opened);
    nodes = omega (arith, f.nodes);
    repeats = f.repeats;
    mode = h;
  }

  fair_leaf : (node : Node) (marks : List Bool) (r : Bool) → Fair (k + 1) (with_leaf node marks r s)
  fair_leaf node marks r = record {
    enough = omega (arith, f.enough);
    stack = omega (arith, f.stack);
    opened = omega (arith, f.opened);
    nodes = omega (arith, f.nodes);
    repeats = λ e. omega arith;
    mode = tt;
  }

  fair_repeat : (low : ℕ) (high : Option ℕ) → s.top.repeatable ≡ true → Fair (k + 1) (with_repeat low high s)
  fair_repeat low high h =
      let l = length-drop 1 s.stack in
      let r : 1 ≤ s.top.pieces = f.repeats h in
      record {
        enough = omega (arith, f.enough, l, r);
        stack = omega (arith, f.stack, l, f.enough, r);
        opened = omega (arith, f.opened);
        nodes = omega (arith, f.nodes);
        repeats = f.repeats;
        mode = tt;
      }

  fair_branch : s.mode ≡ mode.Plain → Fair (k + 1) (with_branch s)
  fair_branch m =
      let l = length-drop s.top.pieces s.stack in
      record {
        enough = omega (arith, f.enough, l);
        stack = omega (arith, f.stack, l);
        opened = omega (arith, f.opened);
        nodes = omega (arith, f.nodes);
        repeats = λ e. absurd (cc);
        mode = subst (λ x. FairMode x false) (sym m) tt;
      }

  fair_group : s.mode ≡ mode.Plain → Fair (k + 1) (with_group s)
  fair_group m = record {
    enough = omega (arith, f.enough);
    stack = omega (arith, f.stack);
    opened = omega (arith, f.opened);
    nodes = omega (arith, f.nodes);
    repeats = λ e. absurd (cc);
    mode = subst (λ x. FairMode x false) (sym m) tt;
  }

  fair_close : (fs : List Frame) (t : State) → s.frames ≡ fs → s.mode ≡ mode.Plain → closed s fs ≡ Ok t → Fair (k + 1) t
  fair_close [] t e m h = absurd (err_not_ok w.StrayClose t h)
  fair_close (g ∷ fs) t e m h =
      let a = length-drop s.top.pieces s.stack in
      let b = length-drop (s.top.branches + 1) (put n.Branch (no_marks) s.top.pieces s.stack) in
      let c = length-drop 1 (ended s) in
      let d : held s.frames ≡ g.pieces + g.branches + held fs = ap held e in
      subst (Fair (k + 1)) (same_ok _ t h) (record {
        enough = omega (arith, f.enough, a, b, c, d);
        stack = omega (arith, f.stack, f.enough, a, b, c);
        opened = omega (arith, f.opened);
        nodes = omega (arith, f.nodes);
        repeats = λ x. omega arith;
        mode = subst (λ x. FairMode x true) (sym m) tt;
      })

  fair_if : (t u : State) → (s.top.repeatable ≡ true → Fair (k + 1) u) → if_repeatable s u ≡ Ok t → Fair (k + 1) t
  fair_if t u h e = let r = when_ok s.top.repeatable u t w.NothingToRepeat e in subst (Fair (k + 1)) r.1 (h r.0)

  fair_plain : (b : ℕ) (g : Sign) (t : State) → s.mode ≡ mode.Plain → plain_step s b g ≡ Ok t → Fair (k + 1) t
  fair_plain b sign.Open t m e = subst (Fair (k + 1)) (same_ok _ t e) (fair_group m)
  fair_plain b sign.Close t m e = fair_close s.frames t refl m e
  fair_plain b sign.Bar t m e = subst (Fair (k + 1)) (same_ok _ t e) (fair_branch m)
  fair_plain b sign.Star t m e = fair_if t _ (λ h. fair_repeat 0 None h) e
  fair_plain b sign.Plus t m e = fair_if t _ (λ h. fair_repeat 1 None h) e
  fair_plain b sign.Question t m e = fair_if t _ (λ h. fair_repeat 0 (Some 1) h) e
  fair_plain b sign.Brace t m e = fair_if t _ (λ h. fair_mode _ h) e
  fair_plain b sign.Bracket t m e = subst (Fair (k + 1)) (same_ok _ t e) (fair_mode _ tt)
  fair_plain b sign.Escape t m e = subst (Fair (k + 1)) (same_ok _ t e) (fair_mode _ tt)
  fair_plain b sign.Dot t m e = subst (Fair (k + 1)) (same_ok _ t e) (fair_leaf n.Any no_marks true)
  fair_plain b sign.Circumflex t m e = subst (Fair (k + 1)) (same_ok _ t e) (fair_leaf n.Start no_marks false)
  fair_plain b sign.Dollar t m e = subst (Fair (k + 1)) (same_ok _ t e) (fair_leaf n.End no_marks false)
  fair_plain b sign.Ordinary t m e = subst (Fair (k + 1)) (same_ok _ t e) (fair_leaf (n.Byte b) no_marks true)
  fair_plain b sign.Outside t m e = absurd (err_not_ok w.NotAscii t e)

  fair_escape : (b : ℕ) (p : Bool) (why : Why) (t : State)
      → ◌≡◌ {A = Result State Why} (if p then Ok (with_leaf (n.Byte b) no_marks true s) else Err why) (Ok t)
      → Fair (k + 1) t
  fair_escape b true why t e = subst (Fair (k + 1)) (same_ok _ t e) (fair_leaf (n.Byte b) no_marks true)
  fair_escape b false why t e = absurd (err_not_ok why t e)

  fair_interval : (b : ℕ) (r : Counting) (t : State) → s.top.repeatable ≡ true → interval_step s b r ≡ Ok t → Fair (k + 1) t
  fair_interval b (counting.More i) t h e = subst (Fair (k + 1)) (same_ok _ t e) (fair_mode _ h)
  fair_interval b (counting.Done low high) t h e = subst (Fair (k + 1)) (same_ok _ t e) (fair_repeat low high h)
  fair_interval b counting.Broken t h e = absurd (err_not_ok _ t e)

  fair_bracket : (r : Listing) (t : State) → bracket_step s r ≡ Ok t → Fair (k + 1) t
  fair_bracket (listing.More x) t e = subst (Fair (k + 1)) (same_ok _ t e) (fair_mode _ tt)
  fair_bracket (listing.Done negated marks) t e = subst (Fair (k + 1)) (same_ok _ t e) (fair_leaf (n.Set negated) marks true)
  fair_bracket (listing.Broken why) t e = absurd (err_not_ok why t e)

  fair_at : (m : Mode) (b : ℕ) (t : State) → s.mode ≡ m → FairMode m s.top.repeatable → mode_step m s b ≡ Ok t → Fair (k + 1) t
  fair_at mode.Plain b t m h e = fair_plain b (sign_of b) t m e
  fair_at mode.Escape b t m h e = fair_escape b (is_special b) _ t e
  fair_at (mode.Interval i) b t m h e = fair_interval b (count_step i b) t h e
  fair_at (mode.Bracket x) b t m h e = fair_bracket (list_step x b) t e

pub fair_step : (k : ℕ) (s : State) (b : ℕ) (t : State) → Fair k s → step s b ≡ Ok t → Fair (k + 1) t
unfolding step
fair_step k s b t f e = fair_at k s f s.mode b t refl f.mode e
