-- What the machine has read can be closed.
use Rattle.std.proofs.Common.{ℕ, zero, suc, ◌≡◌, ◌+◌, ◌<◌, ◌≤◌, Bool, true, false, ◌&&◌, ◌==◌, List, [], ◌∷◌, ◌++◌}
use Rattle.std.proofs.Common.{length, take, drop, get_or, replicate, refl, sym, ◌∙◌, ap, arith, Ok, Option, Some, None}
use Rattle.std.proofs.Common.{length-append}
use Rattle.std.proofs.lemmas.Bool.Decides.{nat_tests}
use Rattle.std.proofs.lemmas.List.{length-drop}
use Rattle.std.proofs.Math.Seq.{take-length}
use Rattle.posix_ere.specs.Tree.{Tree}
use Rattle.posix_ere.specs.Bracket.{name_of}
use Rattle.posix_ere.specs.Bracket.Item.{single, range, members}
use Rattle.posix_ere.specs.Interval.{value_from}
use Rattle.posix_ere.specs.Places.{CanBeClosed}
use Rattle.posix_ere.specs.BracketMachine.{marked, next_class, named, phase_step, at_phase}
use Rattle.posix_ere.specs.Cells.{put}
use Rattle.posix_ere.specs.Machine.{State, step, run, mode_step, closed, finish, finish_at, finish_plain, ended, top_of}
use Rattle.posix_ere.specs.Machine.{start, at_mode, with_leaf, with_repeat, no_marks}
use Rattle.posix_ere.specs.declared.node.Node.TheVariants as n
use Rattle.posix_ere.specs.declared.class.Class.{Class}
use Rattle.posix_ere.specs.declared.interval.Interval.{Interval}
use Rattle.posix_ere.specs.declared.interval.Interval.TheVariants as interval
use Rattle.posix_ere.specs.declared.bracket.Bracket.{Bracket}
use Rattle.posix_ere.specs.declared.bracket.Phase.{Phase}
use Rattle.posix_ere.specs.declared.bracket.Phase.TheVariants as phase
use Rattle.posix_ere.specs.declared.frame.Frame.{Frame}
use Rattle.posix_ere.specs.declared.frame.Mode.{Mode}
use Rattle.posix_ere.specs.declared.frame.Mode.TheVariants as mode
use Rattle.posix_ere.proofs.RunsLemmas.{run_on, run_one}
use Rattle.posix_ere.proofs.IntervalRunsLemmas.{inside as counting_inside, counts, done as counting_done, highs}
use Rattle.posix_ere.proofs.BracketRunsLemmas.{inside as listing_inside, goes}
use Rattle.posix_ere.proofs.ClassNamesLemmas.{goes_next, whole_name}
use Rattle.posix_ere.proofs.CompleteLemmas.{step_plain}
use Rattle.posix_ere.proofs.SoundLemmas.{Nest}
use Rattle.posix_ere.proofs.IntervalSoundLemmas.{Counted}
use Rattle.posix_ere.proofs.IntervalClosingLemmas.{target, nat_le_true}
use Rattle.posix_ere.proofs.BracketSoundLemmas.{Listed}
use Rattle.posix_ere.proofs.MeaningLemmas.{Means, run_meaning, accepted}

-- a few bytes lead to a place between pieces, with the same groups open
record Settles (s : State) : Type 0 where
  bytes : List ℕ
  end : State
  few : length bytes ≤ 8
  runs : run s bytes ≡ Ok end
  mode : end.mode ≡ mode.Plain
  frames : end.frames ≡ s.frames

-- open groups are closed
record Closes (s : State) (k : ℕ) : Type 0 where
  end : State
  runs : run s (replicate k 41) ≡ Ok end
  mode : end.mode ≡ mode.Plain
  frames : end.frames ≡ []

close_all : (fs : List Frame) (s : State) → s.mode ≡ mode.Plain → s.frames ≡ fs → Closes s (length fs)
close_all [] s m f = record { end = s; runs = refl; mode = m; frames = f }
close_all (g ∷ fs) s m f =
    let t : State = record s {
      stack = put (n.Group s.top.number) no_marks 1 (ended s);
      nodes = s.nodes + 3;
      frames = fs;
      top = record g { pieces = g.pieces + 1; repeatable = true };
    } in
    let r = close_all fs t m refl in
    record { end = r.end; runs = run_one s t 41 (replicate (length fs) 41) (step_plain s 41 m ∙ ap (closed s) f) ∙ r.runs; mode = r.mode; frames = r.frames }

settle_plain : (s : State) → s.mode ≡ mode.Plain → Settles s
settle_plain s m = record { bytes = []; end = s; few = omega arith; runs = refl; mode = m; frames = refl }

settle_escape : (s : State) → s.mode ≡ mode.Escape → Settles s
unfolding step
settle_escape s m = record {
  bytes = 46 ∷ [];
  end = with_leaf (n.Byte 46) no_marks true s;
  few = omega arith;
  runs = run_one s _ 46 [] (ap (λ x. mode_step x s 46) m);
  mode = refl;
  frames = refl;
}

-- the mode written again
same_state : (s : State) (m : Mode) → s.mode ≡ m → s ≡ at_mode m s
same_state s m e = ap (λ x. at_mode x s) e

settle_counted : (s : State) (i : Interval) (bs : List ℕ) (low : ℕ) (high : Option ℕ) → s.mode ≡ mode.Interval i → length bs ≤ 8
    → run (at_mode (mode.Interval i) s) bs ≡ Ok (with_repeat low high s) → Settles s
settle_counted s i bs low high m l r = record {
  bytes = bs;
  end = with_repeat low high s;
  few = l;
  runs = ap (λ x. run x bs) (same_state s (mode.Interval i) m) ∙ r;
  mode = refl;
  frames = refl;
}

settle_listed : (s : State) (k : Bracket) (bs : List ℕ) (negated : Bool) (marks : List Bool) → s.mode ≡ mode.Bracket k → length bs ≤ 8
    → run (at_mode (mode.Bracket k) s) bs ≡ Ok (with_leaf (n.Set negated) marks true s) → Settles s
settle_listed s k bs negated marks m l r = record {
  bytes = bs;
  end = with_leaf (n.Set negated) marks true s;
  few = l;
  runs = ap (λ x. run x bs) (same_state s (mode.Bracket k) m) ∙ r;
  mode = refl;
  frames = refl;
}

settle_interval : (s : State) (i : Interval) (z : List ℕ) → s.mode ≡ mode.Interval i → Counted z i → Settles s
unfolding counting_inside
settle_interval s interval.Start z m h =
    settle_counted s interval.Start (48 ∷ 125 ∷ []) 0 (Some 0) m (omega arith)
    (counts s interval.Start (interval.Low 0 1) 48 (125 ∷ []) refl ∙ counting_done s (interval.Low 0 1) 0 (Some 0) refl)
settle_interval s (interval.Low v c) z m h =
    settle_counted s (interval.Low v c) (125 ∷ []) v (Some v) m (omega arith)
    (counting_done s (interval.Low v c) v (Some v) refl)
settle_interval s (interval.Comma v) z m h =
    settle_counted s (interval.Comma v) (125 ∷ []) v None m (omega arith)
    (counting_done s (interval.Comma v) v None refl)
settle_interval s (interval.High k v c) z m (x, y, e, a, b, l, r) =
    let t = target k v c a.most (omega (arith, b.short, l)) r in
    let len = length-append t.digits (125 ∷ []) in
    settle_counted s (interval.High k v c) (t.digits ++ 125 ∷ []) k (Some (value_from v t.digits)) m (omega (arith, len, t.few))
    (highs s k t.digits (125 ∷ []) v c t.all (omega (arith, b.some, l)) t.short t.least t.most
    ∙ counting_done s (interval.High k (value_from v t.digits) (c + length t.digits)) k (Some (value_from v t.digits))
    (rw (nat_le_true k (value_from v t.digits) t.least) refl))

-- the rest of a class name, its closing, and the closing of the bracket
and_false : (v : Bool) → (v && false) ≡ false
and_false true = refl
and_false false = refl

eq_true : (a b : ℕ) → a ≡ b → (a == b) ≡ true
eq_true a b h = grind (arith, nat_tests)

-- the first of what is left of a name
front : (k : ℕ) (xs : List ℕ) (y : ℕ) (ys : List ℕ) → drop k xs ≡ y ∷ ys → (get_or xs k 0 ≡ y) × (drop (k + 1) xs ≡ ys) × (k < length xs)
front zero [] y ys h = absurd (cc)
front zero (x ∷ xs) y ys h = (cc, cc, omega arith)
front (suc k) [] y ys h = absurd (cc)
front (suc k) (x ∷ xs) y ys h =
    let r = front k xs y ys h in
    let e : suc k + 1 ≡ suc (k + 1) = omega arith in
    (r.0, rw e r.1, omega (arith, r.2))

not_whole : (c d : Class) (k : ℕ) → take k (name_of d) ≡ take k (name_of c) → k < length (name_of c) → (k == length (name_of d)) ≡ false
not_whole c d k t l =
    eq_false_at k (length (name_of d)) (λ e. let f : take (length (name_of d)) (name_of c) ≡ name_of d =
    ap (λ j. take j (name_of c)) (sym e) ∙ (sym t ∙ (ap (λ j. take j (name_of d)) e ∙ take-length (name_of d))) in
    absurd (omega (arith, whole_name d c f, e)))
  where
    eq_false_at : (a b : ℕ) → (a ≡ b → ⊥) → (a == b) ≡ false
    eq_false_at a b h = grind (arith, nat_tests)

-- from so many letters of a name on
class_rest : (s : State) (negated : Bool) (marks : List Bool) (c d : Class) (xs : List ℕ) (k : ℕ) → drop k (name_of c) ≡ xs → k ≤ length (name_of c)
    → take k (name_of d) ≡ take k (name_of c)
    → (e : Class) × (run (listing_inside s negated (phase.ClassName d k) marks) (xs ++ 58 ∷ 93 ∷ 93 ∷ [])
    ≡ Ok (with_leaf (n.Set negated) (marked (members e) marks) true s))
unfolding listing_inside step
class_rest s negated marks c d [] k h l t =
    let e : k ≡ length (name_of c) = omega (arith, length-drop k (name_of c), ap length h) in
    let f : take (length (name_of c)) (name_of d) ≡ name_of c =
    ap (λ j. take j (name_of d)) (sym e) ∙ (t ∙ (ap (λ j. take j (name_of c)) e ∙ take-length (name_of c))) in
    let g : k ≡ length (name_of d) = e ∙ whole_name c d f in
    (d, goes s negated (phase.ClassName d k) (phase.ClassEnd d) marks marks 58 (93 ∷ 93 ∷ []) (rw (eq_true k (length (name_of d)) g) refl))
class_rest s negated marks c d (x ∷ xs) k h l t =
    let f = front k (name_of c) x xs h in
    let g = goes_next c d k t f.2 in
    let n : next_class d k x ≡ Some g.0 = ap (next_class d k) (sym f.0) ∙ g.1 in
    let r = class_rest s negated marks c g.0 xs (k + 1) f.1 (omega (arith, f.2)) g.2 in
    let y : phase_step negated marks (phase.ClassName d k) x ≡ at_phase negated marks (phase.ClassName g.0 (k + 1)) =
    rw (not_whole c d k t f.2, and_false (x == 58)) (ap (named negated marks (k + 1) x) n) in
    (r.0, goes s negated (phase.ClassName d k) (phase.ClassName g.0 (k + 1)) marks marks x (xs ++ 58 ∷ 93 ∷ 93 ∷ []) y ∙ r.1)

settle_bracket : (s : State) (negated : Bool) (marks : List Bool) (p : Phase) (z : List ℕ)
    → s.mode ≡ mode.Bracket (record { negated = negated; marks = marks; phase = p })
    → Listed z negated marks p → Settles s
unfolding step listing_inside
settle_bracket s negated marks phase.Start z m h =
    settle_listed s _ (97 ∷ 93 ∷ []) negated (marked (single 97) marks) m (omega arith) refl
settle_bracket s negated marks phase.First z m h =
    settle_listed s _ (97 ∷ 93 ∷ []) negated (marked (single 97) marks) m (omega arith) refl
settle_bracket s negated marks phase.Next z m h = settle_listed s _ (93 ∷ []) negated marks m (omega arith) refl
settle_bracket s negated marks (phase.Element e) z m h = settle_listed s _ (93 ∷ []) negated (marked (single e) marks) m (omega arith) refl
settle_bracket s negated marks (phase.Dash e) z m h = settle_listed s _ (93 ∷ []) negated (marked (single 45) (marked (single e) marks)) m (omega arith) refl
settle_bracket s negated marks phase.Inner z m h = settle_listed s _ (93 ∷ []) negated (marked (single 91) marks) m (omega arith) refl
settle_bracket s negated marks (phase.RangeInner e) z m h = settle_listed s _ (93 ∷ []) negated (marked (range e 91) marks) m (omega arith) refl
settle_bracket s negated marks phase.Last z m h = settle_listed s _ (93 ∷ []) negated (marked (single 45) marks) m (omega arith) refl
settle_bracket s negated marks (phase.ClassName c k) z m h =
    let e = length-append (drop k (name_of c)) (58 ∷ 93 ∷ 93 ∷ []) in
    let r = class_rest s negated marks c c (drop k (name_of c)) k refl h.fits.0 refl in
    settle_listed s _ (drop k (name_of c) ++ 58 ∷ 93 ∷ 93 ∷ []) negated (marked (members r.0) marks) m
    (omega (arith, e, length-drop k (name_of c), h.fits.0, h.fits.1)) r.1
settle_bracket s negated marks (phase.ClassEnd c) z m h =
    settle_listed s _ (93 ∷ 93 ∷ []) negated (marked (members c) marks) m (omega arith) refl

settle : (m : Mode) (p : List ℕ) (s : State) → s.mode ≡ m → Means m p s → Settles s
settle mode.Plain p s e h = settle_plain s e
settle mode.Escape p s e h = settle_escape s e
settle (mode.Interval i) p s e (q, z, f, a, r, c) = settle_interval s i z e c
settle (mode.Bracket k) p s e (q, z, f, a, l) = settle_bracket s k.negated k.marks k.phase z e l

-- at most as many groups are open as there are bytes
nest_depth : (p : List ℕ) (stack : List Tree) (fs : List Frame) (top : Frame) (o : ℕ) → Nest p stack fs top o → length fs ≤ length p
nest_depth p stack [] top o h = omega arith
nest_depth p stack (f ∷ fs) top o (q, w, rest, j, e, h, n, r) =
    omega (arith, nest_depth q rest fs f j r, ap length e, length-append q (40 ∷ w))

depth : (m : Mode) (p : List ℕ) (s : State) → Means m p s → length s.frames ≤ length p
depth mode.Plain p s h = nest_depth p s.stack s.frames s.top s.opened h
depth mode.Escape p s (q, e, h) = omega (arith, nest_depth q s.stack s.frames s.top s.opened h, ap length e, length-append q (92 ∷ []))
depth (mode.Interval i) p s (q, z, e, h, r, c) = omega (arith, nest_depth q s.stack s.frames s.top s.opened h, ap length e, length-append q (123 ∷ z))
depth (mode.Bracket k) p s (q, z, e, h, l) = omega (arith, nest_depth q s.stack s.frames s.top s.opened h, ap length e, length-append q (91 ∷ z))

finishes : (t : State) → t.mode ≡ mode.Plain → t.frames ≡ [] → finish t ≡ Ok (ended t)
unfolding finish
finishes t m f = ap (λ x. finish_at x t) m ∙ ap (finish_plain t) f

-- each text that the machine reads so far can be closed
pub can_be_closed : (p : List ℕ) (s : State) → run start p ≡ Ok s → CanBeClosed p
can_be_closed p s h =
    let a = settle s.mode p s refl (run_meaning p s h) in
    let b = close_all s.frames a.end a.mode a.frames in
    let c = run_on start s p (a.bytes ++ replicate (length s.frames) 41) h ∙ (run_on s a.end a.bytes (replicate (length s.frames) 41) a.runs ∙ b.runs) in
    let f = finishes b.end b.mode b.frames in
    record {
      bytes = a.bytes;
      depth = length s.frames;
      tree = top_of (ended b.end);
      few = a.few;
      within = depth s.mode p s (run_meaning p s h);
      reads = (accepted (p ++ (a.bytes ++ replicate (length s.frames) 41)) b.end (ended b.end) c f).reads;
    }
