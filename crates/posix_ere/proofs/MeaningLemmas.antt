-- What the machine has read, and that it accepts the texts of the grammar alone.
use Rattle.std.proofs.Common.{ℕ, ◌≡◌, ◌+◌, ◌||◌, length, Bool, true, false, ◌==◌, List, [], ◌∷◌, ◌++◌, refl, sym, ◌∙◌}
use Rattle.std.proofs.Common.{ap, subst, arith, inl, inr, Result, Ok, Err, Option, Some, None, append_assoc}
use Rattle.std.specs.Prelude.{if◌then◌else◌}
use Rattle.std.proofs.lemmas.List.{append-nil}
use Rattle.posix_ere.specs.Tree.{Atom, Tree}
use Rattle.posix_ere.specs.Tree.Atom.{byte, any, set, start, end}
use Rattle.posix_ere.specs.Tree.Tree.{atom}
use Rattle.posix_ere.specs.Parts.{groups}
use Rattle.posix_ere.specs.Ascii.{is_printable, is_ordinary, is_special}
use Rattle.posix_ere.specs.Bracket.{listed}
use Rattle.posix_ere.specs.Interval.{IsRepeat}
use Rattle.posix_ere.specs.Reasons.{IsReason, Between, InInterval}
use Rattle.posix_ere.specs.Grammar.{IsOneByte, IsAnchor, Reads}
use Rattle.posix_ere.specs.Cells.{put, made, listed_by}
use Rattle.posix_ere.specs.IntervalMachine.{count_step}
use Rattle.posix_ere.specs.BracketMachine.{list_step}
use Rattle.posix_ere.specs.Machine.{State, step, run, after, finish, finish_at, finish_plain, mode_step, plain_step}
use Rattle.posix_ere.specs.Machine.{interval_step, bracket_step, closed, if_repeatable, with_leaf, with_repeat}
use Rattle.posix_ere.specs.Machine.{with_branch, with_group, ended, no_marks, sign_of, at_mode, top_of}
use Rattle.posix_ere.specs.Machine as machine
use Rattle.posix_ere.specs.declared.node.Node.{Node}
use Rattle.posix_ere.specs.declared.node.Node.TheVariants as n
use Rattle.posix_ere.specs.declared.why.Why.{Why}
use Rattle.posix_ere.specs.declared.why.Why.TheVariants as w
use Rattle.posix_ere.specs.declared.sign.Sign.{Sign}
use Rattle.posix_ere.specs.declared.sign.Sign.TheVariants as sign
use Rattle.posix_ere.specs.declared.interval.Interval.{Interval}
use Rattle.posix_ere.specs.declared.interval.Interval.TheVariants as interval
use Rattle.posix_ere.specs.declared.interval.Counting.{Counting}
use Rattle.posix_ere.specs.declared.interval.Counting.TheVariants as counting
use Rattle.posix_ere.specs.BracketMachine.{Listing}
use Rattle.posix_ere.specs.BracketMachine.{Listing as listing}
use Rattle.posix_ere.specs.declared.frame.Frame.{Frame}
use Rattle.posix_ere.specs.declared.frame.Mode.{Mode}
use Rattle.posix_ere.specs.declared.frame.Mode.TheVariants as mode
use Rattle.posix_ere.proofs.BracketRunsLemmas.{same_byte, listed_marks, no_marks_on}
use Rattle.posix_ere.proofs.SoundLemmas.{between_of, nest_idle, Nest, nest_more, nest_open, nest_close, here_anchor}
use Rattle.posix_ere.proofs.SoundLemmas.{here_atom, here_repeat, here_bar, here_ended}
use Rattle.posix_ere.proofs.IntervalSoundLemmas.{Counted, counted_more, counted_done}
use Rattle.posix_ere.proofs.IntervalClosingLemmas.{counted_part}
use Rattle.posix_ere.proofs.RunsLemmas.{run_on, run_one}
use Rattle.posix_ere.proofs.ContextsLemmas.{not_nothing}
use Rattle.posix_ere.proofs.BracketSoundLemmas.{Listed, Outcome, list_sound, BracketWhy, tail, part_of}

-- the text is groups and whole pieces
abbrev pub At : List ℕ → State → Type 0
At p s = Nest p s.stack s.frames s.top s.opened

-- the text before the place is one that the state is of
abbrev pub Means : Mode → List ℕ → State → Type 0
Means mode.Plain p s = At p s
Means mode.Escape p s = (q : List ℕ) × (p ≡ q ++ 92 ∷ []) × At q s
Means (mode.Interval i) p s = (q : List ℕ) × (z : List ℕ) × (p ≡ q ++ 123 ∷ z) × At q s × (s.top.repeatable ≡ true) × Counted z i
Means (mode.Bracket k) p s = (q : List ℕ) × (z : List ℕ) × (p ≡ q ++ 91 ∷ z) × At q s × Listed z k.negated k.marks k.phase

abbrev pub Meaning : List ℕ → State → Type 0
Meaning p s = Means s.mode p s

-- one more leaf
anchor_read : (p : List ℕ) (s : State) (v : List ℕ) (node : Node) (t : Tree) → made node no_marks 0 s.stack ≡ t → groups t ≡ 0 → IsAnchor v t → At p s
    → At (p ++ v) (with_leaf node no_marks false s)
anchor_read p s v node t e g h a =
    let o : s.opened + groups t ≡ s.opened = omega (arith, g) in
    let top2 : Frame = record s.top { pieces = s.top.pieces + 1; repeatable = false } in
    let x = nest_more p v s.stack (t ∷ s.stack) s.frames s.top top2 s.opened (s.opened + groups t) refl
    (λ y rest k u. here_anchor y v s.stack rest s.top k s.opened t u h) a in
    subst (λ r. Nest (p ++ v) (r ∷ s.stack) s.frames top2 s.opened) (sym e) (subst (λ r. Nest (p ++ v) (t ∷ s.stack) s.frames top2 r) o x)

atom_read : (p : List ℕ) (s : State) (v : List ℕ) (node : Node) (marks : List Bool) (x : Atom) → made node marks 0 s.stack ≡ atom x → IsOneByte v x → At p s
    → At (p ++ v) (with_leaf node marks true s)
atom_read p s v node marks a e h b =
    let o : s.opened + 0 ≡ s.opened = omega arith in
    let top2 : Frame = record s.top { pieces = s.top.pieces + 1; repeatable = true } in
    let x = nest_more p v s.stack (atom a ∷ s.stack) s.frames s.top top2 s.opened (s.opened + 0) refl
    (λ y rest k u. here_atom y v s.stack rest s.top k s.opened (atom a) u h) b in
    subst (λ r. Nest (p ++ v) (r ∷ s.stack) s.frames top2 s.opened) (sym e) (subst (λ r. Nest (p ++ v) (atom a ∷ s.stack) s.frames top2 r) o x)

-- what a sign says of its byte
abbrev pub IsSignOf : ℕ → Sign → Type 0
IsSignOf b sign.Open = b ≡ 40
IsSignOf b sign.Close = b ≡ 41
IsSignOf b sign.Bar = b ≡ 124
IsSignOf b sign.Star = b ≡ 42
IsSignOf b sign.Plus = b ≡ 43
IsSignOf b sign.Question = b ≡ 63
IsSignOf b sign.Brace = b ≡ 123
IsSignOf b sign.Bracket = b ≡ 91
IsSignOf b sign.Escape = b ≡ 92
IsSignOf b sign.Dot = b ≡ 46
IsSignOf b sign.Circumflex = b ≡ 94
IsSignOf b sign.Dollar = b ≡ 36
IsSignOf b sign.Ordinary = is_ordinary b ≡ true
IsSignOf b sign.Outside = is_printable b ≡ false

pick_sign : (b k : ℕ) (t : Bool) (g rest : Sign) → (b == k) ≡ t → (b ≡ k → IsSignOf b g)
    → ((b == k) ≡ false → IsSignOf b rest) → IsSignOf b (if t then g else rest)
pick_sign b k true g rest h f r = f (same_byte b k h)
pick_sign b k false g rest h f r = r h

last_sign : (b : ℕ) (t : Bool) → is_printable b ≡ t → (is_printable b ≡ true → is_ordinary b ≡ true) → IsSignOf b (if t then sign.Ordinary else sign.Outside)
last_sign b true h f = f h
last_sign b false h f = h

pub sign_is : (b : ℕ) → IsSignOf b (sign_of b)
sign_is b =
    pick_sign b 40 (b == 40) sign.Open _ refl (λ e. e)
    (λ e40. pick_sign b 41 (b == 41) sign.Close _ refl (λ e. e)
    (λ e41. pick_sign b 124 (b == 124) sign.Bar _ refl (λ e. e)
    (λ e124. pick_sign b 42 (b == 42) sign.Star _ refl (λ e. e)
    (λ e42. pick_sign b 43 (b == 43) sign.Plus _ refl (λ e. e)
    (λ e43. pick_sign b 63 (b == 63) sign.Question _ refl (λ e. e)
    (λ e63. pick_sign b 123 (b == 123) sign.Brace _ refl (λ e. e)
    (λ e123. pick_sign b 91 (b == 91) sign.Bracket _ refl (λ e. e)
    (λ e91. pick_sign b 92 (b == 92) sign.Escape _ refl (λ e. e)
    (λ e92. pick_sign b 46 (b == 46) sign.Dot _ refl (λ e. e)
    (λ e46. pick_sign b 94 (b == 94) sign.Circumflex _ refl (λ e. e)
    (λ e94. pick_sign b 36 (b == 36) sign.Dollar _ refl (λ e. e)
    (λ e36. last_sign b (is_printable b) refl
    (λ p. rw (p, e94, e46, e91, e36, e40, e41, e124, e42, e43, e63, e123, e92) refl)))))))))))))

with_byte : (b c : ℕ) (p : List ℕ) (s : State) → b ≡ c → At (p ++ c ∷ []) s → At (p ++ b ∷ []) s
with_byte b c p s e h = subst (λ x. At (p ++ x ∷ []) s) (sym e) h

repeat_read : (p v : List ℕ) (s : State) (low : ℕ) (high : Option ℕ) → s.top.repeatable ≡ true → IsRepeat v low high
    → At p s → At (p ++ v) (with_repeat low high s)
repeat_read p v s low high r h a =
    nest_more p v s.stack (put (n.Rep low high) no_marks 1 s.stack) s.frames s.top s.top s.opened s.opened refl
    (λ y rest k u. here_repeat y v s.stack rest s.top k s.opened low high u r h) a

-- what the machine answers at a byte
abbrev pub Next : List ℕ → ℕ → Result State Why → Type 0
Next p b (Ok t) = Meaning (p ++ b ∷ []) t
Next p b (Err why) = IsReason p (Some b) why

-- outside brackets, intervals and escapes
between : (p : List ℕ) (s : State) → At p s → Between p
between p s a = (length s.frames, s.opened, between_of p s.stack s.frames s.top s.opened a)

printable_at : (b c : ℕ) → b ≡ c → is_printable c ≡ true → is_printable b ≡ true
printable_at b c e h = subst (λ x. is_printable x ≡ true) (sym e) h

repeat_at : (b c : ℕ) → b ≡ c → (c == 42 || c == 43 || c == 63 || c == 123) ≡ true → (b == 42 || b == 43 || b == 63 || b == 123) ≡ true
repeat_at b c e h = subst (λ x. (x == 42 || x == 43 || x == 63 || x == 123) ≡ true) (sym e) h

if_read : (p : List ℕ) (s t : State) (b c : ℕ) → At p s → b ≡ c → is_printable c ≡ true → (c == 42 || c == 43 || c == 63 || c == 123) ≡ true
    → (s.top.repeatable ≡ true → Meaning (p ++ b ∷ []) t) → Next p b (if_repeatable s t)
if_read p s t b c a e v x h = at s.top.repeatable refl
  where
    at : (r : Bool) → s.top.repeatable ≡ r → Next p b (if r then Ok t else Err w.NothingToRepeat)
    at true f = h f
    at false f = (printable_at b c e v, (repeat_at b c e x, nest_idle p s.stack s.frames s.top s.opened a f))

close_read : (p : List ℕ) (s : State) (b : ℕ) (fs : List Frame) → s.mode ≡ mode.Plain → b ≡ 41 → s.frames ≡ fs → At p s → Next p b (closed s fs)
close_read p s b [] m e f h =
    (ap Some e, (s.opened, between_of p s.stack [] s.top s.opened (subst (λ y. Nest p s.stack y s.top s.opened) f h)))
close_read p s b (g ∷ fs) m e f h =
    let x = nest_close p s.stack g fs s.top s.opened (subst (λ y. Nest p s.stack y s.top s.opened) f h) in
    let t : State = record s {
      stack = put (n.Group s.top.number) no_marks 1 (ended s);
      nodes = s.nodes + 3;
      frames = fs;
      top = record g { pieces = g.pieces + 1; repeatable = true };
    } in
    subst (λ y. Means y (p ++ b ∷ []) t) (sym m) (with_byte b 41 p t e x)

plain_read : (p : List ℕ) (s : State) (b : ℕ) (g : Sign) → s.mode ≡ mode.Plain → IsSignOf b g → At p s → Next p b (plain_step s b g)
plain_read p s b sign.Open m e h =
    subst (λ y. Means y (p ++ b ∷ []) (with_group s)) (sym m) (with_byte b 40 p (with_group s) e (nest_open p s.stack s.frames s.top s.opened h))
plain_read p s b sign.Close m e h = close_read p s b s.frames m e refl h
plain_read p s b sign.Bar m e h =
    subst (λ y. Means y (p ++ b ∷ []) (with_branch s)) (sym m) (with_byte b 124 p (with_branch s) e
    (nest_more p (124 ∷ []) s.stack (put n.Branch no_marks s.top.pieces s.stack) s.frames s.top
    (record s.top { branches = s.top.branches + 1; pieces = 0; repeatable = false })
    s.opened s.opened refl (λ y rest k u. here_bar y s.stack rest s.top k s.opened u) h))
plain_read p s b sign.Star m e h =
    if_read p s (with_repeat 0 None s) b 42 h e refl refl
    (λ r. with_byte b 42 p (with_repeat 0 None s) e (repeat_read p (42 ∷ []) s 0 None r (inl (refl, refl, refl)) h))
plain_read p s b sign.Plus m e h =
    if_read p s (with_repeat 1 None s) b 43 h e refl refl
    (λ r. with_byte b 43 p (with_repeat 1 None s) e
    (repeat_read p (43 ∷ []) s 1 None r (inr (inl (refl, refl, refl))) h))
plain_read p s b sign.Question m e h =
    if_read p s (with_repeat 0 (Some 1) s) b 63 h e refl refl
    (λ r. with_byte b 63 p (with_repeat 0 (Some 1) s) e
    (repeat_read p (63 ∷ []) s 0 (Some 1) r (inr (inr (inl (refl, refl, refl)))) h))
plain_read p s b sign.Brace m e h =
    if_read p s (at_mode (mode.Interval interval.Start) s) b 123 h e refl refl (λ r. (p, [], ap (λ x. p ++ x ∷ []) e, h, r, refl))
plain_read p s b sign.Bracket m e h =
    (p, [], ap (λ x. p ++ x ∷ []) e, h, record { is = []; text = refl; marks_are = no_marks_on; items = λ r. refl; fits = (refl, refl) })
plain_read p s b sign.Escape m e h = (p, ap (λ x. p ++ x ∷ []) e, h)
plain_read p s b sign.Dot m e h = with_byte b 46 p (with_leaf n.Any no_marks true s) e (atom_read p s (46 ∷ []) n.Any no_marks any refl refl h)
plain_read p s b sign.Circumflex m e h =
    with_byte b 94 p (with_leaf n.Start no_marks false s) e
    (anchor_read p s (94 ∷ []) n.Start (atom start) refl refl refl h)
plain_read p s b sign.Dollar m e h = with_byte b 36 p (with_leaf n.End no_marks false s) e (anchor_read p s (36 ∷ []) n.End (atom end) refl refl refl h)
plain_read p s b sign.Ordinary m e h = atom_read p s (b ∷ []) (n.Byte b) no_marks (byte b) refl (inl (refl, e)) h
plain_read p s b sign.Outside m e h = (b, refl, e)

escape_read : (p : List ℕ) (s : State) (b : ℕ) (t q : Bool) → is_special b ≡ t → is_printable b ≡ q → Means mode.Escape p s
    → Next p b (if t then Ok (with_leaf (n.Byte b) no_marks true s) else Err (if q then w.BadEscape else w.NotAscii))
escape_read p s b true q h g (x, e, a) =
    subst (λ y. At y (with_leaf (n.Byte b) no_marks true s)) (sym (ap (λ y. y ++ b ∷ []) e ∙ append_assoc x (92 ∷ []) (b ∷ [])))
    (atom_read x s (92 ∷ b ∷ []) (n.Byte b) no_marks (byte b) refl (inr (refl, h)) a)
escape_read p s b false true h g (x, e, a) = (g, (x, e, between x s a))
escape_read p s b false false h g x = (b, refl, g)

broken_read : (p : List ℕ) (b : ℕ) (q : Bool) → is_printable b ≡ q → InInterval p → Next p b (Err (if q then w.BadInterval else w.NotAscii))
broken_read p b true h x = (h, x)
broken_read p b false h x = (b, refl, h)

interval_read : (p : List ℕ) (s : State) (b : ℕ) (i : Interval) (r : Counting) → run machine.start p ≡ Ok s
    → count_step i b ≡ r → Means (mode.Interval i) p s → Next p b (interval_step s b r)
interval_read p s b i (counting.More j) ran h (q, z, e, a, t, c) =
    (q, z ++ b ∷ [], ap (λ y. y ++ b ∷ []) e ∙ append_assoc q (123 ∷ z) (b ∷ []), a, t, counted_more i z b j c h)
interval_read p s b i (counting.Done low high) ran h (q, z, e, a, t, c) =
    let d = counted_done i z b low high c h in
    subst (λ y. At y (with_repeat low high s)) (sym (ap (λ y. y ++ b ∷ []) e ∙ append_assoc q (123 ∷ z) (b ∷ [])))
    (subst (λ x. At (q ++ (123 ∷ (z ++ x ∷ []))) (with_repeat low high s)) (sym d.0)
    (repeat_read q (123 ∷ (z ++ 125 ∷ [])) s low high t (inr (inr (inr (z, refl, d.1)))) a))
interval_read p s b i counting.Broken ran h (q, z, e, a, t, c) =
    broken_read p b (is_printable b) refl (q, z, e, between q s a, not_nothing p q z s ran e, counted_part i z c)

bracket_why : (p : List ℕ) (s : State) (b : ℕ) (why : Why) (q z : List ℕ) → p ≡ q ++ 91 ∷ z → At q s → BracketWhy z b why → IsReason p (Some b) why
bracket_why p s b w.NotAscii q z e a h = (b, refl, h)
bracket_why p s b w.Collating q z e a (v, m, inl x) = (v, (m, inl (q, z, e, between q s a, x)))
bracket_why p s b w.Collating q z e a (v, m, inr (f, x)) = (v, (m, inr (f, (q, z, e, between q s a, x))))
bracket_why p s b w.BadClass q z e a (v, (c, x, r, f, g, h)) = (v, (c, x, r, f, g, (q, z, e, between q s a, h)))
bracket_why p s b w.BadRange q z e a (v, n, inl (f, l, x)) = (v, (n, inl (f, l, (q, z, e, between q s a, x))))
bracket_why p s b w.BadRange q z e a (v, n, inr (inl (f, l, x))) = (v, (n, inr (inl (f, l, (q, z, e, between q s a, x)))))
bracket_why p s b w.BadRange q z e a (v, n, inr (inr x)) = (v, (n, inr (inr (q, z, e, between q s a, x))))
bracket_why p s b w.OpenGroup q z e a h = absurd h
bracket_why p s b w.StrayClose q z e a h = absurd h
bracket_why p s b w.OpenBracket q z e a h = absurd h
bracket_why p s b w.BadInterval q z e a h = absurd h
bracket_why p s b w.NothingToRepeat q z e a h = absurd h
bracket_why p s b w.BadEscape q z e a h = absurd h

bracket_read : (p : List ℕ) (s : State) (b : ℕ) (r : Listing) (q z : List ℕ) → p ≡ q ++ 91 ∷ z → At q s → Outcome z b r → Next p b (bracket_step s r)
bracket_read p s b (listing.More k) q z e a o = (q, z ++ b ∷ [], ap (λ y. y ++ b ∷ []) e ∙ append_assoc q (91 ∷ z) (b ∷ []), a, o)
bracket_read p s b (listing.Done negated marks) q z e a o =
    let x = listed_by marks in
    let l : x ≡ listed o.is = ap listed_by o.marks_are ∙ listed_marks o.is in
    subst (λ y. At y (with_leaf (n.Set negated) marks true s)) (sym (ap (λ y. y ++ b ∷ []) e ∙ append_assoc q (91 ∷ z) (b ∷ [])))
    (subst (λ c. At (q ++ (91 ∷ (z ++ c ∷ []))) (with_leaf (n.Set negated) marks true s)) (sym o.byte)
    (atom_read q s (91 ∷ (z ++ 93 ∷ [])) (n.Set negated) marks (set negated x) refl (o.is, l, o.bracket) a))
bracket_read p s b (listing.Broken why) q z e a o = bracket_why p s b why q z e a o

mode_read : (m : Mode) (p : List ℕ) (s : State) (b : ℕ) → run machine.start p ≡ Ok s → s.mode ≡ m → Means m p s → Next p b (mode_step m s b)
mode_read mode.Plain p s b ran e h = plain_read p s b (sign_of b) e (sign_is b) h
mode_read mode.Escape p s b ran e h = escape_read p s b (is_special b) (is_printable b) refl refl h
mode_read (mode.Interval i) p s b ran e h = interval_read p s b i (count_step i b) ran refl h
mode_read (mode.Bracket k) p s b ran e (q, z, f, a, l) = bracket_read p s b (list_step k b) q z f a (list_sound z b k l)

pub step_read : (p : List ℕ) (s : State) (b : ℕ) → run machine.start p ≡ Ok s → Meaning p s → Next p b (step s b)
unfolding step
step_read p s b ran h = mode_read s.mode p s b ran refl h

abbrev pub Ran : List ℕ → Result State Why → Type 0
Ran p (Ok t) = Meaning p t
Ran p (Err why) = Unit {0}

ran_more : (p : List ℕ) (s t : State) (b : ℕ) → run machine.start p ≡ Ok s → step s b ≡ Ok t → run machine.start (p ++ b ∷ []) ≡ Ok t
ran_more p s t b r e = run_on machine.start s p (b ∷ []) r ∙ run_one s t b [] e

pub run_read : (p bs : List ℕ) (s : State) → run machine.start p ≡ Ok s → Meaning p s → Ran (p ++ bs) (run s bs)
run_read p [] s ran h = subst (λ x. Meaning x s) (sym (append-nil p)) h
run_read p (b ∷ bs) s ran h =
    go (step s b) refl (step_read p s b ran h) (λ t e x. run_read (p ++ b ∷ []) bs t (ran_more p s t b ran e) x)
  where
    go : (r : Result State Why) → step s b ≡ r → Next p b r
        → ((t : State) → step s b ≡ Ok t → Meaning (p ++ b ∷ []) t → Ran ((p ++ b ∷ []) ++ bs) (run t bs)) → Ran (p ++ b ∷ bs) (after r (λ t. run t bs))
    go (Ok t) e h f = subst (λ x. Ran x (run t bs)) (append_assoc p (b ∷ []) bs) (f t e h)
    go (Err why) e h f = tt

pub start_read : Meaning [] machine.start
start_read = (
  record {
    done = [];
    row = [];
    stack_is = refl;
    pieces = refl;
    branches = refl;
    before = [];
    last = [];
    split = refl;
    ended = refl;
    going = refl;
    counted = omega arith;
  },
  refl,
)

-- what the machine accepts is read
pub run_meaning : (p : List ℕ) (s : State) → run machine.start p ≡ Ok s → Meaning p s
run_meaning p s e = subst (Ran p) e (run_read [] p machine.start refl start_read)

pub record Accepted (p : List ℕ) (s : State) (stack : List Tree) : Type 0 where
  pub reads : Reads p (top_of stack)
  pub groups_are : s.opened ≡ groups (top_of stack)
  pub stack_is : stack ≡ top_of stack ∷ []

finish_plain_read : (p : List ℕ) (s : State) (fs : List Frame) (stack : List Tree) → s.frames ≡ fs → At p s → finish_plain s fs ≡ Ok stack → Accepted p s stack
finish_plain_read p s [] stack f h e =
    let x = (subst (λ y. Nest p s.stack y s.top s.opened) f h).0 in
    let y = here_ended p s.stack [] s.top 0 s.opened x in
    let z : y.tree ∷ [] ≡ stack = sym y.stack_is ∙ same_stack (ended s) stack e in
    subst (Accepted p s) z (record { reads = y.reads; groups_are = omega (arith, y.counted); stack_is = refl })
  where
    same_stack : (a b : List Tree) → ◌≡◌ {A = Result (List Tree) Why} (Ok a) (Ok b) → a ≡ b
    same_stack a b e = cc
finish_plain_read p s (g ∷ fs) stack f h e = absurd (cc)

finish_read : (m : Mode) (p : List ℕ) (s : State) (stack : List Tree) → Means m p s → finish_at m s ≡ Ok stack → Accepted p s stack
finish_read mode.Plain p s stack h e = finish_plain_read p s s.frames stack refl h e
finish_read mode.Escape p s stack h e = absurd (cc)
finish_read (mode.Interval i) p s stack h e = absurd (cc)
finish_read (mode.Bracket k) p s stack h e = absurd (cc)

pub accepted : (p : List ℕ) (s : State) (stack : List Tree) → run machine.start p ≡ Ok s → finish s ≡ Ok stack → Accepted p s stack
unfolding finish
accepted p s stack e f = finish_read s.mode p s stack (run_meaning p s e) f

-- why the machine refuses a byte
pub step_why : (p : List ℕ) (s : State) (b : ℕ) (why : Why) → run machine.start p ≡ Ok s → step s b ≡ Err why → IsReason p (Some b) why
step_why p s b why h e = subst (Next p b) e (step_read p s b h (run_meaning p s h))

-- why the text may not end here
same_why : (a b : Why) → ◌≡◌ {A = Result (List Tree) Why} (Err a) (Err b) → a ≡ b
same_why a b e = cc

end_plain : (p : List ℕ) (s : State) (fs : List Frame) (why : Why) → s.frames ≡ fs → At p s → finish_plain s fs ≡ Err why → IsReason p None why
end_plain p s [] why f a e = absurd (cc)
end_plain p s (g ∷ fs) why f a e =
    subst (IsReason p None) (same_why w.OpenGroup why e)
    (refl, (length fs, s.opened, between_of p s.stack (g ∷ fs) s.top s.opened (subst (λ y. Nest p s.stack y s.top s.opened) f a)))

end_why : (m : Mode) (p : List ℕ) (s : State) (why : Why) → run machine.start p ≡ Ok s → Means m p s → finish_at m s ≡ Err why → IsReason p None why
end_why mode.Plain p s why ran h e = end_plain p s s.frames why refl h e
end_why mode.Escape p s why ran (q, f, a) e = subst (IsReason p None) (same_why w.BadEscape why e) (tt, (q, f, between q s a))
end_why (mode.Interval i) p s why ran (q, z, f, a, r, c) e =
    subst (IsReason p None) (same_why w.BadInterval why e) (tt, (q, z, f, between q s a, not_nothing p q z s ran f, counted_part i z c))
end_why (mode.Bracket k) p s why ran (q, z, f, a, l) e =
    subst (IsReason p None) (same_why w.OpenBracket why e) (refl, (tail k.phase, (q, z, f, between q s a, part_of z k.negated k.marks k.phase l)))

pub finish_why : (p : List ℕ) (s : State) (why : Why) → run machine.start p ≡ Ok s → finish s ≡ Err why → IsReason p None why
unfolding finish
finish_why p s why h e = end_why s.mode p s why h (run_meaning p s h) e
