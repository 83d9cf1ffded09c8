-- In which mode the machine is after a text that a reason speaks of.
use Rattle.std.proofs.Common.{ℕ, ◌≡◌, ◌≢◌, Bool, true, false, not, ◌&&◌, ◌||◌, ◌==◌, List, [], ◌∷◌}
use Rattle.std.proofs.Common.{◌++◌, refl, sym, ◌∙◌, ap, subst, arith, Result, Ok, Err}
use Rattle.std.proofs.Common.{append_assoc, nat_le}
use Rattle.std.specs.Prelude.{if◌then◌else◌}
use Rattle.std.specs.List.{list_all}
use Rattle.std.proofs.lemmas.Bool.Decides.{nat_tests}
use Rattle.std.proofs.lemmas.List.{append-nil}
use Rattle.posix_ere.specs.Ascii.{is_printable, is_digit}
use Rattle.posix_ere.specs.Bracket.{Item, name_of, spelled, body, sign, begins, goes_on_as_range, is_element, is_item, are_items, opens}
use Rattle.posix_ere.specs.Bracket.Item.{single, range, members}
use Rattle.posix_ere.specs.Reasons.{Between, InInterval, InBracket}
use Rattle.posix_ere.specs.BracketMachine.{marked, phase_step, begin_item, at_phase}
use Rattle.posix_ere.specs.Machine.{State, start, step, run, after, mode_step}
use Rattle.posix_ere.specs.Machine.{with_leaf, at_mode, no_marks}
use Rattle.posix_ere.specs.declared.node.Node.TheVariants as n
use Rattle.posix_ere.specs.declared.why.Why.{Why}
use Rattle.posix_ere.specs.declared.why.Why.TheVariants as w
use Rattle.posix_ere.specs.declared.interval.Interval.TheVariants as interval
use Rattle.posix_ere.specs.declared.bracket.Bracket.{Bracket}
use Rattle.posix_ere.specs.declared.bracket.Phase.{Phase}
use Rattle.posix_ere.specs.declared.bracket.Phase.TheVariants as phase
use Rattle.posix_ere.specs.declared.frame.Mode.{Mode}
use Rattle.posix_ere.specs.declared.frame.Mode.TheVariants as mode
use Rattle.posix_ere.proofs.RunsLemmas.{run_on, run_one, run-append, same_ok, err_not_ok}
use Rattle.posix_ere.proofs.IntervalRunsLemmas.{both}
use Rattle.posix_ere.proofs.IntervalSoundLemmas.{interval_bytes, bytes_front}
use Rattle.posix_ere.proofs.BracketSoundLemmas.{last_item}
use Rattle.posix_ere.proofs.BracketRunsLemmas.{inside, Follows, element, item_goes, begin_element, goes, step_inside}
use Rattle.posix_ere.proofs.BracketRunsLemmas.{only_last, hyphen_last, range_start, class_head, not_circumflex}
use Rattle.posix_ere.proofs.BracketRunsLemmas.{first_step, head, same_byte, other_byte}
use Rattle.posix_ere.proofs.CompleteLemmas.{step_plain}
pub use Rattle.posix_ere.proofs.BracketContextLemmas.{last_from, last_of, last_all, front_all, is_counting}
pub use Rattle.posix_ere.proofs.BracketContextLemmas.{between_mode, nothing_mode, not_nothing, escape_mode, Counts}
use Rattle.posix_ere.proofs.BracketContextLemmas.{last_from_append, last_append, both_true, is_inner, inner_counting}
use Rattle.posix_ere.proofs.BracketContextLemmas.{counts_on, Unlisted, begin_open, start_open, phase_open}
use Rattle.posix_ere.proofs.BracketContextLemmas.{Held, held_step, held_on, part_inner}

-- an item after the first begins with no `]`
not_closing : (i : Item) (t : ℕ) (w : List ℕ) → is_item false i (93 ∷ []) ≡ true → spelled i ≡ t ∷ w → t ≡ 93 → ⊥
not_closing (single e) t w v f g =
    let r : List ℕ = 93 ∷ [] in
    let a = (both (is_element false e r && not (goes_on_as_range r)) (false || not (e == 45) || begins (λ b. b == 93) r) v).0 in
    let x = element false e r (both (is_element false e r) (not (goes_on_as_range r)) a).0 in
    let s : e ≡ t = cc in
    x.closes refl (s ∙ g)
not_closing (range e k) t w v f g =
    let r : List ℕ = 93 ∷ [] in
    let a = (both (is_element false e (45 ∷ []) && (false || not (e == 45)) && is_element false k r) (nat_le e k) v).0 in
    let b = (both (is_element false e (45 ∷ []) && (false || not (e == 45))) (is_element false k r) a).0 in
    let x = element false e (45 ∷ []) (both (is_element false e (45 ∷ [])) (false || not (e == 45)) b).0 in
    let s : e ≡ t = cc in
    x.closes refl (s ∙ g)
not_closing (members c) t w v f g = let s : 91 ≡ t = cc in absurd (omega (arith, s, g))

closing_first : (negated : Bool) (is : List Item) (i : Item) (t : ℕ) (w : List ℕ)
    → opens negated (is ++ i ∷ []) (93 ∷ []) ≡ true → spelled i ≡ t ∷ w → t ≡ 93 → is ≡ []
closing_first negated [] i t w h f g = refl
closing_first negated (j ∷ js) i t w h f g =
    let a = both (are_items true ((j ∷ js) ++ i ∷ []) (93 ∷ [])) (negated || not (begins (λ b. b == 94) (body ((j ∷ js) ++ i ∷ [])))) h in
    absurd (not_closing i t w (last_item true (j ∷ js) i (93 ∷ []) a.0) f g)

-- what follows items is not empty
shape : (is : List Item) (t : ℕ) (ts : List ℕ) → (u : ℕ) × (us : List ℕ) × (body is ++ t ∷ ts ≡ u ∷ us)
shape [] t ts = (t, ts, refl)
shape (single e ∷ is) t ts = (e, body is ++ t ∷ ts, refl)
shape (range e f ∷ is) t ts = (e, (45 ∷ f ∷ body is) ++ t ∷ ts, refl)
shape (members c ∷ is) t ts = (91, (58 ∷ ((name_of c ++ 58 ∷ 93 ∷ []) ++ body is)) ++ t ∷ ts, refl)

not_hyphen : (i : Item) (is : List Item) (t : ℕ) (ts : List ℕ) → is_item false i (body is ++ t ∷ ts) ≡ true → are_items false is (t ∷ ts) ≡ true → t ≢ 93
    → head i ≢ 45
unfolding head
not_hyphen (single e) is t ts v h n = λ a.
    let b = hyphen_last e (body is ++ t ∷ ts) v a in
    let c = only_last is (t ∷ ts) h b in
    n (same_byte t 93 (subst (λ x. begins (λ b. b == 93) (body x ++ t ∷ ts) ≡ true) c b))
not_hyphen (range e f) is t ts v h n = range_start e f (body is ++ t ∷ ts) v
not_hyphen (members c) is t ts v h n = class_head

-- a byte that begins an element, whatever stands before it
record Plain (b : ℕ) : Type 0 where
  printable : is_printable b ≡ true
  closing : b ≢ 93
  bracket : b ≢ 91
  hyphen : b ≢ 45
  circumflex : (b == 94) ≡ false

plain : (b : ℕ) → is_counting b ≡ true → Plain b
plain b h = record {
  printable = grind (arith, nat_tests);
  closing = λ e. absurd (grind (arith, nat_tests));
  bracket = λ e. absurd (grind (arith, nat_tests));
  hyphen = λ e. absurd (grind (arith, nat_tests));
  circumflex = grind (arith, nat_tests);
}

plain_letter : Plain 97
plain_letter = record {
  printable = refl;
  closing = λ e. absurd (omega arith);
  bracket = λ e. absurd (omega arith);
  hyphen = λ e. absurd (omega arith);
  circumflex = refl;
}

-- where an item may begin at this byte
record Point (s : State) (negated : Bool) (q : Phase) (x : List Bool) (t : ℕ) : Type 0 where
  opens_there : Unlisted (phase_step negated x q t)
  element : Plain t → (k : List Bool) × (phase_step negated x q t ≡ at_phase negated k (phase.Element t))

point_follows : (s : State) (negated : Bool) (q : Phase) (x k : List Bool) (t : ℕ) → Follows s negated q x k → t ≢ 93 → Point s negated q x t
point_follows s negated q x k t f n = record {
  opens_there = phase_open negated x q t (other_byte t 93 n);
  element = λ p. (k, f.other t p.hyphen ∙ begin_element s negated false k t p.printable (λ _. p.closing) p.bracket (λ _. p.hyphen));
}

abbrev first_phase : Bool → Phase
first_phase true = phase.First
first_phase false = phase.Start

point_first : (s : State) (negated : Bool) (x : List Bool) (t : ℕ) → Point s negated (first_phase negated) x t
point_first s true x t = record {
  opens_there = begin_open true true x t (λ e. absurd (cc));
  element = λ p. (x, begin_element s true true x t p.printable (λ _. p.closing) p.bracket (λ _. p.hyphen));
}
point_first s false x t = record {
  opens_there = start_open false x t;
  element = λ p. (x, first_step x t p.circumflex ∙ begin_element s false true x t p.printable (λ _. p.closing) p.bracket (λ _. p.hyphen));
}

-- from the beginning of items to what follows them
abbrev Reaches : State → Bool → Phase → List Bool → List ℕ → ℕ → List ℕ → Type 0
Reaches s negated p m w t ts =
    (q : Phase) × (x : List Bool) × Point s negated q x t × (run (inside s negated p m) w ≡ run (inside s negated q x) (t ∷ ts))

reaches_item : (s : State) (negated first : Bool) (p : Phase) (m k : List Bool) (i : Item) (is : List Item) (t : ℕ) (ts : List ℕ)
    → phase_step negated m p (head i) ≡ begin_item first negated k (head i) → is_item first i (body is ++ t ∷ ts) ≡ true → (first ≡ false → head i ≢ 45)
    → ((q : Phase) (x : List Bool) → Follows s negated q x (marked i k) → Reaches s negated q x (body is ++ t ∷ ts) t ts)
    → Reaches s negated p m (body (i ∷ is) ++ t ∷ ts) t ts
reaches_item s negated first p m k i is t ts h v c further =
    let e = shape is t ts in
    let g = item_goes s negated first p m k i e.0 e.1 h (subst (λ w. is_item first i w ≡ true) e.2 v) c in
    let r = further g.0 g.1 g.2 in (
      r.0,
      r.1,
      r.2,
      ap (run (inside s negated p m)) (append_assoc (spelled i) (body is) (t ∷ ts))
          ∙ (subst (λ w. run (inside s negated p m) (spelled i ++ w) ≡ run (inside s negated g.0 g.1) w) (sym e.2) g.3 ∙ r.3),
    )

reaches_rest : (s : State) (negated : Bool) (is : List Item) (p : Phase) (m k : List Bool) (t : ℕ) (ts : List ℕ) → Follows s negated p m k
    → are_items false is (t ∷ ts) ≡ true → t ≢ 93 → Reaches s negated p m (body is ++ t ∷ ts) t ts
reaches_rest s negated [] p m k t ts f v n = (p, m, point_follows s negated p m k t f n, refl)
reaches_rest s negated (i ∷ is) p m k t ts f v n =
    let a = both (is_item false i (body is ++ t ∷ ts)) (are_items false is (t ∷ ts)) v in
    let h = not_hyphen i is t ts a.0 a.1 n in
    reaches_item s negated false p m k i is t ts (f.other (head i) h) a.0 (λ _. h)
    (λ q x g. reaches_rest s negated is q x (marked i k) t ts g a.1 n)

first_begins : (negated : Bool) (m : List Bool) (i : Item) (is : List Item) → (negated || not (begins (λ b. b == 94) (body (i ∷ is)))) ≡ true
    → phase_step negated m (first_phase negated) (head i) ≡ begin_item true negated m (head i)
first_begins true m i is h = refl
first_begins false m i is h = first_step m (head i) (not_circumflex i is h)

reaches_body : (s : State) (negated : Bool) (is : List Item) (m : List Bool) (t : ℕ) (ts : List ℕ) → opens negated is (t ∷ ts) ≡ true → (t ≡ 93 → is ≡ [])
    → Reaches s negated (first_phase negated) m (body is ++ t ∷ ts) t ts
reaches_body s negated [] m t ts v n = (first_phase negated, m, point_first s negated m t, refl)
reaches_body s negated (i ∷ is) m t ts v n =
    let a = both (are_items true (i ∷ is) (t ∷ ts)) (negated || not (begins (λ b. b == 94) (body (i ∷ is)))) v in
    let b = both (is_item true i (body is ++ t ∷ ts)) (are_items false is (t ∷ ts)) a.0 in
    reaches_item s negated true (first_phase negated) m m i is t ts (first_begins negated m i is a.1) b.0 (λ e. absurd (cc))
    (λ q x g. reaches_rest s negated is q x (marked i m) t ts g b.1 (λ e. let f : i ∷ is ≡ [] = n e in cc))

reaches_sign : (s : State) (negated : Bool) (v : List ℕ) → s.mode ≡ mode.Plain
    → run s (91 ∷ (sign negated ++ v)) ≡ run (inside s negated (first_phase negated) no_marks) v
unfolding inside
reaches_sign s true v m =
    run_one s (inside s false phase.Start no_marks) 91 (94 ∷ v) (step_plain s 91 m)
    ∙ run_one (inside s false phase.Start no_marks) (inside s true phase.First no_marks) 94 v (step_inside s false phase.Start no_marks 94)
reaches_sign s false v m = run_one s (inside s false phase.Start no_marks) 91 v (step_plain s 91 m)

-- the machine at the last part of a bracket's text
record Reached (p : List ℕ) (t : ℕ) (ts : List ℕ) : Type 0 where
  state : State
  negated : Bool
  phase_is : Phase
  marks : List Bool
  point : Point state negated phase_is marks t
  runs : run start p ≡ run (inside state negated phase_is marks) (t ∷ ts)

reached : (p q z : List ℕ) (negated : Bool) (is : List Item) (t : ℕ) (ts : List ℕ) → p ≡ q ++ 91 ∷ z → Between q → z ≡ sign negated ++ (body is ++ t ∷ ts)
    → opens negated is (t ∷ ts) ≡ true → (t ≡ 93 → is ≡ []) → Reached p t ts
reached p q z negated is t ts e b f v n =
    let a = between_mode q b in
    let r = reaches_body a.0 negated is no_marks t ts v n in
    record {
      state = a.0;
      negated = negated;
      phase_is = r.0;
      marks = r.1;
      point = r.2;
      runs = ap (run start) e ∙ (run_on start a.0 q (91 ∷ z) a.1 ∙ (ap (λ x. run a.0 (91 ∷ x)) f
          ∙ (reaches_sign a.0 negated (body is ++ t ∷ ts) a.2 ∙ r.3)));
    }

held_there : (p : List ℕ) (t : ℕ) (ts : List ℕ) → Reached p t ts → list_all is_inner ts ≡ true → Held (run start p)
unfolding inside
held_there p t ts r h =
    subst Held (sym r.runs)
    (held_step (inside r.state r.negated r.phase_is r.marks) _ t ts refl r.point.opens_there (λ u j e. held_on ts u j e h))

abbrev InBracketMode : List ℕ → Type 0
InBracketMode p = (s : State) × (run start p ≡ Ok s) × ((k : Bracket) × (s.mode ≡ mode.Bracket k))

element_there : (p : List ℕ) (t : ℕ) → Reached p t [] → Plain t → InBracketMode p
unfolding inside
element_there p t r h =
    let a = r.point.element h in (
      inside r.state r.negated (phase.Element t) a.0,
      r.runs ∙ goes r.state r.negated r.phase_is (phase.Element t) r.marks a.0 t [] a.1,
      (_, refl),
    )

-- one letter more tells that a bracket is open
letter_mode : (m : Mode) (t u : State) (k : Bracket) → t.mode ≡ m → step t 97 ≡ Ok u → u.mode ≡ mode.Bracket k → (j : Bracket) × (m ≡ mode.Bracket j)
unfolding step
letter_mode mode.Plain t u k m e h =
    let s : State = with_leaf (n.Byte 97) no_marks true t in
    let f : s ≡ u = same_ok s u (sym (step_plain t 97 m) ∙ e) in
    let g : mode.Plain ≡ mode.Bracket k = ap (λ x. x.mode) f ∙ h in
    absurd (cc)
letter_mode mode.Escape t u k m e h = absurd (err_not_ok w.BadEscape u (sym (ap (λ x. mode_step x t 97) m) ∙ e))
letter_mode (mode.Interval interval.Start) t u k m e h = absurd (err_not_ok w.BadInterval u (sym (ap (λ x. mode_step x t 97) m) ∙ e))
letter_mode (mode.Interval (interval.Low v c)) t u k m e h = absurd (err_not_ok w.BadInterval u (sym (ap (λ x. mode_step x t 97) m) ∙ e))
letter_mode (mode.Interval (interval.Comma v)) t u k m e h = absurd (err_not_ok w.BadInterval u (sym (ap (λ x. mode_step x t 97) m) ∙ e))
letter_mode (mode.Interval (interval.High l v c)) t u k m e h = absurd (err_not_ok w.BadInterval u (sym (ap (λ x. mode_step x t 97) m) ∙ e))
letter_mode (mode.Bracket j) t u k m e h = (j, refl)

before_letter : (p : List ℕ) → InBracketMode (p ++ 97 ∷ []) → InBracketMode p
before_letter p (u, e, (k, h)) = go (run start p) refl (sym (run-append start p (97 ∷ [])) ∙ e)
  where
    only_step : (t : State) (r : Result State Why) → after r (λ x. run x []) ≡ r
    only_step t (Ok x) = refl
    only_step t (Err why) = refl

    go : (r : Result State Why) → run start p ≡ r → after r (λ t. run t (97 ∷ [])) ≡ Ok u → InBracketMode p
    go (Ok t) f g = (t, f, letter_mode t.mode t u k refl (sym (only_step t (step t 97)) ∙ g) h)
    go (Err why) f g = absurd (err_not_ok why u g)

-- inside a bracket, or refused after a byte after which no interval is open
abbrev pub Brackets : ℕ → Result State Why → Type 0
Brackets c (Ok t) = (k : Bracket) × (t.mode ≡ mode.Bracket k)
Brackets c (Err why) = is_counting c ≡ false

brackets_held : (c : ℕ) (r : Result State Why) → Held r → is_counting c ≡ false → Brackets c r
brackets_held c (Ok t) h e = h
brackets_held c (Err why) h e = e

brackets_ok : (p : List ℕ) (c : ℕ) → InBracketMode p → Brackets c (run start p)
brackets_ok p c (s, e, h) = subst (Brackets c) (sym e) h

items_there : (negated : Bool) (is : List Item) (y : List ℕ) → ((r : List ℕ) → opens negated is (y ++ r) ≡ true) → opens negated is y ≡ true
items_there negated is y h = ap (opens negated is) (sym (append-nil y)) ∙ h []

-- the last byte of a bracket's text
pub last_part : (p y : List ℕ) (t : ℕ) (ts : List ℕ) → InBracket p y → y ≡ t ∷ ts → last_of p ≡ last_from t ts
last_part p y t ts (q, z, e, b, h) f =
    ap last_of (e ∙ ap (λ x. q ++ 91 ∷ x)
    (h.text ∙ (ap (λ x. sign h.negated ++ (body h.is ++ x)) f
    ∙ sym (append_assoc (sign h.negated) (body h.is) (t ∷ ts)))))
    ∙ (last_append q 91 ((sign h.negated ++ body h.is) ++ t ∷ ts) ∙ last_from_append 91 (sign h.negated ++ body h.is) t ts)

part_brackets : (p : List ℕ) (t : ℕ) (ts : List ℕ) (v : Bool) → InBracket p (t ∷ ts) → is_counting (last_from t ts) ≡ v
    → Brackets (last_from t ts) (run start p)
part_brackets p t ts false (q, z, e, b, h) c =
    let r = reached p q z h.negated h.is t ts e b h.text (items_there h.negated h.is (t ∷ ts) h.items)
    (closing_first h.negated h.is h.begun t (ts ++ h.rest) h.stands h.spells) in
    brackets_held (last_from t ts) (run start p) (held_there p t ts r (part_inner h.begun t ts h.rest h.spells h.left)) c
part_brackets p t [] true (q, z, e, b, h) c =
    let r = reached p q z h.negated h.is t [] e b h.text (items_there h.negated h.is (t ∷ []) h.items)
    (closing_first h.negated h.is h.begun t h.rest h.stands h.spells) in
    brackets_ok p t (element_there p t r (plain t c))
part_brackets p t (x ∷ xs) true (q, z, e, b, h) c =
    let i = both (is_inner x) (list_all is_inner xs) (part_inner h.begun t (x ∷ xs) h.rest h.spells h.left) in
    let f = inner_counting (last_from x xs) (last_all is_inner x xs i.0 i.1) in
    absurd (let g : true ≡ false = sym c ∙ f in cc)

-- inside a bracket
pub bracket_mode : (p y : List ℕ) → InBracket p y → Brackets (last_of p) (run start p)
bracket_mode p [] (q, z, e, b, h) =
    let f : p ++ 97 ∷ [] ≡ q ++ 91 ∷ (z ++ 97 ∷ []) = ap (λ x. x ++ 97 ∷ []) e ∙ append_assoc q (91 ∷ z) (97 ∷ []) in
    let g : z ++ 97 ∷ [] ≡ sign h.negated ++ (body h.is ++ 97 ∷ []) =
    ap (λ x. x ++ 97 ∷ []) (h.text ∙ ap (λ x. sign h.negated ++ x) (append-nil (body h.is))) ∙ append_assoc (sign h.negated) (body h.is) (97 ∷ []) in
    let r = reached (p ++ 97 ∷ []) q (z ++ 97 ∷ []) h.negated h.is 97 [] f b g (h.items (97 ∷ [])) (λ x. absurd (omega arith)) in
    brackets_ok p (last_of p) (before_letter p (element_there (p ++ 97 ∷ []) 97 r plain_letter))
bracket_mode p (t ∷ ts) h = subst (λ c. Brackets c (run start p)) (sym (last_part p (t ∷ ts) t ts h refl))
    (part_brackets p t ts (is_counting (last_from t ts)) h refl)

-- inside an interval
counts_brace : (s : State) (v : List ℕ) → s.mode ≡ mode.Plain → list_all (λ b. is_digit b || b == 44) v ≡ true → Counts (run s (123 ∷ v))
counts_brace s v m h = subst (λ r. Counts (after r (λ t. run t v))) (sym (step_plain s 123 m)) (go s.top.repeatable)
  where
    go : (r : Bool) → Counts (after (if r then Ok (at_mode (mode.Interval interval.Start) s) else Err w.NothingToRepeat) (λ t. run t v))
    go true = counts_on v (at_mode (mode.Interval interval.Start) s) interval.Start refl h
    go false = tt

counting_all : (v : List ℕ) → list_all (λ b. is_digit b || b == 44) v ≡ true → list_all is_counting v ≡ true
counting_all [] h = refl
counting_all (b ∷ v) h =
    let q = both (is_digit b || b == 44) (list_all (λ x. is_digit x || x == 44) v) h in
    both_true (is_counting b) (list_all is_counting v) (or_true (b == 123) (is_digit b || b == 44) q.0) (counting_all v q.1)
  where
    or_true : (p q : Bool) → q ≡ true → (p || q) ≡ true
    or_true true q h = refl
    or_true false q h = h

pub interval_mode : (p : List ℕ) → InInterval p → Counts (run start p) × (is_counting (last_of p) ≡ true)
interval_mode p (q, v, e, b, o, (x, m, n, i)) =
    let a = between_mode q b in
    let h = bytes_front v x (interval_bytes (v ++ x) m n i) in (
      subst Counts (sym (ap (run start) e ∙ run_on start a.0 q (123 ∷ v) a.1)) (counts_brace a.0 v a.2 h),
      ap is_counting (ap last_of e ∙ last_append q 123 v) ∙ last_all is_counting 123 v refl (counting_all v h),
    )
