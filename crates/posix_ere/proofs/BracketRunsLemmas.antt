-- The machine reads each bracket.
use Rattle.std.proofs.Common.{ℕ, zero, suc, ◌≡◌, ◌+◌, ◌<◌, ◌≤◌, ◌≢◌, Bool, true, false, not, cond, ◌&&◌, ◌||◌, ◌==◌}
use Rattle.std.proofs.Common.{List, [], ◌∷◌, ◌++◌, get_or, refl, sym, ◌∙◌, ap, subst, arith, ◌⊎◌, inl, inr, Result, Ok}
use Rattle.std.proofs.Common.{append_assoc, nat_le, nat_lt}
use Rattle.std.specs.Prelude.{filter, if◌then◌else◌}
use Rattle.std.specs.List.{list_any}
use Rattle.std.proofs.lemmas.Bool.Decides.{nat_tests}
use Rattle.std.proofs.lemmas.List.{get_or-replicate}
use Rattle.std.proofs.lemmas.List.FromFn.{get_or-map-range_with_len}
use Rattle.posix_ere.specs.Ascii.{is_printable}
use Rattle.posix_ere.specs.Bracket.{Item, listed, IsBracket, has, name_of, spelled, body, begins, goes_on_as_range}
use Rattle.posix_ere.specs.Bracket.{is_element, is_item, are_items, counted_from, ascii}
use Rattle.posix_ere.specs.Bracket.Item.{single, range, members}
use Rattle.posix_ere.specs.BracketMachine.{marked, phase_step, begin_item}
use Rattle.posix_ere.specs.Cells.{listed_by}
use Rattle.posix_ere.specs.Machine.{State, step, run, after, with_leaf, at_mode, bracket_step, no_marks, mode_step, plain_step, sign_of}
use Rattle.posix_ere.specs.declared.node.Node.TheVariants as n
use Rattle.posix_ere.specs.declared.why.Why.{Why}
use Rattle.posix_ere.specs.declared.class.Class.{Class}
use Rattle.posix_ere.specs.declared.class.Class.TheVariants as class
use Rattle.posix_ere.specs.declared.bracket.Phase.{Phase}
use Rattle.posix_ere.specs.declared.bracket.Phase.TheVariants as phase
use Rattle.posix_ere.specs.BracketMachine.{Listing}
use Rattle.posix_ere.specs.BracketMachine.{Listing as listing}
use Rattle.posix_ere.specs.declared.frame.Mode.TheVariants as mode
use Rattle.posix_ere.proofs.RunsLemmas.{run_one}
use Rattle.posix_ere.proofs.IntervalRunsLemmas.{both}

-- the marks of items
unfoldable pub marks_on : List Item → List Bool → List Bool
marks_on [] m = m
marks_on (i ∷ is) m = marks_on is (marked i m)

pub no_marks_on : no_marks ≡ marks_on [] no_marks
unfolding marks_on
no_marks_on = refl

marked_at : (i : Item) (m : List Bool) (b : ℕ) → b < 128 → get_or (marked i m) b false ≡ (get_or m b false || has i b)
unfolding marked
marked_at i m b l = get_or-map-range_with_len (λ k. get_or m k false || has i k) 0 128 b b false l (omega arith)

or_shift : (a b c : Bool) → ((a || b) || c) ≡ (a || (b || c))
or_shift true b c = refl
or_shift false b c = refl

or_none : (a : Bool) → a ≡ a || false
or_none true = refl
or_none false = refl

marks_on_at : (is : List Item) (m : List Bool) (b : ℕ) → b < 128 → get_or (marks_on is m) b false ≡ (get_or m b false || list_any (λ i. has i b) is)
unfolding marks_on
marks_on_at [] m b l = or_none (get_or m b false)
marks_on_at (i ∷ is) m b l =
    marks_on_at is (marked i m) b l ∙ (ap (λ x. x || list_any (λ j. has j b) is) (marked_at i m b l)
    ∙ or_shift (get_or m b false) (has i b) (list_any (λ j. has j b) is))

filter_same : (p q : ℕ → Bool) (a k : ℕ) → ((b : ℕ) → a ≤ b → b < a + k → p b ≡ q b) → filter p (counted_from a k) ≡ filter q (counted_from a k)
filter_same p q a zero h = refl
filter_same p q a (suc k) h =
    let r = filter_same p q (suc a) k (λ b l m. h b (omega arith) (omega arith)) in
    ap (λ x. cond (p a) (a ∷ x) x) r
    ∙ ap (λ v. cond v (a ∷ filter q (counted_from (suc a) k)) (filter q (counted_from (suc a) k)))
    (h a (omega arith) (omega arith))

none_marked : (b : ℕ) → b < 128 → get_or no_marks b false ≡ false
none_marked b l = get_or-replicate 128 b false false l

pub listed_marks : (is : List Item) → listed_by (marks_on is no_marks) ≡ listed is
unfolding ascii
listed_marks is =
    filter_same (λ b. get_or (marks_on is no_marks) b false) (λ b. list_any (λ i. has i b) is) 0 128
    (λ b l m. let k : b < 128 = omega arith in
    marks_on_at is no_marks b k ∙ ap (λ x. x || list_any (λ i. has i b) is) (none_marked b k))

-- tests
pub is_not : (p : Bool) → not p ≡ true → p ≡ false
is_not true h = absurd (cc)
is_not false h = refl

pub either : (p q : Bool) → (p || q) ≡ false → (p ≡ false) × (q ≡ false)
either true q h = absurd (cc)
either false q h = (refl, h)

pub same_byte : (a b : ℕ) → (a == b) ≡ true → a ≡ b
same_byte a b h = grind (arith, nat_tests)

pub other_byte : (a b : ℕ) → a ≢ b → (a == b) ≡ false
other_byte a b h = grind (arith, nat_tests)

pub not_same : (a b : ℕ) → (a == b) ≡ false → a ≢ b
not_same a b h = grind (arith, nat_tests)

and_false : (v : Bool) → (v && false) ≡ false
and_false true = refl
and_false false = refl

chosen : (v : Bool) (x y : Listing) → y ≡ x → (if v then x else y) ≡ x
chosen true x y h = refl
chosen false x y h = h

-- what may stand as an element
pub record Element (first : Bool) (e : ℕ) (rest : List ℕ) : Type 0 where
  pub printable : is_printable e ≡ true
  pub closes : first ≡ false → e ≢ 93
  pub marks : e ≡ 91 → begins (λ b. b == 46 || b == 61 || b == 58) rest ≡ false

element_closes : (first : Bool) (e : ℕ) → (first || not (e == 93)) ≡ true → first ≡ false → e ≢ 93
element_closes true e h f = absurd (cc)
element_closes false e h f = not_same e 93 (is_not _ h)

element_marks : (e : ℕ) (q : Bool) → not (e == 91 && q) ≡ true → e ≡ 91 → q ≡ false
element_marks e q h s = at q (let k : (e == 91) ≡ true = rw s refl in rw k at h)
  where
    at : (q : Bool) → not q ≡ true → q ≡ false
    at true k = absurd (cc)
    at false k = refl

pub element : (first : Bool) (e : ℕ) (rest : List ℕ) → is_element first e rest ≡ true → Element first e rest
element first e rest h =
    let p = both (is_printable e && (first || not (e == 93))) (not (e == 91 && begins (λ b. b == 46 || b == 61 || b == 58) rest)) h in
    let q = both (is_printable e) (first || not (e == 93)) p.0 in
    record { printable = q.0; closes = element_closes first e q.1; marks = element_marks e _ p.1 }

-- the first byte of an item
unfoldable pub head : Item → ℕ
head (single e) = e
head (range e f) = e
head (members c) = 91

abbrev IsMark : ℕ → Bool
IsMark b = b == 46 || b == 61 || b == 58

pub same_or_not : (a b : ℕ) → (a ≡ b) ⊎ (a ≢ b)
same_or_not a b = grind arith

not_less : (a b : ℕ) → b ≤ a → nat_lt a b ≡ false
not_less a b h = grind (arith, nat_tests)

at_most : (a b : ℕ) → nat_le a b ≡ true → a ≤ b
at_most a b h = grind (arith, nat_tests)

-- what follows an item is not empty
shape : (is : List Item) → (t : ℕ) × (ts : List ℕ) × (body is ++ 93 ∷ [] ≡ t ∷ ts)
shape [] = (93, [], refl)
shape (single e ∷ is) = (e, body is ++ 93 ∷ [], refl)
shape (range e f ∷ is) = (e, (45 ∷ f ∷ body is) ++ 93 ∷ [], refl)
shape (members c ∷ is) = (91, (58 ∷ ((name_of c ++ 58 ∷ 93 ∷ []) ++ body is)) ++ 93 ∷ [], refl)

-- a `-` that is last ends the items
pub only_last : (is : List Item) (rest : List ℕ) → are_items false is rest ≡ true → begins (λ b. b == 93) (body is ++ rest) ≡ true → is ≡ []
only_last [] rest v h = refl
only_last (single e ∷ is) rest v h =
    let t = body is ++ rest in
    let a = (both (is_item false (single e) t) (are_items false is rest) v).0 in
    let b = (both (is_element false e t && not (goes_on_as_range t)) (false || not (e == 45) || begins (λ b. b == 93) t) a).0 in
    let x = element false e t (both (is_element false e t) (not (goes_on_as_range t)) b).0 in
    absurd (x.closes refl (same_byte e 93 h))
only_last (range e f ∷ is) rest v h =
    let t = body is ++ rest in
    let a = (both (is_item false (range e f) t) (are_items false is rest) v).0 in
    let b = (both (is_element false e (45 ∷ []) && (false || not (e == 45)) && is_element false f t) (nat_le e f) a).0 in
    let c = (both (is_element false e (45 ∷ []) && (false || not (e == 45))) (is_element false f t) b).0 in
    let x = element false e (45 ∷ []) (both (is_element false e (45 ∷ [])) (false || not (e == 45)) c).0 in
    absurd (x.closes refl (same_byte e 93 h))
only_last (members c ∷ is) rest v h = absurd (cc)

pub hyphen_last : (e : ℕ) (t : List ℕ) → is_item false (single e) t ≡ true → e ≡ 45 → begins (λ b. b == 93) t ≡ true
hyphen_last e t v a =
    let b = (both (is_element false e t && not (goes_on_as_range t)) (false || not (e == 45) || begins (λ b. b == 93) t) v).1 in
    let c : (e == 45) ≡ true = rw a refl in
    rw c at b

pub range_start : (e f : ℕ) (t : List ℕ) → is_item false (range e f) t ≡ true → e ≢ 45
range_start e f t v =
    let b = (both (is_element false e (45 ∷ []) && (false || not (e == 45)) && is_element false f t) (nat_le e f) v).0 in
    let c = (both (is_element false e (45 ∷ []) && (false || not (e == 45))) (is_element false f t) b).0 in
    let d = (both (is_element false e (45 ∷ [])) (false || not (e == 45)) c).1 in
    not_same e 45 (is_not (e == 45) d)

pub class_head : ◌≢◌ {A = ℕ} 91 45
class_head e = absurd (omega arith)

close_head : ◌≢◌ {A = ℕ} 93 45
close_head e = absurd (omega arith)

IsLast : Item → List Item → Type 0
IsLast i is = (i ≡ single 45) × (is ≡ [])

split_hyphen : (e : ℕ) (is : List Item) → (e ≡ 45) ⊎ (e ≢ 45) → (e ≡ 45 → is ≡ []) → IsLast (single e) is ⊎ (e ≢ 45)
unfolding IsLast
split_hyphen e is (inl a) f = inl (ap single a, f a)
split_hyphen e is (inr b) f = inr b

single_hyphen : (e : ℕ) (is : List Item) (t : List ℕ) → t ≡ body is ++ 93 ∷ [] → is_item false (single e) t ≡ true → are_items false is (93 ∷ []) ≡ true
    → IsLast (single e) is ⊎ (e ≢ 45)
single_hyphen e is t h v w =
    split_hyphen e is (same_or_not e 45) (λ a. only_last is (93 ∷ []) w (subst (λ ts. begins (λ b. b == 93) ts ≡ true) h (hyphen_last e t v a)))

hyphen_or_not : (i : Item) (is : List Item) (t : List ℕ) → t ≡ body is ++ 93 ∷ [] → is_item false i t ≡ true → are_items false is (93 ∷ []) ≡ true
    → IsLast i is ⊎ (head i ≢ 45)
unfolding head
hyphen_or_not (single e) = single_hyphen e
hyphen_or_not (range e f) = λ is t h v w. inr (range_start e f t v)
hyphen_or_not (members c) = λ is t h v w. inr class_head

pub step_plain_at : (s : State) (b : ℕ) → s.mode ≡ mode.Plain → step s b ≡ plain_step s b (sign_of b)
unfolding step
step_plain_at s b e = ap (λ m. mode_step m s b) e

module _ (s : State) (negated : Bool) where
  inner_begins : (first : Bool) (k : List Bool) → begin_item first negated k 91 ≡ listing.More (record { negated = negated; marks = k; phase = phase.Inner })
  inner_begins first k = refl

  unfoldable pub inside : Phase → List Bool → State
  inside p m = at_mode (mode.Bracket (record { negated = negated; marks = m; phase = p })) s

  unfoldable pub done : List Bool → Result State Why
  done m = Ok (with_leaf (n.Set negated) m true s)

  inside_base : (p : Phase) (m : List Bool) (r : Listing) → bracket_step (inside p m) r ≡ bracket_step s r
  unfolding inside
  inside_base p m (listing.More k) = refl
  inside_base p m (listing.Done x y) = refl
  inside_base p m (listing.Broken w) = refl

  pub step_inside : (p : Phase) (m : List Bool) (b : ℕ) → step (inside p m) b ≡ bracket_step s (phase_step negated m p b)
  unfolding step inside
  step_inside p m b = inside_base p m (phase_step negated m p b)

  pub goes : (p q : Phase) (m k : List Bool) (b : ℕ) (bs : List ℕ)
      → phase_step negated m p b ≡ listing.More (record { negated = negated; marks = k; phase = q })
      → run (inside p m) (b ∷ bs) ≡ run (inside q k) bs
  unfolding inside
  goes p q m k b bs e = run_one (inside p m) (inside q k) b bs (step_inside p m b ∙ ap (bracket_step s) e)

  ends : (p : Phase) (m k : List Bool) (b : ℕ) → phase_step negated m p b ≡ listing.Done negated k → run (inside p m) (b ∷ []) ≡ done k
  unfolding done
  ends p m k b e = run_one (inside p m) (with_leaf (n.Set negated) k true s) b [] (step_inside p m b ∙ ap (bracket_step s) e)

  same : (p q : Phase) (m k : List Bool) (b : ℕ) (bs : List ℕ) → phase_step negated m p b ≡ phase_step negated k q b
      → run (inside p m) (b ∷ bs) ≡ run (inside q k) (b ∷ bs)
  same p q m k b bs e = ap (λ r. after r (λ t. run t bs)) (step_inside p m b ∙ (ap (bracket_step s) e ∙ sym (step_inside q k b)))

  -- a phase at which an item may begin, but for a `-`, and a `-` may be last
  pub record Follows (p : Phase) (m k : List Bool) : Type 0 where
    pub other : (b : ℕ) → b ≢ 45 → phase_step negated m p b ≡ begin_item false negated k b
    pub hyphen : run (inside p m) (45 ∷ 93 ∷ []) ≡ done (marked (single 45) k)

  follows_next : (m : List Bool) → Follows phase.Next m m
  follows_next m = record {
    other = λ b h. refl;
    hyphen = goes phase.Next phase.Last m m 45 (93 ∷ []) refl ∙ ends phase.Last m (marked (single 45) m) 93 refl;
  }

  follows_element : (e : ℕ) (m : List Bool) → Follows (phase.Element e) m (marked (single e) m)
  follows_element e m = record {
    other = λ b h. rw (other_byte b 45 h) refl;
    hyphen = goes (phase.Element e) (phase.Dash e) m m 45 (93 ∷ []) refl
        ∙ ends (phase.Dash e) m (marked (single 45) (marked (single e) m)) 93 refl;
  }

  -- a `[` that is an element
  inner : (m : List Bool) (t : ℕ) (ts : List ℕ) → IsMark t ≡ false → run (inside phase.Inner m) (t ∷ ts) ≡ run (inside (phase.Element 91) m) (t ∷ ts)
  inner m t ts h =
      let a = either (t == 46 || t == 61) (t == 58) h in
      same phase.Inner (phase.Element 91) m m t ts (rw (a.0, a.1) refl)

  range_inner : (e : ℕ) (m : List Bool) (t : ℕ) (ts : List ℕ) → IsMark t ≡ false
      → run (inside (phase.RangeInner e) m) (t ∷ ts) ≡ run (inside phase.Next (marked (range e 91) m)) (t ∷ ts)
  range_inner e m t ts h =
      let a = either (t == 46 || t == 61) (t == 58) h in
      same (phase.RangeInner e) phase.Next m (marked (range e 91) m) t ts (rw (a.0, a.1) refl)

  pub begin_element : (first : Bool) (m : List Bool) (e : ℕ) → is_printable e ≡ true → (first ≡ false → e ≢ 93) → e ≢ 91 → (first ≡ false → e ≢ 45)
      → begin_item first negated m e ≡ listing.More (record { negated = negated; marks = m; phase = phase.Element e })
  begin_element true m e p a b c = chosen (e == 93) _ _ (rw (other_byte e 91 b, and_false (e == 45), p) refl)
  begin_element false m e p a b c =
      let x = other_byte e 93 (a refl) in
      let y = other_byte e 91 b in
      let z = other_byte e 45 (c refl) in
      rw (x, y, z, p) refl

  -- the first byte of an element
  opening : (first : Bool) (p : Phase) (m k : List Bool) (e t : ℕ) (ts : List ℕ) → phase_step negated m p e ≡ begin_item first negated k e
      → Element first e (t ∷ ts) → (first ≡ false → e ≢ 45) → run (inside p m) (e ∷ t ∷ ts) ≡ run (inside (phase.Element e) k) (t ∷ ts)
  opening first p m k e t ts h x c = elim (same_or_not e 91) [
    | inl a ↦ (let g : phase_step negated m p e ≡ listing.More (record { negated = negated; marks = k; phase = phase.Inner }) =
        h ∙ ap (begin_item first negated k) a in
        goes p phase.Inner m k e (t ∷ ts) g ∙ (inner k t ts (x.marks a) ∙ ap (λ b. run (inside (phase.Element b) k) (t ∷ ts)) (sym a)))
    | inr b ↦ goes p (phase.Element e) m k e (t ∷ ts) (h ∙ begin_element first k e x.printable x.closes b c)
  ]

  -- the end of a range
  ranged : (e f : ℕ) (m : List Bool) (t : ℕ) (ts : List ℕ) → Element false f (t ∷ ts) → e ≤ f
      → run (inside (phase.Dash e) m) (f ∷ t ∷ ts) ≡ run (inside phase.Next (marked (range e f) m)) (t ∷ ts)
  ranged e f m t ts x l = elim (same_or_not f 91) [
    | inl a ↦ (let g = dash_inner e f m x l a in
        goes (phase.Dash e) (phase.RangeInner e) m m f (t ∷ ts) g ∙ (range_inner e m t ts (x.marks a)
        ∙ ap (λ b. run (inside phase.Next (marked (range e b) m)) (t ∷ ts)) (sym a)))
    | inr b ↦ goes (phase.Dash e) phase.Next m (marked (range e f) m) f (t ∷ ts) (dash_other e f m x l b)
  ]
    where
      dash_inner : (e f : ℕ) (m : List Bool) → Element false f (t ∷ ts) → e ≤ f → f ≡ 91
          → phase_step negated m (phase.Dash e) f ≡ listing.More (record { negated = negated; marks = m; phase = phase.RangeInner e })
      dash_inner e f m x l a =
          let y = other_byte f 93 (x.closes refl) in
          let z = not_less f e l in
          let k : (f == 91) ≡ true = rw a refl in
          rw (y, x.printable, z, k) refl

      dash_other : (e f : ℕ) (m : List Bool) → Element false f (t ∷ ts) → e ≤ f → f ≢ 91
          → phase_step negated m (phase.Dash e) f ≡ listing.More (record { negated = negated; marks = marked (range e f) m; phase = phase.Next })
      dash_other e f m x l a =
          let y = other_byte f 93 (x.closes refl) in
          let z = not_less f e l in
          let k = other_byte f 91 a in
          rw (y, x.printable, z, k) refl

  -- a class after its `[`
  named : (c : Class) (m : List Bool) (ts : List ℕ)
      → run (inside phase.Inner m) (58 ∷ (name_of c ++ 58 ∷ 93 ∷ ts))
      ≡ run (inside phase.Next (marked (members c) m)) ts
  unfolding step inside
  named class.Alnum m ts = refl
  named class.Alpha m ts = refl
  named class.Blank m ts = refl
  named class.Cntrl m ts = refl
  named class.Digit m ts = refl
  named class.Graph m ts = refl
  named class.Lower m ts = refl
  named class.Print m ts = refl
  named class.Punct m ts = refl
  named class.Space m ts = refl
  named class.Upper m ts = refl
  named class.Xdigit m ts = refl

  -- an item from a phase at which it may begin
  pub item_goes : (first : Bool) (p : Phase) (m k : List Bool) (i : Item) (t : ℕ) (ts : List ℕ)
      → phase_step negated m p (head i) ≡ begin_item first negated k (head i)
      → is_item first i (t ∷ ts) ≡ true → (first ≡ false → head i ≢ 45)
      → (q : Phase) × (x : List Bool) × Follows q x (marked i k) × (run (inside p m) (spelled i ++ t ∷ ts) ≡ run (inside q x) (t ∷ ts))
  unfolding head
  item_goes first p m k (single e) t ts h v c =
      let a = both (is_element first e (t ∷ ts) && not (goes_on_as_range (t ∷ ts))) (first || not (e == 45) || begins (λ b. b == 93) (t ∷ ts)) v in
      let x = element first e (t ∷ ts) (both (is_element first e (t ∷ ts)) (not (goes_on_as_range (t ∷ ts))) a.0).0 in
      (phase.Element e, k, follows_element e k, opening first p m k e t ts h x c)
  item_goes first p m k (range e f) t ts h v c =
      let a = both (is_element first e (45 ∷ []) && (first || not (e == 45)) && is_element false f (t ∷ ts)) (nat_le e f) v in
      let b = both (is_element first e (45 ∷ []) && (first || not (e == 45))) (is_element false f (t ∷ ts)) a.0 in
      let x = element first e (45 ∷ []) (both (is_element first e (45 ∷ [])) (first || not (e == 45)) b.0).0 in
      let y = element false f (t ∷ ts) b.1 in
      let z : Element first e (45 ∷ f ∷ t ∷ ts) = record { printable = x.printable; closes = x.closes; marks = x.marks } in (
        phase.Next,
        marked (range e f) k,
        follows_next (marked (range e f) k),
        opening first p m k e 45 (f ∷ t ∷ ts) h z c ∙ (goes (phase.Element e) (phase.Dash e) k k 45 (f ∷ t ∷ ts) refl ∙ ranged e f k t ts y (at_most e f a.1)),
      )
  item_goes first p m k (members c) t ts h v d = (
    phase.Next,
    marked (members c) k,
    follows_next (marked (members c) k),
    goes p phase.Inner m k 91 (58 ∷ ((name_of c ++ 58 ∷ 93 ∷ []) ++ t ∷ ts)) (h ∙ inner_begins first k)
        ∙ (ap (λ w. run (inside phase.Inner k) (58 ∷ w)) (append_assoc (name_of c) (58 ∷ 93 ∷ []) (t ∷ ts)) ∙ named c k (t ∷ ts)),
  )

  -- an item, and what the machine answers after it
  item_runs : (first : Bool) (p : Phase) (m k : List Bool) (i : Item) (t : ℕ) (ts : List ℕ) (r : Result State Why)
      → phase_step negated m p (head i) ≡ begin_item first negated k (head i)
      → is_item first i (t ∷ ts) ≡ true → (first ≡ false → head i ≢ 45)
      → ((q : Phase) (x : List Bool) → Follows q x (marked i k) → run (inside q x) (t ∷ ts) ≡ r)
      → run (inside p m) (spelled i ++ t ∷ ts) ≡ r
  item_runs first p m k i t ts r h v c further =
      let g = item_goes first p m k i t ts h v c in
      g.3 ∙ further g.0 g.1 g.2

  -- items up to the closing
  runs_items : (is : List Item) (p : Phase) (m k : List Bool) → Follows p m k → are_items false is (93 ∷ []) ≡ true
      → run (inside p m) (body is ++ 93 ∷ []) ≡ done (marks_on is k)
  unfolding marks_on IsLast
  runs_items [] p m k f v = ends p m k 93 (f.other 93 close_head)
  runs_items (i ∷ is) p m k f v =
      let a = both (is_item false i (body is ++ 93 ∷ [])) (are_items false is (93 ∷ [])) v in
      ap (run (inside p m)) (append_assoc (spelled i) (body is) (93 ∷ []))
      ∙ later p m k f i is a.0 a.1 (λ q x g. runs_items is q x (marked i k) g a.1)
    where
      later : (p : Phase) (m k : List Bool) → Follows p m k → (i : Item) (is : List Item)
          → is_item false i (body is ++ 93 ∷ []) ≡ true → are_items false is (93 ∷ []) ≡ true
          → ((q : Phase) (x : List Bool) → Follows q x (marked i k) → run (inside q x) (body is ++ 93 ∷ []) ≡ done (marks_on is (marked i k)))
          → run (inside p m) (spelled i ++ (body is ++ 93 ∷ [])) ≡ done (marks_on is (marked i k))
      later p m k f i is v w further = elim (hyphen_or_not i is (body is ++ 93 ∷ []) refl v w) [
        | inl h ↦ (let P : List Item → Item → Type 0 = λ js j. run (inside p m) (spelled j ++ (body js ++ 93 ∷ [])) ≡ done (marks_on js (marked j k)) in
            subst (λ js. P js i) (sym h.1) (subst (λ j. P [] j) (sym h.0) f.hyphen))
        | inr h ↦ (let e = shape is in
            let Q : List ℕ → Type 0 = λ ts. is_item false i ts ≡ true
            → ((q : Phase) (x : List Bool) → Follows q x (marked i k) → run (inside q x) ts ≡ done (marks_on is (marked i k)))
            → run (inside p m) (spelled i ++ ts) ≡ done (marks_on is (marked i k)) in
            let q : Q (e.0 ∷ e.1) = λ y z. item_runs false p m k i e.0 e.1 (done (marks_on is (marked i k))) (f.other (head i) h) y (λ _. h) z in
            subst Q (sym e.2) q v further)
      ]

  -- the items of a bracket from its start
  pub runs_body : (is : List Item) (p : Phase) (m : List Bool) → (is ≡ [] → ⊥)
      → ((i : Item) (js : List Item) → is ≡ i ∷ js → phase_step negated m p (head i) ≡ begin_item true negated m (head i))
      → are_items true is (93 ∷ []) ≡ true → run (inside p m) (body is ++ 93 ∷ []) ≡ done (marks_on is m)
  unfolding marks_on
  runs_body [] p m some h v = absurd (some refl)
  runs_body (i ∷ is) p m some h v =
      let a = both (is_item true i (body is ++ 93 ∷ [])) (are_items false is (93 ∷ [])) v in
      let e = shape is in
      let Q : List ℕ → Type 0 = λ ts. is_item true i ts ≡ true
      → ((q : Phase) (x : List Bool) → Follows q x (marked i m) → run (inside q x) ts ≡ done (marks_on is (marked i m)))
      → run (inside p m) (spelled i ++ ts) ≡ done (marks_on is (marked i m)) in
      let q : Q (e.0 ∷ e.1) = λ y z. item_runs true p m m i e.0 e.1 (done (marks_on is (marked i m))) (h i is refl) y (λ x. absurd (cc)) z in
      ap (run (inside p m)) (append_assoc (spelled i) (body is) (93 ∷ []))
      ∙ subst Q (sym e.2) q a.0 (λ q x g. runs_items is q x (marked i m) g a.1)

pub not_circumflex : (i : Item) (js : List Item) → not (begins (λ b. b == 94) (body (i ∷ js))) ≡ true → (head i == 94) ≡ false
unfolding head
not_circumflex (single e) js h = is_not (e == 94) h
not_circumflex (range e f) js h = is_not (e == 94) h
not_circumflex (members c) js h = refl

pub first_step : (m : List Bool) (b : ℕ) → (b == 94) ≡ false → phase_step false m phase.Start b ≡ begin_item true false m b
first_step m b h = rw h refl

pub runs_bracket : (s : State) (w : List ℕ) (negated : Bool) (is : List Item) → s.mode ≡ mode.Plain → IsBracket w negated is
    → (marks : List Bool) × (run s w ≡ Ok (with_leaf (n.Set negated) marks true s)) × (listed_by marks ≡ listed is)
unfolding inside done
runs_bracket s w true is e h =
    let v = both (are_items true is (93 ∷ [])) true h.items in (
      marks_on is no_marks,
      ap (run s) h.text ∙ (run_one s (inside s false phase.Start no_marks) 91 (94 ∷ (body is ++ 93 ∷ [])) (step_plain_at s 91 e)
          ∙ (run_one (inside s false phase.Start no_marks) (inside s true phase.First no_marks) 94 (body is ++ 93 ∷ [])
          (step_inside s false phase.Start no_marks 94)
          ∙ runs_body s true is phase.First no_marks h.some (λ i js x. refl) v.0)),
      listed_marks is,
    )
runs_bracket s w false is e h =
    let v = both (are_items true is (93 ∷ [])) (not (begins (λ b. b == 94) (body is))) h.items in (
      marks_on is no_marks,
      ap (run s) h.text ∙ (run_one s (inside s false phase.Start no_marks) 91 (body is ++ 93 ∷ []) (step_plain_at s 91 e)
          ∙ runs_body s false is phase.Start no_marks h.some
          (λ i js x. first_step no_marks (head i) (not_circumflex i js (subst (λ ys. not (begins (λ b. b == 94) (body ys)) ≡ true) x v.1))) v.0),
      listed_marks is,
    )
