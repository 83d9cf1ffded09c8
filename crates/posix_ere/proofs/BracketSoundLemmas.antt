-- What the machine has read of a bracket.
use Rattle.std.proofs.Common.{ℕ, ◌≡◌, ◌≢◌, ◌+◌, ◌<◌, ◌≤◌, Bool, true, false, not, ◌&&◌, ◌||◌, ◌==◌, List, [], ◌∷◌, ◌++◌}
use Rattle.std.proofs.Common.{length, take, drop, refl, sym, ◌∙◌, ap, subst, arith, ◌⊎◌, inl, inr, Option, Some, None}
use Rattle.std.proofs.Common.{append_assoc, nat_lt}
use Rattle.std.specs.Prelude.{if◌then◌else◌}
use Rattle.std.proofs.lemmas.Bool.Decides.{nat_tests}
use Rattle.std.proofs.lemmas.List.{append-nil}
use Rattle.std.proofs.Math.Seq.{take-length}
use Rattle.posix_ere.specs.Ascii.{is_printable}
use Rattle.posix_ere.specs.Reasons.{InItems, IsUndecided}
use Rattle.posix_ere.specs.Bracket.{Item, name_of, spelled, body, sign, is_item, opens}
use Rattle.posix_ere.specs.Bracket.Item.{single, range, members}
use Rattle.posix_ere.specs.BracketMachine.{marked, phase_step, begin_item, list_step, element_step, named, next_class, at_phase, reason_at}
use Rattle.posix_ere.specs.Machine.{no_marks}
use Rattle.posix_ere.specs.declared.why.Why.{Why}
use Rattle.posix_ere.specs.declared.why.Why.TheVariants as w
use Rattle.posix_ere.specs.declared.class.Class.{Class}
use Rattle.posix_ere.specs.declared.class.Class.TheVariants as class
use Rattle.posix_ere.specs.declared.bracket.Bracket.{Bracket}
use Rattle.posix_ere.specs.declared.bracket.Phase.{Phase}
use Rattle.posix_ere.specs.declared.bracket.Phase.TheVariants as phase
use Rattle.posix_ere.specs.BracketMachine.{Listing}
use Rattle.posix_ere.specs.BracketMachine.{Listing as listing}
use Rattle.posix_ere.proofs.IntervalRunsLemmas.{both}
use Rattle.posix_ere.proofs.ClassNamesLemmas.{next_letter, name_short}
use Rattle.posix_ere.proofs.BracketRunsLemmas.{marks_on, head, is_not, same_byte, not_same}
pub use Rattle.posix_ere.proofs.BracketItemLemmas.{tail, Listed, last_item}
use Rattle.posix_ere.proofs.BracketItemLemmas.{fresh, Opener, PhaseFits, opens_more, kept, emitted, Closed}
use Rattle.posix_ere.proofs.BracketItemLemmas.{not_fresh, closed_next, closed_item, not_is, opener_single, opener_range}
use Rattle.posix_ere.proofs.BracketItemLemmas.{goes_not, range_end, closed_two, below_len, name_again, some_left}
use Rattle.posix_ere.proofs.BracketItemLemmas.{or_true, bracket_opener}

-- the item that was begun
pub record Begun (negated : Bool) (is : List Item) (y : List ℕ) : Type 0 where
  pub item : Item
  pub rest : List ℕ
  pub spells : spelled item ≡ y ++ rest
  pub stands : opens negated (is ++ item ∷ []) (93 ∷ []) ≡ true
  pub left : rest ≡ [] → IsUndecided y

begun : (negated : Bool) (is : List Item) (y : List ℕ) (i : Item) (r : List ℕ) → ((x : List ℕ) → opens negated is (y ++ x) ≡ true) → spelled i ≡ y ++ r
    → is_item (fresh is) i (93 ∷ []) ≡ true → (fresh is ≡ true → (negated || not (head i == 94)) ≡ true) → (r ≡ [] → IsUndecided y) → Begun negated is y
begun negated is y i r h e v g u = record {
  item = i;
  rest = r;
  spells = e;
  stands = opens_more negated is i (93 ∷ [])
      (ap (opens negated is) (ap (λ x. x ++ 93 ∷ []) e ∙ append_assoc y r (93 ∷ [])) ∙ h (r ++ 93 ∷ [])) v g;
  left = u;
}

most_printable : (e : ℕ) → is_printable e ≡ true → e ≤ 126
most_printable e h = grind (arith, nat_tests)

letter_item : (first : Bool) → is_item first (single 97) (93 ∷ []) ≡ true
letter_item true = refl
letter_item false = refl

letter_begun : (negated : Bool) (is : List Item) → ((x : List ℕ) → opens negated is x ≡ true) → Begun negated is []
unfolding head
letter_begun negated is h = begun negated is [] (single 97) (97 ∷ []) h refl (letter_item (fresh is)) (λ f. or_true negated) (λ e. absurd (cc))

pub tail_begun : (negated : Bool) (is : List Item) (p : Phase) → ((x : List ℕ) → opens negated is (tail p ++ x) ≡ true) → PhaseFits negated (fresh is) p
    → Begun negated is (tail p)
unfolding head
tail_begun negated is phase.Start h f = letter_begun negated is h
tail_begun negated is phase.First h f = letter_begun negated is h
tail_begun negated is phase.Next h f = letter_begun negated is h
tail_begun negated is (phase.Element e) h f =
    begun negated is (e ∷ []) (range e 126) (45 ∷ 126 ∷ []) h refl
    (opener_range negated (fresh is) e 126 (93 ∷ []) f.0 refl (most_printable e f.0.printable)) f.0.circumflex (λ x. absurd (cc))
tail_begun negated is (phase.Dash e) h f =
    begun negated is (e ∷ 45 ∷ []) (range e 126) (126 ∷ []) h refl
    (opener_range negated (fresh is) e 126 (93 ∷ []) f refl (most_printable e f.printable)) f.circumflex (λ x. absurd (cc))
tail_begun negated is phase.Inner h f =
    let o = bracket_opener negated (fresh is) in
    begun negated is (91 ∷ []) (range 91 126) (45 ∷ 126 ∷ []) h refl
    (opener_range negated (fresh is) 91 126 (93 ∷ []) o refl (omega arith)) o.circumflex (λ x. absurd (cc))
tail_begun negated is (phase.RangeInner e) h f =
    begun negated is (e ∷ 45 ∷ 91 ∷ []) (range e 91) [] h refl
    (opener_range negated (fresh is) e 91 (93 ∷ []) f.0 refl f.1) f.0.circumflex (λ x. inr (e, refl))
tail_begun negated is phase.Last h f =
    begun negated is (45 ∷ []) (single 45) [] h refl (ap (λ x. is_item x (single 45) (93 ∷ [])) f)
    (λ x. absurd (let g : true ≡ false = sym x ∙ f in cc)) (λ x. inl refl)
tail_begun negated is (phase.ClassName c k) h f =
    begun negated is (91 ∷ 58 ∷ take k (name_of c)) (members c) (drop k (name_of c) ++ 58 ∷ 93 ∷ []) h (ap (λ x. 91 ∷ 58 ∷ x) (name_again c k)) refl
    (λ x. or_true negated) (λ x. absurd (some_left (drop k (name_of c)) 58 (93 ∷ []) x))
tail_begun negated is (phase.ClassEnd c) h f =
    begun negated is (91 ∷ 58 ∷ (name_of c ++ 58 ∷ [])) (members c) (93 ∷ []) h
    (ap (λ x. 91 ∷ 58 ∷ x) (sym (append_assoc (name_of c) (58 ∷ []) (93 ∷ [])))) refl (λ x. or_true negated) (λ x. absurd (cc))

abbrev pub part_of : (z : List ℕ) (negated : Bool) (marks : List Bool) (p : Phase) → Listed z negated marks p → InItems z (tail p)
part_of z negated marks p l =
    let b = tail_begun negated l.is p l.items l.fits in
    record {
      negated = negated;
      is = l.is;
      text = l.text;
      items = l.items;
      begun = b.item;
      rest = b.rest;
      spells = b.spells;
      stands = b.stands;
      left = b.left;
    }

-- inside a class name or its closing
abbrev pub ClassWhy : List ℕ → Type 0
ClassWhy z = (c : Class) × (x : List ℕ) × (r : List ℕ) × (name_of c ++ 58 ∷ 93 ∷ [] ≡ x ++ r) × (r ≡ [] → ⊥) × InItems z (91 ∷ 58 ∷ x)

-- why a byte is refused after this text of a bracket
abbrev pub BracketWhy : List ℕ → ℕ → Why → Type 0
BracketWhy z b w.NotAscii = is_printable b ≡ false
BracketWhy z b w.Collating =
    (is_printable b ≡ true) × ((b == 46 || b == 61) ≡ true) × (InItems z (91 ∷ []) ⊎ ((e : ℕ) × InItems z (e ∷ 45 ∷ 91 ∷ [])))
BracketWhy z b w.BadClass = (is_printable b ≡ true) × ClassWhy z
BracketWhy z b w.BadRange =
    (is_printable b ≡ true) × (b ≢ 93) × (((e : ℕ) × (b < e) × InItems z (e ∷ 45 ∷ []))
    ⊎ (((e : ℕ) × (b ≡ 58) × InItems z (e ∷ 45 ∷ 91 ∷ [])) ⊎ ((h : InItems z (45 ∷ [])) × (h.is ≡ [] → ⊥))))
BracketWhy z b _ = ⊥

mark_printable : (b : ℕ) → (b == 46 || b == 61) ≡ true → is_printable b ≡ true
mark_printable b h = either_byte (or_cases (b == 46) (b == 61) h)
  where
    or_cases : (p q : Bool) → (p || q) ≡ true → (p ≡ true) ⊎ (q ≡ true)
    or_cases true q h = inl refl
    or_cases false q h = inr h

    either_byte : ((b == 46) ≡ true) ⊎ ((b == 61) ≡ true) → is_printable b ≡ true
    either_byte (inl e) = subst (λ x. is_printable x ≡ true) (sym (same_byte b 46 e)) refl
    either_byte (inr e) = subst (λ x. is_printable x ≡ true) (sym (same_byte b 61 e)) refl

fault_class : (z : List ℕ) (b : ℕ) (t : Bool) → is_printable b ≡ t → ClassWhy z → BracketWhy z b (if t then w.BadClass else w.NotAscii)
fault_class z b true h c = (h, c)
fault_class z b false h c = h

no_closing : (b : ℕ) → b ≡ 58 → b ≢ 93
no_closing b e h = let f : ◌≡◌ {A = ℕ} 58 93 = sym e ∙ h in absurd (omega arith)

-- what one more byte makes of a bracket
abbrev pub Outcome : List ℕ → ℕ → Listing → Type 0
Outcome z b (listing.More k) = Listed (z ++ b ∷ []) k.negated k.marks k.phase
Outcome z b (listing.Done negated marks) = Closed z b negated marks
Outcome z b (listing.Broken why) = BracketWhy z b why

close_bracket : ◌≢◌ {A = ℕ} 93 91
close_bracket e = absurd (omega arith)

hyphen_not : (b : ℕ) (first : Bool) → (b == 45 && not first) ≡ false → first ≡ false → b ≢ 45
hyphen_not b true h x = absurd (cc)
hyphen_not b false h x = not_same b 45 (left_false (b == 45) h)
  where
    left_false : (v : Bool) → (v && true) ≡ false → v ≡ false
    left_false true h = h
    left_false false h = refl

-- a byte with which an item may begin
record Ready (z : List ℕ) (b : ℕ) (negated : Bool) (marks : List Bool) (first : Bool) : Type 0 where
  go : (q : Phase) → tail q ≡ b ∷ [] → PhaseFits negated first q → Listed (z ++ b ∷ []) negated marks q
  close : first ≡ false → b ≡ 93 → Closed z b negated marks
  circumflex : first ≡ true → (negated || not (b == 94)) ≡ true

begin_closes : (z : List ℕ) (b : ℕ) (negated : Bool) (marks : List Bool) (first : Bool) → Ready z b negated marks first → b ≡ 93
    → Outcome z b (if first then at_phase negated marks (phase.Element b) else listing.Done negated marks)
begin_closes z b negated marks true r e =
    r.go (phase.Element b) refl (
      record {
        printable = subst (λ x. is_printable x ≡ true) (sym e) refl;
        closes = λ x. absurd (cc);
        hyphen = λ x. absurd (cc);
        circumflex = λ x. r.circumflex refl;
      },
      λ x. close_bracket (sym e ∙ x),
    )
begin_closes z b negated marks false r e = r.close refl e

begin_plain : (z : List ℕ) (b : ℕ) (negated : Bool) (marks : List Bool) (first : Bool) (x p : Bool) → Ready z b negated marks first
    → (b == 93) ≡ false → (b == 91) ≡ false → (b == 45 && not first) ≡ x → is_printable b ≡ p
    → Outcome z b (if x then at_phase negated marks phase.Last else (if p then at_phase negated marks (phase.Element b) else listing.Broken w.NotAscii))
begin_plain z b negated marks first true p r c d h v =
    let q = both (b == 45) (not first) h in
    r.go phase.Last (ap (λ y. y ∷ []) (sym (same_byte b 45 q.0))) (is_not first q.1)
begin_plain z b negated marks first false true r c d h v =
    r.go (phase.Element b) refl (
      record {
        printable = v;
        closes = λ x. not_same b 93 c;
        hyphen = λ x. hyphen_not b first h x;
        circumflex = r.circumflex;
      },
      not_same b 91 d,
    )
begin_plain z b negated marks first false false r c d h v = v

begin_sound : (z : List ℕ) (b : ℕ) (negated : Bool) (marks : List Bool) (first : Bool) (c d : Bool) → Ready z b negated marks first
    → (b == 93) ≡ c → (b == 91) ≡ d
    → Outcome z b (if c then (if first then at_phase negated marks (phase.Element b) else listing.Done negated marks)
    else (if d then at_phase negated marks phase.Inner
    else (if b == 45 && not first then at_phase negated marks phase.Last
    else (if is_printable b then at_phase negated marks (phase.Element b) else listing.Broken w.NotAscii))))
begin_sound z b negated marks first true d r e f = begin_closes z b negated marks first r (same_byte b 93 e)
begin_sound z b negated marks first false true r e f = r.go phase.Inner (ap (λ y. y ∷ []) (sym (same_byte b 91 f))) tt
begin_sound z b negated marks first false false r e f = begin_plain z b negated marks first (b == 45 && not first) (is_printable b) r e f refl refl

-- nothing is pending: an item may begin
ready_kept : (z : List ℕ) (b : ℕ) (negated : Bool) (marks : List Bool) (p : Phase) (first : Bool)
    (l : Listed z negated marks p) → tail p ≡ [] → fresh l.is ≡ first
    → (first ≡ false → b ≡ 93 → Closed z b negated marks) → (first ≡ true → (negated || not (b == 94)) ≡ true) → Ready z b negated marks first
ready_kept z b negated marks p first l t f c g = record {
  go = λ q e h. kept z negated marks p q b l (ap (λ x. x ++ b ∷ []) t ∙ sym e) (subst (λ x. PhaseFits negated x q) (sym f) h);
  close = c;
  circumflex = g;
}

-- an item ends where another begins
ready_emitted : (z : List ℕ) (b : ℕ) (negated : Bool) (marks : List Bool) (p : Phase) (i : Item) (l : Listed z negated marks p) → tail p ≡ spelled i
    → ((r : List ℕ) → is_item (fresh l.is) i (b ∷ r) ≡ true) → (b ≡ 93 → is_item (fresh l.is) i (93 ∷ []) ≡ true)
    → (fresh l.is ≡ true → (negated || not (head i == 94)) ≡ true) → Ready z b negated (marked i marks) false
ready_emitted z b negated marks p i l t v c g = record {
  go = λ q e h. emitted z negated marks p q b i l (ap (λ x. x ++ b ∷ []) t ∙ ap (λ x. spelled i ++ x) (sym e))
      (λ r. ap (λ x. is_item (fresh l.is) i (x ++ r)) e ∙ v r) g h;
  close = λ f e. closed_item z b negated marks p i l e t (c e) g;
  circumflex = λ f. absurd (cc);
}

or_right : (p q : Bool) → q ≡ true → (p || q) ≡ true
or_right true q h = refl
or_right false q h = h

start_sound : (z : List ℕ) (b : ℕ) (negated : Bool) (marks : List Bool) (x : Bool) → Listed z negated marks phase.Start → (b == 94) ≡ x
    → Outcome z b (if x then at_phase true marks phase.First else begin_item true negated marks b)
start_sound z b negated marks true l h = started z b negated marks l.is l.text l.marks_are l.fits (same_byte b 94 h)
  where
    started : (z : List ℕ) (b : ℕ) (negated : Bool) (marks : List Bool) (is : List Item) → z ≡ sign negated ++ (body is ++ []) → marks ≡ marks_on is no_marks
        → (fresh is ≡ true) × (negated ≡ false) → b ≡ 94 → Listed (z ++ b ∷ []) true marks phase.First
    started z b negated marks [] t m (f, g) h = record {
      is = [];
      text = ap (λ x. x ++ b ∷ []) (t ∙ ap (λ x. sign x ++ []) g) ∙ ap (λ x. x ∷ []) h;
      marks_are = m;
      items = λ r. refl;
      fits = (refl, refl);
    }
    started z b negated marks (i ∷ is) t m (f, g) h = absurd (cc)
start_sound z b negated marks false l h =
    begin_sound z b negated marks true (b == 93) (b == 91)
    (ready_kept z b negated marks phase.Start true l refl l.fits.0 (λ f. absurd (cc)) (λ f. or_right negated (not (b == 94)) (not_is (b == 94) h))) refl refl

-- an element that ends, or begins a range
element_sound : (z : List ℕ) (b : ℕ) (negated : Bool) (marks : List Bool) (p : Phase) (e : ℕ) (l : Listed z negated marks p) (x : Bool) → tail p ≡ e ∷ []
    → Opener negated (fresh l.is) e → (e ≡ 91 → (b == 46 || b == 61 || b == 58) ≡ false) → (b == 45) ≡ x
    → Outcome z b (if x then at_phase negated marks (phase.Dash e) else begin_item false negated (marked (single e) marks) b)
unfolding head
element_sound z b negated marks p e l true t o m h =
    kept z negated marks p (phase.Dash e) b l (ap (λ y. y ++ b ∷ []) t ∙ ap (λ y. e ∷ y ∷ []) (same_byte b 45 h)) o
element_sound z b negated marks p e l false t o m h =
    begin_sound z b negated (marked (single e) marks) false (b == 93) (b == 91)
    (ready_emitted z b negated marks p (single e) l t
    (λ r. opener_single negated (fresh l.is) e (b ∷ r) o m (goes_not b r (not_same b 45 h)))
    (λ y. opener_single negated (fresh l.is) e (93 ∷ []) o (λ k. refl) refl) o.circumflex) refl refl

not_less_than : (a b : ℕ) → nat_lt a b ≡ false → b ≤ a
not_less_than a b h = grind (arith, nat_tests)

dash_sound : (z : List ℕ) (b : ℕ) (negated : Bool) (marks : List Bool) (e : ℕ) (l : Listed z negated marks (phase.Dash e)) (c p s d : Bool)
    → (b == 93) ≡ c → is_printable b ≡ p → nat_lt b e ≡ s → (b == 91) ≡ d
    → Outcome z b (if c then listing.Done negated (marked (single 45) (marked (single e) marks))
    else (if not p then listing.Broken w.NotAscii
    else (if s then listing.Broken w.BadRange
    else (if d then at_phase negated marks (phase.RangeInner e)
    else at_phase negated (marked (range e b) marks) phase.Next))))
unfolding head
dash_sound z b negated marks e l true p s d f g h i = closed_two z b negated marks e l (same_byte b 93 f)
dash_sound z b negated marks e l false false s d f g h i = g
dash_sound z b negated marks e l false true true d f g h i =
    (g, not_same b 93 f, inl (e, below_len b e h, part_of z negated marks (phase.Dash e) l))
dash_sound z b negated marks e l false true false true f g h i =
    let n = same_byte b 91 i in
    let k : e ≤ 91 = subst (λ x. e ≤ x) n (not_less_than b e h) in
    kept z negated marks (phase.Dash e) (phase.RangeInner e) b l (ap (λ y. e ∷ 45 ∷ y ∷ []) n) (l.fits, k)
dash_sound z b negated marks e l false true false false f g h i =
    emitted z negated marks (phase.Dash e) phase.Next b (range e b) l refl
    (λ r. opener_range negated (fresh l.is) e b r l.fits (range_end b r g (not_same b 93 f) (λ x. absurd (not_same b 91 i x))) (not_less_than b e h))
    l.fits.circumflex refl

inner_sound : (z : List ℕ) (b : ℕ) (negated : Bool) (marks : List Bool) (l : Listed z negated marks phase.Inner) (m c : Bool)
    → (b == 46 || b == 61) ≡ m → (b == 58) ≡ c
    → Outcome z b (if m then listing.Broken w.Collating else
    (if c then at_phase negated marks (phase.ClassName class.Alnum 0) else element_step 91 negated marks b))
inner_sound z b negated marks l true c f g = (mark_printable b f, f, inl (part_of z negated marks phase.Inner l))
inner_sound z b negated marks l false true f g =
    kept z negated marks phase.Inner (phase.ClassName class.Alnum 0) b l (ap (λ y. 91 ∷ y ∷ []) (same_byte b 58 g)) (omega arith, omega arith)
inner_sound z b negated marks l false false f g =
    element_sound z b negated marks phase.Inner 91 l (b == 45) refl (bracket_opener negated (fresh l.is)) (λ x. neither (b == 46 || b == 61) (b == 58) f g) refl
  where
    neither : (p q : Bool) → p ≡ false → q ≡ false → (p || q) ≡ false
    neither p q h k = rw h k

range_inner_sound : (z : List ℕ) (b : ℕ) (negated : Bool) (marks : List Bool) (e : ℕ) (l : Listed z negated marks (phase.RangeInner e)) (m c : Bool)
    → (b == 46 || b == 61) ≡ m → (b == 58) ≡ c
    → Outcome z b (if m then listing.Broken w.Collating else (if c then listing.Broken w.BadRange else begin_item false negated (marked (range e 91) marks) b))
unfolding head
range_inner_sound z b negated marks e l true c f g = (mark_printable b f, f, inr (e, part_of z negated marks (phase.RangeInner e) l))
range_inner_sound z b negated marks e l false true f g =
    let x = same_byte b 58 g in
    (subst (λ y. is_printable y ≡ true) (sym x) refl, no_closing b x, inr (inl (e, x, part_of z negated marks (phase.RangeInner e) l)))
range_inner_sound z b negated marks e l false false f g =
    let k : (b == 46 || b == 61 || b == 58) ≡ false = rw (f, g) refl in
    begin_sound z b negated (marked (range e 91) marks) false (b == 93) (b == 91)
    (ready_emitted z b negated marks (phase.RangeInner e) (range e 91) l refl
    (λ r. opener_range negated (fresh l.is) e 91 (b ∷ r) l.fits.0 (range_end 91 (b ∷ r) refl (λ x. close_bracket (sym x)) (λ x. k)) l.fits.1)
    (λ y. opener_range negated (fresh l.is) e 91 (93 ∷ []) l.fits.0 refl l.fits.1) l.fits.0.circumflex) refl refl

last_sound : (z : List ℕ) (b : ℕ) (negated : Bool) (marks : List Bool) (l : Listed z negated marks phase.Last) (c p : Bool) → (b == 93) ≡ c → is_printable b ≡ p
    → Outcome z b (if c then listing.Done negated (marked (single 45) marks) else listing.Broken (if p then w.BadRange else w.NotAscii))
last_sound z b negated marks l true p h v =
    closed_item z b negated marks phase.Last (single 45) l (same_byte b 93 h) refl
    (ap (λ f. is_item f (single 45) (93 ∷ [])) l.fits) (λ f. absurd (let g : true ≡ false = sym f ∙ l.fits in cc))
last_sound z b negated marks l false true h v =
    (v, not_same b 93 h, inr (inr (part_of z negated marks phase.Last l, λ x. not_fresh l.is x l.fits)))
last_sound z b negated marks l false false h v = v

class_name_why : (z : List ℕ) (negated : Bool) (marks : List Bool) (c : Class) (k : ℕ) → Listed z negated marks (phase.ClassName c k) → ClassWhy z
class_name_why z negated marks c k l = (
  c,
  take k (name_of c),
  drop k (name_of c)
      ++ 58 ∷ 93 ∷ [],
  name_again c k,
  some_left (drop k (name_of c)) 58 (93 ∷ []),
  part_of z negated marks (phase.ClassName c k) l,
)

class_end_why : (z : List ℕ) (negated : Bool) (marks : List Bool) (c : Class) → Listed z negated marks (phase.ClassEnd c) → ClassWhy z
class_end_why z negated marks c l =
    (c, name_of c ++ 58 ∷ [], 93 ∷ [], sym (append_assoc (name_of c) (58 ∷ []) (93 ∷ [])), some_left [] 93 [], part_of z negated marks (phase.ClassEnd c) l)

named_sound : (z : List ℕ) (b : ℕ) (negated : Bool) (marks : List Bool) (p : Phase) (l : Listed z negated marks p) (k : ℕ) (r : Option Class) → ClassWhy z
    → ((d : Class) → r ≡ Some d → (tail p ++ b ∷ [] ≡ 91 ∷ 58 ∷ take k (name_of d)) × (k ≤ length (name_of d)) × (length (name_of d) ≤ k + 5))
    → Outcome z b (named negated marks k b r)
named_sound z b negated marks p l k (Some d) y h = let g = h d refl in kept z negated marks p (phase.ClassName d k) b l g.0 (g.1, g.2)
named_sound z b negated marks p l k None y h = fault_class z b (is_printable b) refl y

class_sound : (z : List ℕ) (b : ℕ) (negated : Bool) (marks : List Bool) (c : Class) (k : ℕ) (l : Listed z negated marks (phase.ClassName c k)) (t : Bool)
    → (b == 58 && k == length (name_of c)) ≡ t
    → Outcome z b (if t then at_phase negated marks (phase.ClassEnd c) else named negated marks (k + 1) b (next_class c k b))
class_sound z b negated marks c k l true h =
    let q = both (b == 58) (k == length (name_of c)) h in
    let n : take k (name_of c) ≡ name_of c = ap (λ x. take x (name_of c)) (same_byte k (length (name_of c)) q.1) ∙ take-length (name_of c) in
    kept z negated marks (phase.ClassName c k) (phase.ClassEnd c) b l
    (ap (λ x. 91 ∷ 58 ∷ (x ++ b ∷ [])) n ∙ ap (λ x. 91 ∷ 58 ∷ (name_of c ++ x ∷ [])) (same_byte b 58 q.0)) tt
class_sound z b negated marks c k l false h =
    named_sound z b negated marks (phase.ClassName c k) l (k + 1) (next_class c k b) (class_name_why z negated marks c k l)
    (λ d e. let x = next_letter c k b d e in (ap (λ y. 91 ∷ 58 ∷ y) x.is_next, x.fits, omega (arith, name_short d)))

class_end_sound : (z : List ℕ) (b : ℕ) (negated : Bool) (marks : List Bool) (c : Class)
    (l : Listed z negated marks (phase.ClassEnd c)) (t : Bool) → (b == 93) ≡ t
    → Outcome z b (if t then at_phase negated (marked (members c) marks) phase.Next else listing.Broken (reason_at b w.BadClass))
unfolding head
class_end_sound z b negated marks c l true h =
    emitted z negated marks (phase.ClassEnd c) phase.Next b (members c) l
    (ap (λ x. 91 ∷ 58 ∷ x) (append_assoc (name_of c) (58 ∷ []) (b ∷ [])
    ∙ (ap (λ x. name_of c ++ 58 ∷ x ∷ []) (same_byte b 93 h) ∙ sym (append-nil (name_of c ++ 58 ∷ 93 ∷ [])))))
    (λ r. refl) (λ f. or_true negated) refl
  where
    or_true : (v : Bool) → (v || true) ≡ true
    or_true true = refl
    or_true false = refl
class_end_sound z b negated marks c l false h = fault_class z b (is_printable b) refl (class_end_why z negated marks c l)

phase_sound : (z : List ℕ) (b : ℕ) (negated : Bool) (marks : List Bool) (p : Phase) → Listed z negated marks p → Outcome z b (phase_step negated marks p b)
phase_sound z b negated marks phase.Start l = start_sound z b negated marks (b == 94) l refl
phase_sound z b negated marks phase.First l =
    begin_sound z b negated marks true (b == 93) (b == 91)
    (ready_kept z b negated marks phase.First true l refl l.fits.0 (λ f. absurd (cc)) (λ f. ap (λ v. v || not (b == 94)) l.fits.1)) refl refl
phase_sound z b negated marks phase.Next l =
    begin_sound z b negated marks false (b == 93) (b == 91)
    (ready_kept z b negated marks phase.Next false l refl l.fits (λ f e. closed_next z b negated marks l e) (λ f. absurd (cc))) refl refl
phase_sound z b negated marks (phase.Element e) l =
    element_sound z b negated marks (phase.Element e) e l (b == 45) refl l.fits.0 (λ x. absurd (l.fits.1 x)) refl
phase_sound z b negated marks (phase.Dash e) l = dash_sound z b negated marks e l (b == 93) (is_printable b) (nat_lt b e) (b == 91) refl refl refl refl
phase_sound z b negated marks phase.Inner l = inner_sound z b negated marks l (b == 46 || b == 61) (b == 58) refl refl
phase_sound z b negated marks (phase.RangeInner e) l = range_inner_sound z b negated marks e l (b == 46 || b == 61) (b == 58) refl refl
phase_sound z b negated marks phase.Last l = last_sound z b negated marks l (b == 93) (is_printable b) refl refl
phase_sound z b negated marks (phase.ClassName c k) l = class_sound z b negated marks c k l (b == 58 && k == length (name_of c)) refl
phase_sound z b negated marks (phase.ClassEnd c) l = class_end_sound z b negated marks c l (b == 93) refl

pub list_sound : (z : List ℕ) (b : ℕ) (k : Bracket) → Listed z k.negated k.marks k.phase → Outcome z b (list_step k b)
list_sound z b k l = phase_sound z b k.negated k.marks k.phase l
