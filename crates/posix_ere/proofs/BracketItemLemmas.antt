-- What the machine has read of a bracket.
use Rattle.std.proofs.Common.{ℕ, ◌≡◌, ◌≢◌, ◌+◌, ◌<◌, ◌≤◌, Bool, true, false, not, ◌&&◌, ◌||◌, ◌==◌, List, [], ◌∷◌, ◌++◌}
use Rattle.std.proofs.Common.{length, take, drop, refl, sym, ◌∙◌, ap, subst, arith, ◌⊎◌, inl, inr}
use Rattle.std.proofs.Common.{append_assoc, nat_le, nat_lt}
use Rattle.std.proofs.lemmas.Bool.Decides.{nat_tests}
use Rattle.std.proofs.lemmas.List.{append-nil}
use Rattle.posix_ere.specs.Ascii.{is_printable}
use Rattle.std.proofs.lemmas.List.{take-append-drop}
use Rattle.posix_ere.specs.Bracket.{Item, IsBracket, name_of, spelled, body, sign, begins, goes_on_as_range, is_element, is_item, are_items, opens}
use Rattle.posix_ere.specs.Bracket.Item.{single, range, members}
use Rattle.posix_ere.specs.BracketMachine.{marked}
use Rattle.posix_ere.specs.Machine.{no_marks}
use Rattle.posix_ere.specs.declared.class.Class.{Class}
use Rattle.posix_ere.specs.declared.bracket.Phase.{Phase}
use Rattle.posix_ere.specs.declared.bracket.Phase.TheVariants as phase
use Rattle.posix_ere.proofs.IntervalRunsLemmas.{both}
use Rattle.posix_ere.proofs.BracketRunsLemmas.{marks_on, head, other_byte, same_or_not, class_head}

-- whether no item was read yet
abbrev pub fresh : List Item → Bool
fresh [] = true
fresh (i ∷ is) = false

-- what was read after the last whole item
abbrev pub tail : Phase → List ℕ
tail phase.Start = []
tail phase.First = []
tail phase.Next = []
tail (phase.Element e) = e ∷ []
tail (phase.Dash e) = e ∷ 45 ∷ []
tail phase.Inner = 91 ∷ []
tail (phase.RangeInner e) = e ∷ 45 ∷ 91 ∷ []
tail phase.Last = 45 ∷ []
tail (phase.ClassName c k) = 91 ∷ 58 ∷ take k (name_of c)
tail (phase.ClassEnd c) = 91 ∷ 58 ∷ (name_of c ++ 58 ∷ [])

-- an element that may begin a range
pub record Opener (negated : Bool) (first : Bool) (e : ℕ) : Type 0 where
  pub printable : is_printable e ≡ true
  pub closes : first ≡ false → e ≢ 93
  pub hyphen : first ≡ false → e ≢ 45
  pub circumflex : first ≡ true → (negated || not (e == 94)) ≡ true

abbrev pub PhaseFits : Bool → Bool → Phase → Type 0
PhaseFits negated first phase.Start = (first ≡ true) × (negated ≡ false)
PhaseFits negated first phase.First = (first ≡ true) × (negated ≡ true)
PhaseFits negated first phase.Next = first ≡ false
PhaseFits negated first (phase.Element e) = Opener negated first e × (e ≢ 91)
PhaseFits negated first (phase.Dash e) = Opener negated first e
PhaseFits negated first phase.Inner = Unit {0}
PhaseFits negated first (phase.RangeInner e) = Opener negated first e × (e ≤ 91)
PhaseFits negated first phase.Last = first ≡ false
PhaseFits negated first (phase.ClassName c k) = (k ≤ length (name_of c)) × (length (name_of c) ≤ k + 5)
PhaseFits negated first (phase.ClassEnd c) = Unit {0}

pub record Listed (z : List ℕ) (negated : Bool) (marks : List Bool) (p : Phase) : Type 0 where
  pub is : List Item
  pub text : z ≡ sign negated ++ (body is ++ tail p)
  pub marks_are : marks ≡ marks_on is no_marks
  pub items : (r : List ℕ) → opens negated is (tail p ++ r) ≡ true
  pub fits : PhaseFits negated (fresh is) p

-- one more item at the end
pub marks_on-more : (is : List Item) (i : Item) (m : List Bool) → marks_on (is ++ i ∷ []) m ≡ marked i (marks_on is m)
unfolding marks_on
marks_on-more [] i m = refl
marks_on-more (j ∷ is) i m = marks_on-more is i (marked j m)

pub body-more : (is : List Item) (i : Item) (r : List ℕ) → body (is ++ i ∷ []) ++ r ≡ body is ++ (spelled i ++ r)
body-more [] i r = ap (λ x. x ++ r) (append-nil (spelled i))
body-more (j ∷ is) i r =
    append_assoc (spelled j) (body (is ++ i ∷ [])) r ∙ (ap (λ x. spelled j ++ x) (body-more is i r) ∙ sym (append_assoc (spelled j) (body is) (spelled i ++ r)))

pub and_true : (p q : Bool) → p ≡ true → q ≡ true → (p && q) ≡ true
and_true true q h g = g
and_true false q h g = absurd (cc)

pub items_more : (first : Bool) (is : List Item) (i : Item) (r : List ℕ) → are_items first is (spelled i ++ r) ≡ true → is_item (first && fresh is) i r ≡ true
    → are_items first (is ++ i ∷ []) r ≡ true
items_more true [] i r h v = and_true (is_item true i r) true v refl
items_more false [] i r h v = and_true (is_item false i r) true v refl
items_more first (j ∷ is) i r h v =
    let a = both (is_item first j (body is ++ (spelled i ++ r))) (are_items false is (spelled i ++ r)) h in
    let x : is_item first j (body (is ++ i ∷ []) ++ r) ≡ true = ap (is_item first j) (body-more is i r) ∙ a.0 in
    let y : is_item (false && fresh is) i r ≡ true = ap (λ f. is_item f i r) (not_first first) ∙ v in
    and_true (is_item first j (body (is ++ i ∷ []) ++ r)) (are_items false (is ++ i ∷ []) r) x (items_more false is i r a.1 y)
  where
    not_first : (f : Bool) → false ≡ (f && false)
    not_first true = refl
    not_first false = refl

-- the last item may stand where it stands
pub last_item : (first : Bool) (is : List Item) (i : Item) (r : List ℕ) → are_items first (is ++ i ∷ []) r ≡ true → is_item (first && fresh is) i r ≡ true
last_item true [] i r h = (both (is_item true i r) true h).0
last_item false [] i r h = (both (is_item false i r) true h).0
last_item first (j ∷ is) i r h =
    let a = both (is_item first j (body (is ++ i ∷ []) ++ r)) (are_items false (is ++ i ∷ []) r) h in
    ap (λ f. is_item f i r) (not_first first) ∙ last_item false is i r a.1
  where
    not_first : (f : Bool) → (f && false) ≡ false
    not_first true = refl
    not_first false = refl

pub begins_append : (test : ℕ → Bool) (j : Item) (is : List Item) (i : Item) → begins test (body ((j ∷ is) ++ i ∷ [])) ≡ begins test (body (j ∷ is))
begins_append test (single e) is i = refl
begins_append test (range e f) is i = refl
begins_append test (members c) is i = refl

pub begins_head : (test : ℕ → Bool) (i : Item) → begins test (body (i ∷ [])) ≡ test (head i)
unfolding head
begins_head test (single e) = refl
begins_head test (range e f) = refl
begins_head test (members c) = refl

pub opens_more : (negated : Bool) (is : List Item) (i : Item) (r : List ℕ) → opens negated is (spelled i ++ r) ≡ true → is_item (fresh is) i r ≡ true
    → (fresh is ≡ true → (negated || not (head i == 94)) ≡ true) → opens negated (is ++ i ∷ []) r ≡ true
opens_more negated [] i r h v g =
    let a = both (are_items true [] (spelled i ++ r)) (negated || true) h in
    and_true (are_items true (i ∷ []) r) (negated || not (begins (λ b. b == 94) (body (i ∷ []))))
    (items_more true [] i r a.0 v) (ap (λ x. negated || not x) (begins_head (λ b. b == 94) i) ∙ g refl)
opens_more negated (j ∷ is) i r h v g =
    let a = both (are_items true (j ∷ is) (spelled i ++ r)) (negated || not (begins (λ b. b == 94) (body (j ∷ is)))) h in
    and_true (are_items true ((j ∷ is) ++ i ∷ []) r) (negated || not (begins (λ b. b == 94) (body ((j ∷ is) ++ i ∷ []))))
    (items_more true (j ∷ is) i r a.0 v) (ap (λ x. negated || not x) (begins_append (λ b. b == 94) j is i) ∙ a.1)

pub fresh_more : (is : List Item) (i : Item) → fresh (is ++ i ∷ []) ≡ false
fresh_more [] i = refl
fresh_more (j ∷ is) i = refl

pub some_more : (is : List Item) (i : Item) → is ++ i ∷ [] ≡ [] → ⊥
some_more [] i e = cc
some_more (j ∷ is) i e = cc

-- a byte that ends no item
pub kept : (z : List ℕ) (negated : Bool) (marks : List Bool) (p q : Phase) (b : ℕ) (l : Listed z negated marks p) → tail p ++ b ∷ [] ≡ tail q
    → PhaseFits negated (fresh l.is) q → Listed (z ++ b ∷ []) negated marks q
kept z negated marks p q b l e f = record {
  is = l.is;
  text = ap (λ x. x ++ b ∷ []) l.text ∙ (append_assoc (sign negated) (body l.is ++ tail p) (b ∷ [])
      ∙ ap (λ x. sign negated ++ x) (append_assoc (body l.is) (tail p) (b ∷ []) ∙ ap (λ x. body l.is ++ x) e));
  marks_are = l.marks_are;
  items = λ r. ap (opens negated l.is) (ap (λ x. x ++ r) (sym e) ∙ append_assoc (tail p) (b ∷ []) r) ∙ l.items (b ∷ r);
  fits = f;
}

-- a byte with which an item ends
pub emitted : (z : List ℕ) (negated : Bool) (marks : List Bool) (p q : Phase) (b : ℕ) (i : Item) (l : Listed z negated marks p)
    → tail p ++ b ∷ [] ≡ spelled i ++ tail q → ((r : List ℕ) → is_item (fresh l.is) i (tail q ++ r) ≡ true)
    → (fresh l.is ≡ true → (negated || not (head i == 94)) ≡ true) → PhaseFits negated false q → Listed (z ++ b ∷ []) negated (marked i marks) q
emitted z negated marks p q b i l e v g f = record {
  is = l.is ++ i ∷ [];
  text = ap (λ x. x ++ b ∷ []) l.text ∙ (append_assoc (sign negated) (body l.is ++ tail p) (b ∷ [])
      ∙ ap (λ x. sign negated ++ x) (append_assoc (body l.is) (tail p) (b ∷ []) ∙ (ap (λ x. body l.is ++ x) e ∙ sym (body-more l.is i (tail q)))));
  marks_are = ap (marked i) l.marks_are ∙ sym (marks_on-more l.is i no_marks);
  items = λ r. opens_more negated l.is i (tail q ++ r)
      (ap (opens negated l.is) (sym (append_assoc (spelled i) (tail q) r) ∙ (ap (λ x. x ++ r) (sym e) ∙ append_assoc (tail p) (b ∷ []) r)) ∙ l.items (b ∷ r))
      (v r) g;
  fits = subst (λ x. PhaseFits negated x q) (sym (fresh_more l.is i)) f;
}

-- a bracket that is closed
pub record Closed (z : List ℕ) (b : ℕ) (negated : Bool) (marks : List Bool) : Type 0 where
  pub byte : b ≡ 93
  pub is : List Item
  pub marks_are : marks ≡ marks_on is no_marks
  pub bracket : IsBracket (91 ∷ (z ++ 93 ∷ [])) negated is

pub not_fresh : (is : List Item) → is ≡ [] → fresh is ≡ false → ⊥
not_fresh is h f = let g : true ≡ false = sym (ap fresh h) ∙ f in cc

pub closed_next : (z : List ℕ) (b : ℕ) (negated : Bool) (marks : List Bool) → Listed z negated marks phase.Next → b ≡ 93 → Closed z b negated marks
closed_next z b negated marks l e = record {
  byte = e;
  is = l.is;
  marks_are = l.marks_are;
  bracket = record {
    text = ap (λ x. 91 ∷ (x ++ 93 ∷ [])) (l.text ∙ ap (λ x. sign negated ++ x) (append-nil (body l.is)))
        ∙ ap (λ x. 91 ∷ x) (append_assoc (sign negated) (body l.is) (93 ∷ []));
    items = l.items (93 ∷ []);
    some = λ h. not_fresh l.is h l.fits;
  };
}

-- a bracket that is closed after an item that ends with the closing
pub closed_item : (z : List ℕ) (b : ℕ) (negated : Bool) (marks : List Bool) (p : Phase) (i : Item) (l : Listed z negated marks p) → b ≡ 93 → tail p ≡ spelled i
    → is_item (fresh l.is) i (93 ∷ []) ≡ true → (fresh l.is ≡ true → (negated || not (head i == 94)) ≡ true) → Closed z b negated (marked i marks)
closed_item z b negated marks p i l e t v g = record {
  byte = e;
  is = l.is ++ i ∷ [];
  marks_are = ap (marked i) l.marks_are ∙ sym (marks_on-more l.is i no_marks);
  bracket = record {
    text = ap (λ x. 91 ∷ (x ++ 93 ∷ [])) l.text ∙ ap (λ x. 91 ∷ x) (append_assoc (sign negated) (body l.is ++ tail p) (93 ∷ [])
        ∙ ap (λ x. sign negated ++ x)
        (append_assoc (body l.is) (tail p) (93 ∷ [])
        ∙ (ap (λ x. body l.is ++ (x ++ 93 ∷ [])) t ∙ sym (body-more l.is i (93 ∷ [])))));
    items = opens_more negated l.is i (93 ∷ []) (ap (λ x. opens negated l.is (x ++ 93 ∷ [])) (sym t) ∙ l.items (93 ∷ [])) v g;
    some = some_more l.is i;
  };
}

-- an element that may begin a range stands as an item
pub not_is : (p : Bool) → p ≡ false → not p ≡ true
not_is true h = absurd (cc)
not_is false h = refl

pub unless : (first : Bool) (e c : ℕ) → (first ≡ false → e ≢ c) → (first || not (e == c)) ≡ true
unless true e c h = refl
unless false e c h = not_is (e == c) (other_byte e c (h refl))

pub no_mark : (e : ℕ) (q : Bool) → (e ≡ 91 → q ≡ false) → (e ≡ 91) ⊎ (e ≢ 91) → not (e == 91 && q) ≡ true
no_mark e q h (inl a) = let k : (e == 91) ≡ true = rw a refl in rw (k, h a) refl
no_mark e q h (inr b) = rw (other_byte e 91 b) refl

pub opener_element : (negated first : Bool) (e : ℕ) (r : List ℕ) → Opener negated first e
    → (e ≡ 91 → begins (λ b. b == 46 || b == 61 || b == 58) r ≡ false) → is_element first e r ≡ true
opener_element negated first e r o h =
    and_true (is_printable e && (first || not (e == 93))) (not (e == 91 && begins (λ b. b == 46 || b == 61 || b == 58) r))
    (and_true (is_printable e) (first || not (e == 93)) o.printable (unless first e 93 o.closes))
    (no_mark e (begins (λ b. b == 46 || b == 61 || b == 58) r) h (same_or_not e 91))

pub or_left : (p q : Bool) → p ≡ true → (p || q) ≡ true
or_left true q h = refl
or_left false q h = absurd (cc)

pub opener_single : (negated first : Bool) (e : ℕ) (r : List ℕ) → Opener negated first e
    → (e ≡ 91 → begins (λ b. b == 46 || b == 61 || b == 58) r ≡ false) → goes_on_as_range r ≡ false → is_item first (single e) r ≡ true
opener_single negated first e r o h g =
    and_true (is_element first e r && not (goes_on_as_range r)) (first || not (e == 45) || begins (λ b. b == 93) r)
    (and_true (is_element first e r) (not (goes_on_as_range r)) (opener_element negated first e r o h) (not_is (goes_on_as_range r) g))
    (or_left (first || not (e == 45)) (begins (λ b. b == 93) r) (unless first e 45 o.hyphen))

pub at_least : (a b : ℕ) → a ≤ b → nat_le a b ≡ true
at_least a b h = grind (arith, nat_tests)

pub opener_range : (negated first : Bool) (e f : ℕ) (r : List ℕ) → Opener negated first e → is_element false f r ≡ true
    → e ≤ f → is_item first (range e f) r ≡ true
opener_range negated first e f r o v l =
    and_true (is_element first e (45 ∷ []) && (first || not (e == 45)) && is_element false f r) (nat_le e f)
    (and_true (is_element first e (45 ∷ []) && (first || not (e == 45))) (is_element false f r)
    (and_true (is_element first e (45 ∷ [])) (first || not (e == 45)) (opener_element negated first e (45 ∷ []) o (λ h. refl)) (unless first e 45 o.hyphen)) v)
    (at_least e f l)

pub goes_not : (b : ℕ) (r : List ℕ) → b ≢ 45 → goes_on_as_range (b ∷ r) ≡ false
goes_not b [] h = refl
goes_not b (c ∷ r) h = rw (other_byte b 45 h) refl

-- the second part of a range
pub range_end : (f : ℕ) (r : List ℕ) → is_printable f ≡ true → f ≢ 93
    → (f ≡ 91 → begins (λ b. b == 46 || b == 61 || b == 58) r ≡ false) → is_element false f r ≡ true
range_end f r p c h =
    and_true (is_printable f && (false || not (f == 93))) (not (f == 91 && begins (λ b. b == 46 || b == 61 || b == 58) r))
    (and_true (is_printable f) (false || not (f == 93)) p (unless false f 93 (λ x. c)))
    (no_mark f (begins (λ b. b == 46 || b == 61 || b == 58) r) h (same_or_not f 91))

-- a range's element and `-`, both single, and the closing
pub closed_two : (z : List ℕ) (b : ℕ) (negated : Bool) (marks : List Bool) (e : ℕ) (l : Listed z negated marks (phase.Dash e)) → b ≡ 93
    → Closed z b negated (marked (single 45) (marked (single e) marks))
unfolding head
closed_two z b negated marks e l h =
    let i = single e in
    let is = l.is ++ i ∷ [] in
    let v = opener_single negated (fresh l.is) e (45 ∷ 93 ∷ []) l.fits (λ x. refl) refl in
    let a = opens_more negated l.is i (45 ∷ 93 ∷ []) (l.items (93 ∷ [])) v l.fits.circumflex in
    let c : is_item (fresh is) (single 45) (93 ∷ []) ≡ true = ap (λ f. is_item f (single 45) (93 ∷ [])) (fresh_more l.is i) in
    let d = opens_more negated is (single 45) (93 ∷ []) a c (λ f. absurd (let g : true ≡ false = sym f ∙ fresh_more l.is i in cc)) in
    record {
      byte = h;
      is = is ++ single 45 ∷ [];
      marks_are = ap (λ m. marked (single 45) (marked i m)) l.marks_are
          ∙ (ap (marked (single 45)) (sym (marks_on-more l.is i no_marks))
          ∙ sym (marks_on-more is (single 45) no_marks));
      bracket = record {
        text = ap (λ x. 91 ∷ (x ++ 93 ∷ [])) l.text ∙ ap (λ x. 91 ∷ x) (append_assoc (sign negated) (body l.is ++ e ∷ 45 ∷ []) (93 ∷ [])
            ∙ ap (λ x. sign negated ++ x)
            (append_assoc (body l.is) (e ∷ 45 ∷ []) (93 ∷ [])
            ∙ (sym (body-more l.is i (45 ∷ 93 ∷ [])) ∙ sym (body-more is (single 45) (93 ∷ [])))));
        items = d;
        some = some_more is (single 45);
      };
    }

pub below_len : (a b : ℕ) → nat_lt a b ≡ true → a < b
below_len a b h = grind (arith, nat_tests)

pub name_again : (c : Class) (k : ℕ) → name_of c ++ 58 ∷ 93 ∷ [] ≡ take k (name_of c) ++ (drop k (name_of c) ++ 58 ∷ 93 ∷ [])
name_again c k =
    ap (λ x. x ++ 58 ∷ 93 ∷ []) (sym (take-append-drop k (name_of c))) ∙ append_assoc (take k (name_of c)) (drop k (name_of c)) (58 ∷ 93 ∷ [])

pub some_left : (xs : List ℕ) (y : ℕ) (ys : List ℕ) → xs ++ y ∷ ys ≡ [] → ⊥
some_left [] y ys e = cc
some_left (x ∷ xs) y ys e = cc

pub or_true : (v : Bool) → (v || true) ≡ true
or_true true = refl
or_true false = refl

pub bracket_opener : (negated first : Bool) → Opener negated first 91
bracket_opener negated first = record {
  printable = refl;
  closes = λ f e. absurd (omega arith);
  hyphen = λ f. class_head;
  circumflex = λ f. or_true negated;
}
