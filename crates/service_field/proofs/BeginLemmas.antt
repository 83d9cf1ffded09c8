use Rattle.std.proofs.Common.{◌≡◌, ℕ, ◌<◌, ◌≤◌, min, Bool, true, false, ◌&&◌, ◌==◌, cond, List, [], ◌∷◌, length, take}
use Rattle.std.proofs.Common.{drop, refl, sym, ap, ◌∙◌, inl, inr, lit<, arith}
use Rattle.std.proofs.lemmas.Bool.{cases_lt, eq-eqb, eqb-true, ne_eqb, and_parts}
use Rattle.std.proofs.lemmas.List.{length-map, length-take}
use Rattle.std.proofs.lemmas.Str.Ascii.{lowercase_is}
use Rattle.std.specs.List.{onto_first}
use Rattle.enum_base.specs.Folding.{folded, folded_byte}
use Rattle.service_field.specs.Tags.{colon, tags_of}
use Rattle.service_field.specs.Fitting.{begins, ends, same_tag}
use Rattle.service_field.proofs.SplitLemmas.{some_part}

-- a text stands in front of another, without regard to case, and a colon or nothing follows
abbrev pub stands_first : List ℕ → List ℕ → Bool
stands_first [] item = ends item
stands_first (t ∷ ts) [] = false
stands_first (t ∷ ts) (i ∷ is) = (folded_byte t == folded_byte i) && stands_first ts is

-- a byte that is no letter has no other case
pub folded_is : (c : ℕ) → c < 65 → (b : ℕ) → (folded_byte b == c) ≡ (b == c)
folded_is c small b =
    elim (cases_lt b 65) [
      | inl less ↦ ap (λ x. x == c) ((lowercase_is b).1 less)
      | inr more ↦ elim (cases_lt b 91) [
        | inl letter ↦
            ne_eqb (folded_byte b) c (λ e. omega (arith, sym e ∙ (lowercase_is b).0 (more, omega (arith, letter)), small, more))
            ∙ sym (ne_eqb b c (λ e. omega (arith, e, small, more)))
        | inr other ↦ ap (λ x. x == c) ((lowercase_is b).2 (omega (arith, other)))
      ]
    ]

-- the tags of a text by its first byte
record FirstPart (text : List ℕ) : Type 0 where
  first : List ℕ
  others : List (List ℕ)
  is : tags_of text ≡ first ∷ others

first_part_of : (parts : List (List ℕ)) → 0 < length parts → (first : List ℕ) × (others : List (List ℕ)) × (parts ≡ first ∷ others)
first_part_of [] some = absurd (omega (arith, some))
first_part_of (first ∷ others) some = (first, others, refl)

first_part : (text : List ℕ) → FirstPart text
first_part text =
    let p = first_part_of (tags_of text) (some_part (λ b. b == colon) text) in record { first = p.0; others = p.1; is = p.2 }

tags_at : (b : ℕ) (text : List ℕ) (x : Bool) → (b == colon) ≡ x → tags_of (b ∷ text) ≡ cond x ([] ∷ tags_of text) (onto_first b (tags_of text))
tags_at b text x is = ap (λ c. cond c ([] ∷ tags_of text) (onto_first b (tags_of text))) is

-- nothing stands before the end of a tag alone
none_first : (item : List ℕ) (x : Bool) (i : ℕ) (p : FirstPart item) → (i == colon) ≡ x
    → x ≡ begins ([] ∷ []) (cond x ([] ∷ tags_of item) (onto_first i (tags_of item)))
none_first item true i p is = refl
none_first item false i p is = sym (ap (λ l. begins ([] ∷ []) (onto_first i l)) p.is)

past_end : (t : ℕ) (x : Bool) (tags : List ℕ) (p : FirstPart tags) → false ≡ begins (cond x ([] ∷ tags_of tags) (onto_first t (tags_of tags))) ([] ∷ [])
past_end t true tags p = sym (ap (λ l. begins ([] ∷ l) ([] ∷ [])) p.is)
past_end t false tags p = sym (ap (λ l. begins (onto_first t l) ([] ∷ [])) p.is)

and_assoc : (x y z : Bool) → (x && (y && z)) ≡ (x && y && z)
and_assoc true y z = refl
and_assoc false y z = refl

both_parts : (t i : ℕ) (tags item : List ℕ) (x y : Bool) → (t == colon) ≡ x → (i == colon) ≡ y
    → (p : FirstPart tags) (q : FirstPart item) → stands_first tags item ≡ begins (tags_of tags) (tags_of item)
    → ((folded_byte t == folded_byte i) && stands_first tags item)
    ≡ begins (cond x ([] ∷ tags_of tags) (onto_first t (tags_of tags)))
    (cond y ([] ∷ tags_of item) (onto_first i (tags_of item)))
both_parts t i tags item true true is_t is_i p q more =
    ap (λ b. b && stands_first tags item) (eq-eqb (folded_byte t) (folded_byte i) (ap folded_byte (eqb-true t colon is_t ∙ sym (eqb-true i colon is_i)))) ∙ more
both_parts t i tags item true false is_t is_i p q more =
    let other : (colon == folded_byte i) ≡ false =
    ne_eqb colon (folded_byte i)
    (λ e. absurd (cc (eq-eqb (folded_byte i) colon (sym e), folded_is colon (lit< tt) i, is_i))) in
    ap (λ b. b && stands_first tags item) (ap (λ c. folded_byte c == folded_byte i) (eqb-true t colon is_t) ∙ other)
    ∙ sym (ap (λ l. begins ([] ∷ tags_of tags) (onto_first i l)) q.is)
both_parts t i tags item false true is_t is_i p q more =
    let other : (folded_byte t == colon) ≡ false = folded_is colon (lit< tt) t ∙ is_t in
    ap (λ b. b && stands_first tags item) (ap (λ c. folded_byte t == folded_byte c) (eqb-true i colon is_i) ∙ other)
    ∙ sym (ap (λ l. begins (onto_first t l) ([] ∷ tags_of item)) p.is)
both_parts t i tags item false false is_t is_i p q more =
    ap (λ b. (folded_byte t == folded_byte i) && b) (more ∙ ap (λ l. begins l (tags_of item)) p.is ∙ ap (begins (p.first ∷ p.others)) q.is)
    ∙ and_assoc (folded_byte t == folded_byte i) (same_tag p.first q.first) (begins p.others q.others)
    ∙ sym (ap (λ l. begins (onto_first t l) (onto_first i (tags_of item))) p.is ∙ ap (λ l. begins (onto_first t (p.first ∷ p.others)) (onto_first i l)) q.is)

-- that is what it means that the tags of the one are the first tags of the other
pub stands_begins : (tags item : List ℕ) → stands_first tags item ≡ begins (tags_of tags) (tags_of item)
stands_begins [] [] = refl
stands_begins [] (i ∷ is) = none_first is (i == colon) i (first_part is) refl
stands_begins (t ∷ ts) [] = past_end t (t == colon) ts (first_part ts)
stands_begins (t ∷ ts) (i ∷ is) =
    both_parts t i ts is (t == colon) (i == colon) refl refl (first_part ts) (first_part is) (stands_begins ts is)

-- the same by the front of the item

front_ends : (tags item : List ℕ) → folded (take (length tags) item) ≡ folded tags → ends (drop (length tags) item) ≡ stands_first tags item
front_ends [] item same = refl
front_ends (t ∷ ts) [] same = absurd (cc)
front_ends (t ∷ ts) (i ∷ is) same =
    let head : folded_byte i ≡ folded_byte t = cc in
    let rest : folded (take (length ts) is) ≡ folded ts = cc in
    front_ends ts is rest ∙ sym (ap (λ b. b && stands_first ts is) (eq-eqb (folded_byte t) (folded_byte i) (sym head)))

front_same : (tags item : List ℕ) → stands_first tags item ≡ true → folded (take (length tags) item) ≡ folded tags
front_same [] item stands = refl
front_same (t ∷ ts) [] stands = absurd (cc)
front_same (t ∷ ts) (i ∷ is) stands =
    let both = and_parts (folded_byte t == folded_byte i) (stands_first ts is) stands in
    ap (λ b. b ∷ folded (take (length ts) is)) (sym (eqb-true (folded_byte t) (folded_byte i) both.0))
    ∙ ap (λ l. folded_byte t ∷ l) (front_same ts is both.1)

same_length : (tags item : List ℕ) (n : ℕ) → folded (take n item) ≡ folded tags → n ≡ min (length item) (length tags) → n ≡ length tags
same_length tags item n same is =
    let size : min n (length item) ≡ length tags =
    sym (length-take n item) ∙ sym (length-map (take n item) folded_byte) ∙ ap length same
    ∙ length-map tags folded_byte in
    omega (arith, size, is)

pub begins_by_front : (tags item front rest : List ℕ) (n : ℕ) → n ≡ min (length item) (length tags)
    → front ≡ take n item → rest ≡ drop n item → folded front ≡ folded tags
    → ends rest ≡ begins (tags_of tags) (tags_of item)
begins_by_front tags item front rest n least is_front is_rest same =
    let at : folded (take n item) ≡ folded tags = sym (ap folded is_front) ∙ same in
    let whole : n ≡ length tags = same_length tags item n at least in
    ap ends (is_rest ∙ ap (λ k. drop k item) whole)
    ∙ front_ends tags item (sym (ap (λ k. folded (take k item)) whole) ∙ at)
    ∙ stands_begins tags item

fits_before : (tags item : List ℕ) → folded (take (length tags) item) ≡ folded tags → length tags ≤ length item
fits_before tags item same =
    let size : min (length tags) (length item) ≡ length tags =
    sym (length-take (length tags) item) ∙ sym (length-map (take (length tags) item) folded_byte) ∙ ap length same
    ∙ length-map tags folded_byte in
    omega (arith, size)

stands_or_not : (tags item front : List ℕ) (n : ℕ) → n ≡ min (length item) (length tags) → front ≡ take n item
    → (folded front ≡ folded tags → ⊥) → (x : Bool) → stands_first tags item ≡ x → false ≡ x
stands_or_not tags item front n least is other true stands =
    let same : folded (take (length tags) item) ≡ folded tags = front_same tags item stands in
    let whole : n ≡ length tags = omega (arith, least, fits_before tags item same) in
    absurd (other (ap folded (is ∙ ap (λ k. take k item) whole) ∙ same))
stands_or_not tags item front n least is other false stands = refl

pub begins_not : (tags item front : List ℕ) (n : ℕ) → n ≡ min (length item) (length tags) → front ≡ take n item
    → (folded front ≡ folded tags → ⊥) → false ≡ begins (tags_of tags) (tags_of item)
begins_not tags item front n least is other =
    stands_or_not tags item front n least is other (stands_first tags item) refl ∙ stands_begins tags item
