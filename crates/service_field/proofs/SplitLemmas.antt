use Rattle.std.proofs.Common.{◌≡◌, ℕ, ◌<◌, Bool, true, false, ◌||◌, ◌==◌, cond, List, [], ◌∷◌, ◌++◌, length, map, refl, sym, ap, ◌∙◌, arith}
use Rattle.std.proofs.lemmas.Bool.{eq-eqb}
use Rattle.std.proofs.lemmas.List.Elements.{All-append, All-cons, All-head, All-tail}
use Rattle.std.proofs.lemmas.List.Splits.{length-slice_split, slice_split_at, slice_split_none}
use Rattle.std.specs.List.{All, flat_map, join_with_byte, list_any, onto_first, slice_split}

-- no byte of a text is the separator
abbrev pub Lacks : ℕ → List ℕ → Type 0
Lacks separator text = All (λ b. (b == separator) ≡ false) text

abbrev pub cut : ℕ → List ℕ → List (List ℕ)
cut separator text = slice_split (λ b. b == separator) text

-- a text has a first part
pub some_part : (p : ℕ → Bool) (text : List ℕ) → 0 < length (slice_split p text)
some_part p text = omega (arith, length-slice_split p text)

-- parts that lack the separator are read again from their join
pub cut-join : (separator : ℕ) (parts : List (List ℕ)) → 0 < length parts → All (Lacks separator) parts → cut separator (join_with_byte separator parts) ≡ parts
cut-join separator [] some each = absurd (omega (arith, some))
cut-join separator (x ∷ []) some each = slice_split_none (λ b. b == separator) x (All-head (Lacks separator) x [] each)
cut-join separator (x ∷ y ∷ xs) some each =
    slice_split_at (λ b. b == separator) x separator (join_with_byte separator (y ∷ xs))
    (All-head (Lacks separator) x (y ∷ xs) each) (eq-eqb separator separator refl)
    ∙ ap (λ t. x ∷ t) (cut-join separator (y ∷ xs) (omega arith) (All-tail (Lacks separator) x (y ∷ xs) each))

-- a join of parts without a byte lacks it too
pub join_lacks : (byte separator : ℕ) (parts : List (List ℕ)) → (separator == byte) ≡ false → All (Lacks byte) parts
    → Lacks byte (join_with_byte separator parts)
join_lacks byte separator [] other each = λ k d below. absurd (omega (arith, below))
join_lacks byte separator (x ∷ []) other each = All-head (Lacks byte) x [] each
join_lacks byte separator (x ∷ y ∷ xs) other each =
    let P : ℕ → Type 0 = λ b. (b == byte) ≡ false in
    All-append P x (separator ∷ join_with_byte separator (y ∷ xs)) (All-head (Lacks byte) x (y ∷ xs) each)
    (All-cons P separator (join_with_byte separator (y ∷ xs)) other
    (join_lacks byte separator (y ∷ xs) other (All-tail (Lacks byte) x (y ∷ xs) each)))

onto_first-append : (x : ℕ) (xs ys : List (List ℕ)) → 0 < length xs → onto_first x xs ++ ys ≡ onto_first x (xs ++ ys)
onto_first-append x [] ys some = absurd (omega (arith, some))
onto_first-append x (p ∷ ps) ys some = refl

flat_cut : (p : ℕ → Bool) (x : ℕ) (parts : List (List ℕ)) (t : Bool) → p x ≡ t → 0 < length parts
    → flat_map (slice_split p) (onto_first x parts)
    ≡ cond t ([] ∷ flat_map (slice_split p) parts) (onto_first x (flat_map (slice_split p) parts))
flat_cut p x [] t is some = absurd (omega (arith, some))
flat_cut p x (part ∷ parts) true is some = ap (λ b. cond b ([] ∷ slice_split p part) (onto_first x (slice_split p part)) ++ flat_map (slice_split p) parts) is
flat_cut p x (part ∷ parts) false is some =
    ap (λ b. cond b ([] ∷ slice_split p part) (onto_first x (slice_split p part)) ++ flat_map (slice_split p) parts) is
    ∙ onto_first-append x (slice_split p part) (flat_map (slice_split p) parts) (some_part p part)

cut_step : (p q : ℕ → Bool) (x : ℕ) (xs : List ℕ) (t u : Bool) → p x ≡ t → q x ≡ u
    → slice_split (λ b. p b || q b) xs ≡ flat_map (slice_split p) (slice_split q xs)
    → cond (t || u) ([] ∷ slice_split (λ b. p b || q b) xs) (onto_first x (slice_split (λ b. p b || q b) xs))
    ≡ flat_map (slice_split p) (cond u ([] ∷ slice_split q xs) (onto_first x (slice_split q xs)))
cut_step p q x xs true true is_p is_q more = ap (λ t. [] ∷ t) more
cut_step p q x xs false true is_p is_q more = ap (λ t. [] ∷ t) more
cut_step p q x xs true false is_p is_q more = ap (λ t. [] ∷ t) more ∙ sym (flat_cut p x (slice_split q xs) true is_p (some_part q xs))
cut_step p q x xs false false is_p is_q more = ap (onto_first x) more ∙ sym (flat_cut p x (slice_split q xs) false is_p (some_part q xs))

-- parts between two kinds of bytes are the parts of the parts
pub cut_twice : (p q : ℕ → Bool) (text : List ℕ) → slice_split (λ b. p b || q b) text ≡ flat_map (slice_split p) (slice_split q text)
cut_twice p q [] = refl
cut_twice p q (x ∷ xs) = cut_step p q x xs (p x) (q x) refl refl (cut_twice p q xs)

-- a test of some member of a list that was mapped
pub any_of_map : {X Y : Type 0} (p : Y → Bool) (f : X → Y) (xs : List X) → list_any p (map f xs) ≡ list_any (λ x. p (f x)) xs
any_of_map p f [] = refl
any_of_map p f (x ∷ xs) = ap (λ b. p (f x) || b) (any_of_map p f xs)
