-- Class names, a letter at a time.
use Rattle.std.proofs.Common.{ℕ, zero, suc, ◌≡◌, ◌+◌, ◌<◌, ◌≤◌, Bool, true, false, not, ◌&&◌, ◌||◌, ◌==◌, cond, List}
use Rattle.std.proofs.Common.{[], ◌∷◌, ◌++◌, length, take, get_or, refl, sym, ◌∙◌, ap, arith, ◌⊎◌, inl, inr, Some}
use Rattle.std.proofs.Common.{nat_lt}
use Rattle.std.specs.Prelude.{nat_eq}
use Rattle.std.specs.Cmp.Lexicographic.{pointwise, same_text}
use Rattle.std.specs.List.{find, list_all}
use Rattle.std.proofs.lemmas.Bool.Decides.{nat_tests}
use Rattle.std.proofs.lemmas.Cmp.{nat_list_eq_equiv}
use Rattle.posix_ere.specs.Bracket.{name_of}
use Rattle.posix_ere.specs.BracketMachine.{classes, goes_on, next_class}
use Rattle.posix_ere.specs.declared.class.Class.{Class}
use Rattle.posix_ere.specs.declared.class.Class.TheVariants as class
use Rattle.posix_ere.proofs.IntervalRunsLemmas.{both}

-- a class of the list
abbrev IsIn : List Class → Class → Type 0
IsIn [] c = ⊥
IsIn (x ∷ xs) c = (x ≡ c) ⊎ IsIn xs c

is_in : (c : Class) → IsIn classes c
is_in class.Alnum = inl refl
is_in class.Alpha = inr (inl refl)
is_in class.Blank = inr (inr (inl refl))
is_in class.Cntrl = inr (inr (inr (inl refl)))
is_in class.Digit = inr (inr (inr (inr (inl refl))))
is_in class.Graph = inr (inr (inr (inr (inr (inl refl)))))
is_in class.Lower = inr (inr (inr (inr (inr (inr (inl refl))))))
is_in class.Print = inr (inr (inr (inr (inr (inr (inr (inl refl)))))))
is_in class.Punct = inr (inr (inr (inr (inr (inr (inr (inr (inl refl))))))))
is_in class.Space = inr (inr (inr (inr (inr (inr (inr (inr (inr (inl refl)))))))))
is_in class.Upper = inr (inr (inr (inr (inr (inr (inr (inr (inr (inr (inl refl))))))))))
is_in class.Xdigit = inr (inr (inr (inr (inr (inr (inr (inr (inr (inr (inr (inl refl)))))))))))

all_in : (p : Class → Bool) (xs : List Class) (c : Class) → list_all p xs ≡ true → IsIn xs c → p c ≡ true
all_in p [] c h i = absurd i
all_in p (x ∷ xs) c h (inl e) = ap p (sym e) ∙ (both (p x) (list_all p xs) h).0
all_in p (x ∷ xs) c h (inr i) = all_in p xs c (both (p x) (list_all p xs) h).1 i

-- the first class that passes a test
found : (p : Class → Bool) (xs : List Class) (d : Class) → find p xs ≡ Some d → p d ≡ true
found p [] d h = absurd (cc)
found p (x ∷ xs) d h = go (p x) refl (found p xs d) h
  where
    go : (v : Bool) → p x ≡ v → (find p xs ≡ Some d → p d ≡ true) → cond v (Some x) (find p xs) ≡ Some d → p d ≡ true
    go true e f g = let s : x ≡ d = cc in ap p (sym s) ∙ e
    go false e f g = f g

find_there : (p : Class → Bool) (xs : List Class) (c : Class) → IsIn xs c → p c ≡ true → (d : Class) × (find p xs ≡ Some d)
find_there p [] c i h = absurd i
find_there p (x ∷ xs) c i h = go (p x) refl i (λ j. find_there p xs c j h)
  where
    go : (v : Bool) → p x ≡ v → (x ≡ c) ⊎ IsIn xs c → (IsIn xs c → (d : Class) × (find p xs ≡ Some d)) → (d : Class) × (cond v (Some x) (find p xs) ≡ Some d)
    go true e i f = (x, refl)
    go false e (inl s) f = absurd (let g : true ≡ false = sym h ∙ (ap p (sym s) ∙ e) in cc)
    go false e (inr j) f = f j

below : (a b : ℕ) → nat_lt a b ≡ true → a < b
below a b h = grind (arith, nat_tests)

above : (a b : ℕ) → a < b → nat_lt a b ≡ true
above a b h = grind (arith, nat_tests)

equal : (a b : ℕ) → (a == b) ≡ true → a ≡ b
equal a b h = grind (arith, nat_tests)

itself : (a : ℕ) → (a == a) ≡ true
itself a = grind (arith, nat_tests)

pub take_next : (k : ℕ) (xs : List ℕ) → k < length xs → take k xs ++ get_or xs k 0 ∷ [] ≡ take (k + 1) xs
take_next k [] h = absurd (omega arith)
take_next zero (x ∷ xs) h = refl
take_next (suc k) (x ∷ xs) h =
    let e : suc k + 1 ≡ suc (k + 1) = omega arith in
    rw e (ap (λ y. x ∷ y) (take_next k xs (omega arith)))

-- so many letters of a name and one more are the first letters of another
pub record Letter (c : Class) (k b : ℕ) (d : Class) : Type 0 where
  pub is_next : take k (name_of c) ++ b ∷ [] ≡ take (k + 1) (name_of d)
  pub fits : k + 1 ≤ length (name_of d)

pub next_letter : (c : Class) (k b : ℕ) (d : Class) → next_class c k b ≡ Some d → Letter c k b d
next_letter c k b d h =
    let r = found (goes_on c k b) classes d h in
    let p = both (nat_lt k (length (name_of d)) && get_or (name_of d) k 0 == b) (pointwise nat_eq (take k (name_of d)) (take k (name_of c))) r in
    let q = both (nat_lt k (length (name_of d))) (get_or (name_of d) k 0 == b) p.0 in
    let l = below k (length (name_of d)) q.0 in
    let s = same_text (take k (name_of d)) (take k (name_of c)) (sym p.1) in
    record {
      is_next = ap (λ x. x ++ b ∷ []) (sym s)
          ∙ (ap (λ y. take k (name_of d) ++ y ∷ []) (sym (equal (get_or (name_of d) k 0) b q.1)) ∙ take_next k (name_of d) l);
      fits = omega arith;
    }

goes_true : (c d : Class) (k : ℕ) → take k (name_of d) ≡ take k (name_of c) → k < length (name_of c) → goes_on d k (get_or (name_of c) k 0) c ≡ true
goes_true c d k s l =
    rw (above k (length (name_of c)) l, itself (get_or (name_of c) k 0), s) (nat_list_eq_equiv.refl (take k (name_of c)))

-- a name that begins with these letters goes on with its next letter
pub goes_next : (c d : Class) (k : ℕ) → take k (name_of d) ≡ take k (name_of c) → k < length (name_of c)
    → (e : Class) × (next_class d k (get_or (name_of c) k 0) ≡ Some e) × (take (k + 1) (name_of e) ≡ take (k + 1) (name_of c))
goes_next c d k s l =
    let b = get_or (name_of c) k 0 in
    let f = find_there (goes_on d k b) classes c (is_in c) (goes_true c d k s l) in
    let x = next_letter d k b f.0 f.1 in
    (f.0, f.1, sym x.is_next ∙ (ap (λ w. w ++ b ∷ []) s ∙ take_next k (name_of c) l))

-- no name is the beginning of a longer one
abbrev is_apart : Class → Class → Bool
is_apart c d = not (pointwise nat_eq (take (length (name_of c)) (name_of d)) (name_of c)) || (length (name_of c) == length (name_of d))

all_apart : list_all (λ c. list_all (λ d. is_apart c d) classes) classes ≡ true
all_apart = refl

pub whole_name : (c d : Class) → take (length (name_of c)) (name_of d) ≡ name_of c → length (name_of c) ≡ length (name_of d)
whole_name c d h =
    let p = all_in (λ e. is_apart c e) classes d (all_in (λ e. list_all (λ f. is_apart e f) classes) classes c all_apart (is_in c)) (is_in d) in
    let q : pointwise nat_eq (take (length (name_of c)) (name_of d)) (name_of c) ≡ true = rw h (nat_list_eq_equiv.refl (name_of c)) in
    equal (length (name_of c)) (length (name_of d)) (rw q at p)

pub name_short : (c : Class) → length (name_of c) ≤ 6
name_short class.Alnum = omega arith
name_short class.Alpha = omega arith
name_short class.Blank = omega arith
name_short class.Cntrl = omega arith
name_short class.Digit = omega arith
name_short class.Graph = omega arith
name_short class.Lower = omega arith
name_short class.Print = omega arith
name_short class.Punct = omega arith
name_short class.Space = omega arith
name_short class.Upper = omega arith
name_short class.Xdigit = omega arith
