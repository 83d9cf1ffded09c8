-- A set of domains, as the list of their names: equal wire forms are those of equal names.
use Rattle.std.proofs.Common.{◌≡◌, ℕ, Bool, true, false, ◌||◌, ◌⊎◌, List, [], ◌∷◌, ◌++◌, length, map, refl, sym, ◌∙◌, ap, subst}
use Rattle.std.proofs.Common.{inl, inr, arith, true≢false, if◌then◌else◌, nat_eq}
use Rattle.std.specs.Prelude.{Contains, IsTrue, ◌↔◌}
use Rattle.std.specs.List.{list_any, flat_map}
use Rattle.std.specs.Cmp.Lexicographic.{pointwise}
use Rattle.std.proofs.lemmas.List.{append_assoc, map-append}
use Rattle.std.proofs.lemmas.Slice.Eq.{slice_eq-Decides}
use Rattle.std.proofs.lemmas.Bool.Decides.{Decides-eqb}
use Rattle.std.proofs.lemmas.List.Elements.{Contains-append_left, Contains-append_right, Contains-append_cases, Contains-push, Contains-push_cases}
use Rattle.std.proofs.Common.{◌<◌}
use Rattle.dns_name.specs.Name.{wire_of, label_wire}
use Rattle.ddds_walk.specs.Keys.{wire_in}
use Rattle.ddds_walk.specs.declared.domain.Domain.{Domain}

-- beginnings of equal lengths of one list are equal, and so is what is left
cut_equal : (xs us ys vs : List ℕ) → length xs ≡ length us → xs ++ ys ≡ us ++ vs → (xs ≡ us) × (ys ≡ vs)
cut_equal [] [] ys vs l e = (refl, e)
cut_equal [] (u ∷ us) ys vs l e = absurd (omega arith)
cut_equal (x ∷ xs) [] ys vs l e = absurd (omega arith)
cut_equal (x ∷ xs) (u ∷ us) ys vs l e =
    let f : x ≡ u = cc in
    let t : xs ++ ys ≡ us ++ vs = cc in
    let m : length xs ≡ length us = omega arith in
    by f (cut_equal xs us ys vs m t)
  where
    by : x ≡ u → (xs ≡ us) × (ys ≡ vs) → (x ∷ xs ≡ u ∷ us) × (ys ≡ vs)
    by f (r, s) = (cc, s)

-- something stands before the last byte
not_last : (xs : List ℕ) → [] ≡ xs ++ 0 ∷ [] → ⊥
not_last [] e = cc
not_last (x ∷ xs) e = cc

one_wire : (a b : List (List ℕ)) → wire_of a ≡ wire_of b → a ≡ b
one_wire [] [] e = refl
one_wire [] (y ∷ b) e =
    let t : [] ≡ (y ++ flat_map label_wire b) ++ 0 ∷ [] = cc in
    absurd (not_last (y ++ flat_map label_wire b) t)
one_wire (x ∷ a) [] e =
    let t : [] ≡ (x ++ flat_map label_wire a) ++ 0 ∷ [] = cc in
    absurd (not_last (x ++ flat_map label_wire a) t)
one_wire (x ∷ a) (y ∷ b) e =
    let m : length x ≡ length y = cc in
    let t : (x ++ flat_map label_wire a) ++ 0 ∷ [] ≡ (y ++ flat_map label_wire b) ++ 0 ∷ [] = cc in
    let u : x ++ wire_of a ≡ y ++ wire_of b =
    sym (append_assoc x (flat_map label_wire a) (0 ∷ [])) ∙ t ∙ append_assoc y (flat_map label_wire b) (0 ∷ []) in
    by (cut_equal x y (wire_of a) (wire_of b) m u) (one_wire a b)
  where
    by : (x ≡ y) × (wire_of a ≡ wire_of b) → (wire_of a ≡ wire_of b → a ≡ b) → x ∷ a ≡ y ∷ b
    by (f, s) rest = let g : a ≡ b = rest s in cc

-- whether a key has this name
abbrev pub has_name : List (List ℕ) → Domain → Bool
has_name name k = pointwise nat_eq (wire_of name) (wire_in k)

abbrev pub names_in : List Domain → List (List (List ℕ))
names_in keys = map (λ (k : Domain). k.name) keys

name_is : (name : List (List ℕ)) (k : Domain) → has_name name k ≡ true → k.name ≡ name
name_is name k e = sym (one_wire name k.name ((slice_eq-Decides Decides-eqb (wire_of name) (wire_in k) (has_name name k) refl).0 e))

is_named : (name : List (List ℕ)) (k : Domain) → k.name ≡ name → has_name name k ≡ true
is_named name k e = (slice_eq-Decides Decides-eqb (wire_of name) (wire_in k) (has_name name k) refl).1 (ap wire_of (sym e))

head_in : (names : List (List (List ℕ))) (x y : List (List ℕ)) → x ≡ y → Contains (x ∷ names) y
head_in names x y e = subst (λ v. Contains (x ∷ names) v) e (Contains-append_left (x ∷ []) names x (Contains-push [] x))

listed : (keys : List Domain) (name : List (List ℕ)) → list_any (has_name name) keys ≡ true → Contains (names_in keys) name
listed [] name e = absurd (true≢false (sym e))
listed (k ∷ keys) name e = by (has_name name k) refl (λ f. listed keys name f)
  where
    by : (b : Bool) → has_name name k ≡ b → (list_any (has_name name) keys ≡ true → Contains (names_in keys) name)
        → Contains (names_in (k ∷ keys)) name
    by true f rest = head_in (names_in keys) k.name name (name_is name k f)
    by false f rest = Contains-append_right (k.name ∷ []) (names_in keys) name
        (rest (sym (ap (λ c. c || list_any (has_name name) keys) f) ∙ e))

none_in : (name : List (List ℕ)) → Contains [] name → ⊥
none_in name h = let l : h.0 < 0 = h.1 in omega arith

found : (keys : List Domain) (name : List (List ℕ)) → Contains (names_in keys) name → list_any (has_name name) keys ≡ true
found [] name h = absurd (none_in name h)
found (k ∷ keys) name h = by (Contains-append_cases (k.name ∷ []) (names_in keys) name h) (found keys name)
  where
    at : Contains [] name ⊎ (k.name ≡ name) → has_name name k ≡ true
    at (inl i) = absurd (none_in name i)
    at (inr e) = is_named name k e

    later : (b : Bool) → has_name name k ≡ b → list_any (has_name name) keys ≡ true → (has_name name k || list_any (has_name name) keys) ≡ true
    later true f e = ap (λ c. c || list_any (has_name name) keys) f
    later false f e = ap (λ c. c || list_any (has_name name) keys) f ∙ e

    by : Contains (k.name ∷ []) name ⊎ Contains (names_in keys) name
        → (Contains (names_in keys) name → list_any (has_name name) keys ≡ true)
        → list_any (has_name name) (k ∷ keys) ≡ true
    by (inl i) rest = ap (λ c. c || list_any (has_name name) keys) (at (Contains-push_cases [] k.name name i))
    by (inr i) rest = later (has_name name k) refl (rest i)

-- what a look-up finds
pub finds : (keys : List Domain) (name : List (List ℕ)) (names : List (List (List ℕ))) (r : Bool)
    → r ≡ list_any (has_name name) keys → names_in keys ≡ names → IsTrue r ↔ Contains names name
finds keys name names r e is = (
  λ t. subst (λ v. Contains v name) is (listed keys name (sym e ∙ t)),
  λ h. e ∙ found keys name (subst (λ v. Contains v name) (sym is) h),
)

-- what an insertion leaves, where the name is new
pub inserts : (keys new : List Domain) (d : Domain) (names : List (List (List ℕ)))
    → new ≡ (if list_any (has_name d.name) keys then keys else keys ++ d ∷ [])
    → names_in keys ≡ names → ¬ Contains names d.name → names_in new ≡ names ++ d.name ∷ []
inserts keys new d names e is absent = by (list_any (has_name d.name) keys) refl
  where
    by : (b : Bool) → list_any (has_name d.name) keys ≡ b → names_in new ≡ names ++ d.name ∷ []
    by true f = absurd (absent (subst (λ v. Contains v d.name) is (listed keys d.name f)))
    by false f =
        ap names_in (e ∙ ap (λ b. if b then keys else keys ++ d ∷ []) f)
        ∙ map-append (λ (k : Domain). k.name) keys (d ∷ []) ∙ ap (λ v. v ++ d.name ∷ []) is
