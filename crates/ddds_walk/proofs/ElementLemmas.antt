-- Facts on lists: two ways to cut one, elements, and lists without repeats.
use Rattle.std.proofs.Common.{◌≡◌, ℕ, zero, suc, ◌<◌, ◌⊎◌, List, [], ◌∷◌, ◌++◌, map, Some, refl, sym, ap, subst, inl, inr, arith}
use Rattle.std.specs.Prelude.{Contains, slice_get}
use Rattle.std.proofs.lemmas.List.Elements.{Contains-append_left, Contains-append_right, Contains-append_cases, Contains-push, Contains-push_cases}
use Rattle.naptr_data.specs.Sources.{AreDistinct}

module _ {X : Type 0} where
  -- two ways to cut one list: one of the first parts begins with the other
  pub cuts : (xs ys us vs : List X) → xs ++ ys ≡ us ++ vs
      → ((w : List X) × (xs ≡ us ++ w) × (vs ≡ w ++ ys)) ⊎ ((w : List X) × (us ≡ xs ++ w) × (ys ≡ w ++ vs))
  cuts [] ys us vs e = inr (us, refl, e)
  cuts (x ∷ xs) ys [] vs e = inl (x ∷ xs, refl, sym e)
  cuts (x ∷ xs) ys (u ∷ us) vs e =
      let f : x ≡ u = cc in
      let t : xs ++ ys ≡ us ++ vs = cc in
      by f (cuts xs ys us vs t)
    where
      by : x ≡ u
          → ((w : List X) × (xs ≡ us ++ w) × (vs ≡ w ++ ys)) ⊎ ((w : List X) × (us ≡ xs ++ w) × (ys ≡ w ++ vs))
          → ((w : List X) × (x ∷ xs ≡ u ∷ us ++ w) × (vs ≡ w ++ ys)) ⊎ ((w : List X) × (u ∷ us ≡ x ∷ xs ++ w) × (ys ≡ w ++ vs))
      by f (inl (w, a, b)) = inl (w, cc, b)
      by f (inr (w, a, b)) = inr (w, cc, b)

  -- a beginning of a list with one more element is the whole, or a beginning of the list before
  pub cut_last : (a b p : List X) (x : X) → a ++ b ≡ p ++ x ∷ []
      → ((b ≡ []) × (a ≡ p ++ x ∷ [])) ⊎ ((c : List X) × (p ≡ a ++ c) × (b ≡ c ++ x ∷ []))
  cut_last [] b p x e = inr (p, refl, e)
  cut_last (y ∷ a) b [] x e = inl (ends a b (cc), starts (cc))
    where
      ends : (a b : List X) → a ++ b ≡ [] → b ≡ []
      ends [] b e = e
      ends (z ∷ a) b e = cc

      none : (a b : List X) → a ++ b ≡ [] → a ≡ []
      none [] b e = refl
      none (z ∷ a) b e = cc

      starts : y ∷ a ++ b ≡ x ∷ [] → y ∷ a ≡ x ∷ []
      starts e = let f : a ≡ [] = none a b (cc) in cc
  cut_last (y ∷ a) b (z ∷ p) x e =
      let f : y ≡ z = cc in
      let t : a ++ b ≡ p ++ x ∷ [] = cc in
      by f (cut_last a b p x t)
    where
      by : y ≡ z → ((b ≡ []) × (a ≡ p ++ x ∷ [])) ⊎ ((c : List X) × (p ≡ a ++ c) × (b ≡ c ++ x ∷ []))
          → ((b ≡ []) × (y ∷ a ≡ z ∷ p ++ x ∷ [])) ⊎ ((c : List X) × (z ∷ p ≡ y ∷ a ++ c) × (b ≡ c ++ x ∷ []))
      by f (inl (u, v)) = inl (u, cc)
      by f (inr (c, u, v)) = inr (c, cc, v)

  pub has_none : (x : X) → Contains [] x → ⊥
  has_none x h = let l : h.0 < 0 = h.1 in omega arith

  pub has_cons : (xs : List X) (y x : X) → Contains (y ∷ xs) x → (y ≡ x) ⊎ Contains xs x
  has_cons xs y x h = by (Contains-append_cases (y ∷ []) xs x h)
    where
      first : Contains [] x ⊎ (y ≡ x) → (y ≡ x) ⊎ Contains xs x
      first (inl k) = absurd (has_none x k)
      first (inr e) = inl e

      by : Contains (y ∷ []) x ⊎ Contains xs x → (y ≡ x) ⊎ Contains xs x
      by (inl k) = first (Contains-push_cases [] y x k)
      by (inr k) = inr k

  pub has_head : (xs : List X) (x : X) → Contains (x ∷ xs) x
  has_head xs x = Contains-append_left (x ∷ []) xs x (Contains-push [] x)

  pub has_tail : (xs : List X) (y x : X) → Contains xs x → Contains (y ∷ xs) x
  has_tail xs y x h = Contains-append_right (y ∷ []) xs x h

  pub has_same : (xs : List X) (x y : X) → x ≡ y → Contains xs x → Contains xs y
  has_same xs x y e h = let P : X → Type 0 = λ w. Contains xs w in subst P e h

  -- a list is cut at each of its elements
  pub has_cut : (xs : List X) (x : X) → Contains xs x → (a : List X) × (b : List X) × (xs ≡ a ++ x ∷ b)
  has_cut [] x h = absurd (has_none x h)
  has_cut (y ∷ xs) x h = by (λ k. has_cut xs x k) (has_cons xs y x h)
    where
      more : (a : List X) × (b : List X) × (xs ≡ a ++ x ∷ b) → (a : List X) × (b : List X) × (y ∷ xs ≡ a ++ x ∷ b)
      more (a, b, e) = (y ∷ a, b, ap (λ w. y ∷ w) e)

      by : (Contains xs x → (a : List X) × (b : List X) × (xs ≡ a ++ x ∷ b))
          → (y ≡ x) ⊎ Contains xs x → (a : List X) × (b : List X) × (y ∷ xs ≡ a ++ x ∷ b)
      by f (inl e) = ([], xs, ap (λ w. w ∷ xs) e)
      by f (inr k) = more (f k)

  -- one more element that is new leaves a list without repeats
  pub distinct_push : (xs : List X) (x : X) → AreDistinct xs → (Contains xs x → ⊥) → AreDistinct (xs ++ x ∷ [])
  distinct_push [] x d n = ((λ h. has_none x h), tt)
  distinct_push (y ∷ xs) x d n = ((λ h. by (Contains-push_cases xs x y h)), distinct_push xs x d.1 (λ h. n (has_tail xs y x h)))
    where
      by : Contains xs y ⊎ (x ≡ y) → ⊥
      by (inl k) = d.0 k
      by (inr e) = n (has_same (y ∷ xs) y x (sym e) (has_head xs y))

  pub distinct_front : (xs ys : List X) → AreDistinct (xs ++ ys) → AreDistinct xs
  distinct_front [] ys d = tt
  distinct_front (x ∷ xs) ys d = ((λ h. d.0 (Contains-append_left xs ys x h)), distinct_front xs ys d.1)

-- an element's image is an element of the images, and each of these is one
pub has_map : {X Y : Type 0} (f : X → Y) (xs : List X) (x : X) → Contains xs x → Contains (map f xs) (f x)
has_map f [] x h = absurd (has_none x h)
has_map {X} {Y} f (y ∷ xs) x h = by (λ k. has_map f xs x k) (has_cons xs y x h)
  where
    by : (Contains xs x → Contains (map f xs) (f x)) → (y ≡ x) ⊎ Contains xs x → Contains (map f (y ∷ xs)) (f x)
    by j (inl e) = has_same (f y ∷ map f xs) (f y) (f x) (ap f e) (has_head (map f xs) (f y))
    by j (inr k) = has_tail (map f xs) (f y) (f x) (j k)

pub has_unmap : {X Y : Type 0} (f : X → Y) (xs : List X) (y : Y) → Contains (map f xs) y → (x : X) × Contains xs x × (f x ≡ y)
has_unmap f [] y h = absurd (has_none y h)
has_unmap {X} {Y} f (z ∷ xs) y h = by (λ k. has_unmap f xs y k) (has_cons (map f xs) (f z) y h)
  where
    more : (x : X) × Contains xs x × (f x ≡ y) → (x : X) × Contains (z ∷ xs) x × (f x ≡ y)
    more (x, k, e) = (x, has_tail xs z x k, e)

    by : (Contains (map f xs) y → (x : X) × Contains xs x × (f x ≡ y))
        → (f z ≡ y) ⊎ Contains (map f xs) y → (x : X) × Contains (z ∷ xs) x × (f x ≡ y)
    by j (inl e) = (z, has_head xs z, e)
    by j (inr k) = more (j k)

-- an element of the images is the image of the element at its place
pub get_map : {X Y : Type 0} (h : X → Y) (xs : List X) (n : ℕ) (y : Y) → slice_get (map h xs) n ≡ Some y
    → (x : X) × (slice_get xs n ≡ Some x) × (h x ≡ y)
get_map h [] n y e = cc
get_map h (x ∷ xs) zero y e = (x, refl, (cc))
get_map h (x ∷ xs) (suc n) y e = get_map h xs n y e

pub get_of_map : {X Y : Type 0} (h : X → Y) (xs : List X) (n : ℕ) (x : X) → slice_get xs n ≡ Some x → slice_get (map h xs) n ≡ Some (h x)
get_of_map h [] n x e = cc
get_of_map h (y ∷ xs) zero x e = let f : y ≡ x = cc in ap (λ v. Some (h v)) f
get_of_map h (y ∷ xs) (suc n) x e = get_of_map h xs n x e
