-- Lists cut in two, and what they contain.
use Rattle.std.proofs.Common.{◌≡◌, ◌⊎◌, inl, inr, zero, suc, ◌≤◌, List, [], ◌∷◌, ◌++◌, length, refl, sym, ap, ◌∙◌, arith, map, length-append}
use Rattle.std.specs.Prelude.{Contains}
use Rattle.std.proofs.lemmas.List.Elements.{Contains-append_right}

-- an item of a longer list is its head or after it
pub head_or_after : {X : Type 0} (x : X) (xs : List X) (y : X) → Contains (x ∷ xs) y → (y ≡ x) ⊎ Contains xs y
head_or_after x xs y (zero, l, e) = inl (sym e)
head_or_after x xs y (suc k, l, e) = inr (k, omega arith, e)

pub Contains-head : {X : Type 0} (x : X) (xs : List X) → Contains (x ∷ xs) x
Contains-head x xs = (zero, omega arith, refl)

pub Contains-after : {X : Type 0} (x : X) (xs : List X) (y : X) → Contains xs y → Contains (x ∷ xs) y
Contains-after x xs y (k, l, e) = (suc k, omega arith, e)

pub Contains-none : {X : Type 0} (y : X) → Contains [] y → ⊥
Contains-none y (k, l, e) = absurd (omega arith)

pub Contains-middle : {X : Type 0} (xs : List X) (y : X) (ys : List X) → Contains (xs ++ y ∷ ys) y
Contains-middle xs y ys = Contains-append_right xs (y ∷ ys) y (Contains-head y ys)

-- one cut of a list comes before another: its element stands before the other's, and the other's after it
pub record IsEarlier {X : Type 0} (before : List X) (x : X) (after before' : List X) (x' : X) (after' : List X) : Type 0 where
  pub middle : List X
  pub front : before' ≡ before ++ x ∷ middle
  pub back : after ≡ middle ++ x' ∷ after'

-- two cuts of one list are one cut, or one comes before the other
abbrev AreCuts : {X : Type 0} → List X → X → List X → List X → X → List X → Type 0
AreCuts before x after before' x' after' =
    ((before ≡ before') × (x ≡ x') × (after ≡ after')) ⊎ (IsEarlier before x after before' x' after' ⊎ IsEarlier before' x' after' before x after)

AreCuts-more : {X : Type 0} (y z : X) (before : List X) (x : X) (after before' : List X) (x' : X) (after' : List X)
    → y ≡ z → AreCuts before x after before' x' after' → AreCuts (y ∷ before) x after (z ∷ before') x' after'
AreCuts-more y z before x after before' x' after' e (inl same) = let f : before ≡ before' = same.0 in inl (cc, same.1, same.2)
AreCuts-more y z before x after before' x' after' e (inr (inl c)) =
    let f = c.front in inr (inl (record { middle = c.middle; front = cc; back = c.back }))
AreCuts-more y z before x after before' x' after' e (inr (inr c)) =
    let f = c.front in inr (inr (record { middle = c.middle; front = cc; back = c.back }))

pub two_cuts : {X : Type 0} (before : List X) (x : X) (after before' : List X) (x' : X) (after' : List X)
    → before ++ x ∷ after ≡ before' ++ x' ∷ after'
    → ((before ≡ before') × (x ≡ x') × (after ≡ after')) ⊎ (IsEarlier before x after before' x' after' ⊎ IsEarlier before' x' after' before x after)
two_cuts [] x after [] x' after' e = inl (refl, cc, cc)
two_cuts [] x after (z ∷ before') x' after' e = inr (inl (record { middle = before'; front = cc; back = cc }))
two_cuts (y ∷ before) x after [] x' after' e = inr (inr (record { middle = before; front = cc; back = cc }))
two_cuts (y ∷ before) x after (z ∷ before') x' after' e =
    AreCuts-more y z before x after before' x' after' (cc) (two_cuts before x after before' x' after' (cc))

-- of two ends of one list the longer ends in the shorter
pub ends_in : {X : Type 0} (front back front' back' : List X) → front ++ back ≡ front' ++ back'
    → length back' ≤ length back → (middle : List X) × (back ≡ middle ++ back')
ends_in [] back front' back' e h = (front', e)
ends_in (y ∷ front) back [] back' e h =
    let l : length (y ∷ (front ++ back)) ≡ length back' = ap length e in
    absurd (omega (arith, length-append front back))
ends_in (y ∷ front) back (z ∷ front') back' e h = ends_in front back front' back' (cc) h

-- a list whose image is made of two parts is made of two parts
pub map_parts : {X Y : Type 0} (f : X → Y) (xs : List X) (front back : List Y) → map f xs ≡ front ++ back
    → (one : List X) × (two : List X) × (xs ≡ one ++ two) × (map f one ≡ front) × (map f two ≡ back)
map_parts f xs [] back e = ([], xs, refl, refl, e)
map_parts f [] (y ∷ front) back e = absurd (cc)
map_parts f (x ∷ xs) (y ∷ front) back e =
    let head : f x ≡ y = cc in
    let rest : map f xs ≡ front ++ back = cc in
    let p = map_parts f xs front back rest in
    (x ∷ p.0, p.1, ap (λ l. x ∷ l) p.2, ap (λ z. z ∷ map f p.0) head ∙ ap (λ l. y ∷ l) p.3, p.4)
