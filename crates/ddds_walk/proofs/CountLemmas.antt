-- How many elements lists without repeats have.
use Rattle.std.proofs.Common.{◌≡◌, suc, ◌≤◌, ◌⊎◌, List, [], ◌∷◌, ◌++◌, length, sym, ap, subst, inl, inr, arith, length-append}
use Rattle.std.specs.Prelude.{Contains}
use Rattle.std.proofs.lemmas.List.Elements.{Contains-append_left, Contains-append_right, Contains-append_cases}
use Rattle.ddds_walk.specs.Graph.{Graph}
use Rattle.ddds_walk.specs.Report.{AreNeeded}
use Rattle.naptr_data.specs.Sources.{AreDistinct}
use Rattle.ddds_walk.proofs.ElementLemmas.{has_cons, has_head, has_tail, has_same, has_cut}

module _ {X : Type 0} where
  -- a list without repeats is no longer than one that has all its elements
  pub distinct_fits : (xs ys : List X) → AreDistinct xs → ((x : X) → Contains xs x → Contains ys x) → length xs ≤ length ys
  distinct_fits [] ys d h = omega arith
  distinct_fits (x ∷ xs) ys d h = cut (has_cut ys x (h x (has_head xs x))) (λ a b e. distinct_fits xs (a ++ b) d.1 (rest a b e))
    where
      rest : (a b : List X) → ys ≡ a ++ x ∷ b → (y : X) → Contains xs y → Contains (a ++ b) y
      rest a b e y k = by (Contains-append_cases a (x ∷ b) y (subst (λ v. Contains v y) e (h y (has_tail xs x y k))))
        where
          on : (x ≡ y) ⊎ Contains b y → Contains (a ++ b) y
          on (inl f) = absurd (d.0 (has_same xs y x (sym f) k))
          on (inr j) = Contains-append_right a b y j

          by : Contains a y ⊎ Contains (x ∷ b) y → Contains (a ++ b) y
          by (inl j) = Contains-append_left a b y j
          by (inr j) = on (has_cons b x y j)

      cut : (a : List X) × (b : List X) × (ys ≡ a ++ x ∷ b)
          → ((a b : List X) → ys ≡ a ++ x ∷ b → length xs ≤ length (a ++ b)) → suc (length xs) ≤ length ys
      cut (a, b, e) f =
          let h : length xs ≤ length (a ++ b) = f a b e in
          let i : length ys ≡ length (a ++ x ∷ b) = ap length e in
          omega (arith, length-append a b, length-append a (x ∷ b))

  -- two lists without repeats and with the same elements are equally long
  pub equally_long : (xs ys : List X) → AreDistinct xs → AreDistinct ys
      → ((x : X) → Contains xs x → Contains ys x) → ((x : X) → Contains ys x → Contains xs x) → length xs ≡ length ys
  equally_long xs ys d e h k =
      let a : length xs ≤ length ys = distinct_fits xs ys d h in
      let b : length ys ≤ length xs = distinct_fits ys xs e k in
      omega arith

module _ {V : Type 0} (g : Graph V) (keys : List V) where
  -- the number of needed domains does not depend on how they are listed
  pub needed_count : (ds es : List V) → AreNeeded g keys ds → AreNeeded g keys es → length ds ≡ length es
  needed_count ds es a b = equally_long ds es a.some.once b.some.once (λ d k. b.all d (a.some.only d k)) (λ d k. a.all d (b.some.only d k))
