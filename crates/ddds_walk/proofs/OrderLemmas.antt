-- The order of derivations, and what is new below the cursor when it moves.
use Rattle.std.proofs.Common.{◌≡◌, ℕ, zero, suc, ◌<◌, ◌≤◌, ◌⊎◌, List, [], ◌∷◌, ◌++◌, refl, sym, ◌∙◌, ap, subst, inl, inr, arith}
use Rattle.std.specs.Prelude.{Contains}
use Rattle.std.proofs.lemmas.List.Elements.{Contains-push_cases}
use Rattle.ddds_walk.specs.Order.{Less, AreRising}
use Rattle.ddds_walk.proofs.ElementLemmas.{has_none, has_head, has_tail}

pub less_irrefl : (xs : List ℕ) → Less xs xs → ⊥
less_irrefl [] h = h
less_irrefl (x ∷ xs) (inl h) = omega arith
less_irrefl (x ∷ xs) (inr h) = less_irrefl xs h.1

pub less_trans : (xs ys zs : List ℕ) → Less xs ys → Less ys zs → Less xs zs
less_trans xs ys [] h k = k
less_trans xs [] (z ∷ zs) h k = absurd h
less_trans [] (y ∷ ys) (z ∷ zs) h k = tt
less_trans (x ∷ xs) (y ∷ ys) (z ∷ zs) (inl h) (inl k) = inl (omega arith)
less_trans (x ∷ xs) (y ∷ ys) (z ∷ zs) (inl h) (inr k) = inl (subst (λ w. x < w) k.0 h)
less_trans (x ∷ xs) (y ∷ ys) (z ∷ zs) (inr h) (inl k) = inl (subst (λ w. w < z) (sym h.0) k)
less_trans (x ∷ xs) (y ∷ ys) (z ∷ zs) (inr h) (inr k) = inr (h.0 ∙ k.0, less_trans xs ys zs h.1 k.1)

-- one of two derivations comes first, or they are equal
order_of : (x y : ℕ) → (x < y) ⊎ ((x ≡ y) ⊎ (y < x))
order_of x y = grind arith

pub less_cases : (xs ys : List ℕ) → Less xs ys ⊎ ((xs ≡ ys) ⊎ Less ys xs)
less_cases [] [] = inr (inl refl)
less_cases [] (y ∷ ys) = inl tt
less_cases (x ∷ xs) [] = inr (inr tt)
less_cases (x ∷ xs) (y ∷ ys) = by_head (order_of x y) (less_cases xs ys)
  where
    by_tail : x ≡ y → Less xs ys ⊎ ((xs ≡ ys) ⊎ Less ys xs)
        → Less (x ∷ xs) (y ∷ ys) ⊎ ((x ∷ xs ≡ y ∷ ys) ⊎ Less (y ∷ ys) (x ∷ xs))
    by_tail e (inl h) = inl (inr (e, h))
    by_tail e (inr (inl h)) = inr (inl (cc))
    by_tail e (inr (inr h)) = inr (inr (inr (sym e, h)))

    by_head : (x < y) ⊎ ((x ≡ y) ⊎ (y < x)) → Less xs ys ⊎ ((xs ≡ ys) ⊎ Less ys xs)
        → Less (x ∷ xs) (y ∷ ys) ⊎ ((x ∷ xs ≡ y ∷ ys) ⊎ Less (y ∷ ys) (x ∷ xs))
    by_head (inl h) t = inl (inl h)
    by_head (inr (inl e)) t = by_tail e t
    by_head (inr (inr h)) t = inr (inr (inl h))

pub less_front : (p xs ys : List ℕ) → Less xs ys → Less (p ++ xs) (p ++ ys)
less_front [] xs ys h = h
less_front (x ∷ p) xs ys h = inr (refl, less_front p xs ys h)

pub less_tail : (x : ℕ) (xs ys : List ℕ) → Less (x ∷ xs) (x ∷ ys) → Less xs ys
less_tail x xs ys (inl h) = absurd (omega arith)
less_tail x xs ys (inr h) = h.1

pub less_longer : (p : List ℕ) (x : ℕ) (xs : List ℕ) → Less p (p ++ x ∷ xs)
less_longer [] x xs = tt
less_longer (y ∷ p) x xs = inr (refl, less_longer p x xs)

-- whatever goes on from a derivation is below its last rank's next one
pub less_next : (p : List ℕ) (r : ℕ) (ts : List ℕ) → Less (p ++ r ∷ ts) (p ++ suc r ∷ [])
less_next p r ts = less_front p (r ∷ ts) (suc r ∷ []) (inl (omega arith))

-- what is below a derivation is below all that goes on from it
pub less_on : (xs p ts : List ℕ) → Less xs p → Less xs (p ++ ts)
less_on xs [] ts h = absurd h
less_on [] (y ∷ p) ts h = tt
less_on (x ∷ xs) (y ∷ p) ts (inl h) = inl h
less_on (x ∷ xs) (y ∷ p) ts (inr h) = inr (h.0, less_on xs p ts h.1)

-- a beginning of what is below a derivation is below it
pub less_begin : (xs ts p : List ℕ) → Less (xs ++ ts) p → Less xs p
less_begin xs ts [] h = absurd h
less_begin [] ts (y ∷ p) h = tt
less_begin (x ∷ xs) ts (y ∷ p) (inl h) = inl h
less_begin (x ∷ xs) ts (y ∷ p) (inr h) = inr (h.0, less_begin xs ts p h.1)

-- the cursor goes to the next rank: new are the derivations through the edge that it stood at
pub next_rank : (rs p : List ℕ) (n : ℕ) → Less rs (p ++ suc n ∷ [])
    → Less rs (p ++ n ∷ []) ⊎ ((ts : List ℕ) × (rs ≡ p ++ n ∷ ts))
next_rank [] [] n h = inl tt
next_rank (r ∷ rs) [] n (inr h) = absurd h.1
next_rank (r ∷ rs) [] n (inl h) = by (order_of r n)
  where
    by : (r < n) ⊎ ((r ≡ n) ⊎ (n < r)) → Less (r ∷ rs) (n ∷ []) ⊎ ((ts : List ℕ) × (r ∷ rs ≡ n ∷ ts))
    by (inl k) = inl (inl k)
    by (inr (inl e)) = inr (rs, ap (λ w. w ∷ rs) e)
    by (inr (inr k)) = absurd (omega arith)
next_rank [] (q ∷ p) n h = inl tt
next_rank (r ∷ rs) (q ∷ p) n (inl h) = inl (inl h)
next_rank (r ∷ rs) (q ∷ p) n (inr h) = by (next_rank rs p n h.1)
  where
    by : Less rs (p ++ n ∷ []) ⊎ ((ts : List ℕ) × (rs ≡ p ++ n ∷ ts))
        → Less (r ∷ rs) (q ∷ p ++ n ∷ []) ⊎ ((ts : List ℕ) × (r ∷ rs ≡ q ∷ p ++ n ∷ ts))
    by (inl k) = inl (inr (h.0, k))
    by (inr (ts, e)) = let f : r ≡ q = h.0 in inr (ts, cc)

-- the cursor goes down: new is the derivation that it stood at
pub enter_rank : (rs q : List ℕ) → Less rs (q ++ zero ∷ []) → Less rs q ⊎ (rs ≡ q)
enter_rank [] [] h = inr refl
enter_rank (r ∷ rs) [] (inl h) = absurd (omega arith)
enter_rank (r ∷ rs) [] (inr h) = absurd h.1
enter_rank [] (x ∷ q) h = inl tt
enter_rank (r ∷ rs) (x ∷ q) (inl h) = inl (inl h)
enter_rank (r ∷ rs) (x ∷ q) (inr h) = by (enter_rank rs q h.1)
  where
    by : Less rs q ⊎ (rs ≡ q) → Less (r ∷ rs) (x ∷ q) ⊎ (r ∷ rs ≡ x ∷ q)
    by (inl k) = inl (inr (h.0, k))
    by (inr e) = let f : r ≡ x = h.0 in inr (cc)

-- any derivation through q is below its rank k, or is q itself or has an edge of a rank from k on
pub rank_cases : (q ts : List ℕ) (k : ℕ)
    → Less (q ++ ts) (q ++ k ∷ []) ⊎ ((r : ℕ) × (us : List ℕ) × (k ≤ r) × (q ++ ts ≡ q ++ r ∷ us))
rank_cases q [] k = inl (less_front q [] (k ∷ []) tt)
rank_cases q (r ∷ us) k = by (order_of r k)
  where
    by : (r < k) ⊎ ((r ≡ k) ⊎ (k < r))
        → Less (q ++ r ∷ us) (q ++ k ∷ []) ⊎ ((s : ℕ) × (vs : List ℕ) × (k ≤ s) × (q ++ r ∷ us ≡ q ++ s ∷ vs))
    by (inl h) = inl (less_front q (r ∷ us) (k ∷ []) (inl h))
    by (inr (inl h)) = inr (r, us, omega arith, refl)
    by (inr (inr h)) = inr (r, us, omega arith, refl)

-- a derivation above all of a rising list makes it longer
pub rising_push : (xs : List (List ℕ)) (y : List ℕ) → AreRising Less xs
    → ((x : List ℕ) → Contains xs x → Less x y) → AreRising Less (xs ++ y ∷ [])
rising_push [] y a h = ((λ x k. absurd (has_none x k)), tt)
rising_push (z ∷ xs) y a h =
    ((λ x k. by x (Contains-push_cases xs y x k)), rising_push xs y a.1 (λ x k. h x (has_tail xs z x k)))
  where
    by : (x : List ℕ) → Contains xs x ⊎ (y ≡ x) → Less z x
    by x (inl k) = a.0 x k
    by x (inr e) = subst (λ w. Less z w) e (h z (has_head xs z))
