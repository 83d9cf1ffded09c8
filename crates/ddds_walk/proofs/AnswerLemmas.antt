-- What a walk's state says at its end: the least loop, or the report; and which domains are needed.
use Rattle.std.proofs.Common.{◌≡◌, ℕ, ◌≤◌, ◌⊎◌, List, [], ◌∷◌, ◌++◌, refl, subst, inl, inr}
use Rattle.std.specs.Prelude.{Contains}
use Rattle.ddds_walk.specs.Graph.{Graph, Leads, Passes}
use Rattle.ddds_walk.specs.Order.{Less}
use Rattle.ddds_walk.specs.Ways.{Mark, Found, EndsAs, IsRound, IsLeastRound, HasNoRound, IsMet, marks_of, Walked}
use Rattle.naptr_data.specs.Sources.{AreDistinct}
use Rattle.ddds_walk.proofs.OrderLemmas.{less_cases, rank_cases}
use Rattle.ddds_walk.proofs.ElementLemmas.{has_none, has_cons, has_map}
use Rattle.ddds_walk.proofs.GraphLemmas.{leads_join, leads_by, leads_one, leads_rest, passes_one, passes_push, passes_has, passes_cut}
use Rattle.ddds_walk.specs.Ways.{IsGraph}

module _ {V : Type 0} (g : Graph V) (laws : IsGraph g) (key : V) (done : List V) (found : List (Found V))
    (path : List ℕ) (next : ℕ) (top : V) (w : Walked g key done found path next top) where
  -- no loop is below the cursor
  pub no_loop_below : (ls : List ℕ) (ds : List V) (d : V) → IsRound g key ls ds d → Less ls (path ++ next ∷ []) → ⊥
  no_loop_below ls ds d l h =
      let (a, r, b, e, x, y) = passes_cut g laws ls key d ds l.passes l.leads l.again in
      w.simple a r b d x y (subst (λ v. Less v (path ++ next ∷ [])) e h)

  -- the edge at the cursor leads back to a domain on the path: it closes the least loop
  pub least_loop : (ds : List V) (m : V) → Passes g key path ds → AreDistinct (ds ++ top ∷ [])
      → g.Steps top next m → Contains (ds ++ top ∷ []) m
      → IsLeastRound g key (path ++ next ∷ []) (ds ++ top ∷ []) m
  least_loop ds m p u s h = record {
    loop = record {
      leads = leads_join g path (next ∷ []) key top m w.here (m, s, refl);
      passes = passes_push g laws path key top m next ds p w.here s;
      again = h;
      others = u;
    };
    least = no_loop_below;
  }

  -- a domain to which nothing on the path leads
  pub unmet : (ds : List V) (m : V) → Passes g key path ds → (Contains (ds ++ top ∷ []) m → ⊥)
      → (rs c : List ℕ) → path ≡ rs ++ c → Leads g key rs m → ⊥
  unmet ds m p h rs c e l =
      let t : Leads g m c top = leads_rest g laws rs c key m top (leads_by g path (rs ++ c) key top e w.here) l in
      h (passes_has g laws rs c key m top ds l t (subst (λ v. Passes g key v ds) e p))

  -- the domain to which the edge at the cursor leads is needed, where it is not on the path
  pub next_needed : (ds : List V) (m : V) → Passes g key path ds → g.Steps top next m
      → (Contains (ds ++ top ∷ []) m → ⊥) → IsMet g key m
  next_needed ds m p s new = (path ++ next ∷ [], to_m, λ ls es x i. by ls es x i (less_cases ls (path ++ next ∷ [])))
    where
      to_m : Leads g key (path ++ next ∷ []) m
      to_m = leads_join g path (next ∷ []) key top m w.here (m, s, refl)

      not_here : (ls : List ℕ) (es : List V) (x : V) → IsRound g key ls es x → ls ≡ path ++ next ∷ [] → ⊥
      not_here ls es x i e =
          let j : Passes g key (path ++ next ∷ []) es = subst (λ v. Passes g key v es) e i.passes in
          let es-is : es ≡ ds ++ top ∷ [] =
          passes_one g laws (path ++ next ∷ []) key es (ds ++ top ∷ []) j
          (passes_push g laws path key top m next ds p w.here s) in
          let x-is : x ≡ m = leads_one g laws (path ++ next ∷ []) key x m (leads_by g ls (path ++ next ∷ []) key x e i.leads) to_m in
          let P : V → Type 0 = λ v. Contains (ds ++ top ∷ []) v in
          new (subst P x-is (subst (λ v. Contains v x) es-is i.again))

      by : (ls : List ℕ) (es : List V) (x : V) → IsLeastRound g key ls es x
          → Less ls (path ++ next ∷ []) ⊎ ((ls ≡ path ++ next ∷ []) ⊎ Less (path ++ next ∷ []) ls)
          → Less (path ++ next ∷ []) ls
      by ls es x i (inl k) = absurd (no_loop_below ls es x i.loop k)
      by ls es x i (inr (inl e)) = absurd (not_here ls es x i.loop e)
      by ls es x i (inr (inr k)) = k

  -- what is reached below the cursor was met: it is finished or on the path
  pub met_below : (ds : List V) (rs : List ℕ) (d : V) → Passes g key path ds → Leads g key rs d
      → Less rs (path ++ next ∷ []) → Contains done d ⊎ Contains (ds ++ top ∷ []) d
  met_below ds rs d p l h = by (w.reached rs d l h)
    where
      by : Contains done d ⊎ ((c : List ℕ) × (path ≡ rs ++ c)) → Contains done d ⊎ Contains (ds ++ top ∷ []) d
      by (inl k) = inl k
      by (inr (c, e)) =
          let t : Leads g d c top = leads_rest g laws rs c key d top (leads_by g path (rs ++ c) key top e w.here) l in
          inr (passes_has g laws rs c key d top ds l t (subst (λ v. Passes g key v ds) e p))

  -- where the cursor is at the least loop, each needed domain was met
  pub needed_met : (ds es : List V) (d x : V) → Passes g key path ds
      → IsLeastRound g key (path ++ next ∷ []) es x → IsMet g key d → Contains done d ⊎ Contains (ds ++ top ∷ []) d
  needed_met ds es d x p i n = met_below ds n.0 d p n.1 (n.2 (path ++ next ∷ []) es x i)

-- at the end: the path is empty, and all edges of the key were tried
module _ {V : Type 0} (g : Graph V) (laws : IsGraph g) (key : V) (done : List V) (found : List (Found V))
    (next : ℕ) (w : Walked g key done found [] next key)
    (no_steps : (r : ℕ) (m : V) → next ≤ r → g.Steps key r m → ⊥)
    (no_stops : (r : ℕ) → next ≤ r → g.Stops key r → ⊥) where
  -- whatever leads somewhere is below the cursor
  pub all_below : (rs : List ℕ) (d : V) → Leads g key rs d → Less rs (next ∷ [])
  all_below rs d l = by (rank_cases [] rs next)
    where
      by : Less rs (next ∷ []) ⊎ ((r : ℕ) × (us : List ℕ) × (next ≤ r) × (rs ≡ r ∷ us)) → Less rs (next ∷ [])
      by (inl h) = h
      by (inr (r, us, h, e)) = let x = leads_by g rs (r ∷ us) key d e l in absurd (no_steps r x.0 h x.1)

  pub ends_below : (rs : List ℕ) (mark : Mark V) → EndsAs g key rs mark → Less rs (next ∷ [])
  ends_below rs mark l = by (rank_cases [] rs next)
    where
      no : (r : ℕ) (us : List ℕ) → next ≤ r → EndsAs g key (r ∷ us) mark → ⊥
      no r us h (inl x) = no_stops r h x.0
      no r us h (inr x) = no_steps r x.0 h x.1

      by : Less rs (next ∷ []) ⊎ ((r : ℕ) × (us : List ℕ) × (next ≤ r) × (rs ≡ r ∷ us)) → Less rs (next ∷ [])
      by (inl h) = h
      by (inr (r, us, h, e)) = absurd (no r us h (subst (λ v. EndsAs g key v mark) e l))

  pub no_loop : HasNoRound g key
  no_loop ls ds d l = no_loop_below g laws key done found [] next key w ls ds d l (all_below ls d l.leads)

  -- each end's mark was found
  pub all_found : (rs : List ℕ) (mark : Mark V) → EndsAs g key rs mark → Contains (marks_of found) mark
  all_found rs mark x =
      let (e, k, n, o) = w.complete rs mark (ends_below rs mark x) x in
      subst (λ v. Contains (marks_of found) v) n (has_map (λ (v : Found V). v.mark) found e k)

  -- each domain to which some derivation leads is finished, or the key
  pub all_met : (rs : List ℕ) (d : V) → Leads g key rs d → Contains done d ⊎ (key ≡ d)
  all_met rs d l = by (met_below g laws key done found [] next key w [] rs d refl l (all_below rs d l))
    where
      one : (key ≡ d) ⊎ Contains [] d → Contains done d ⊎ (key ≡ d)
      one (inl e) = inr e
      one (inr k) = absurd (has_none d k)

      by : Contains done d ⊎ Contains (key ∷ []) d → Contains done d ⊎ (key ≡ d)
      by (inl k) = inl k
      by (inr k) = one (has_cons [] key d k)
