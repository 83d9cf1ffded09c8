-- How a walk begins, goes down to a domain that it has not met, and leaves one whose edges were all tried.
use Rattle.std.proofs.Common.{◌≡◌, ℕ, zero, suc, ◌≤◌, ◌⊎◌, List, [], ◌∷◌, ◌++◌, refl, sym, ◌∙◌, ap, subst, inl, inr, append_assoc, append-nil, arith}
use Rattle.std.specs.Prelude.{Contains}
use Rattle.std.proofs.lemmas.List.Elements.{Contains-append_left, Contains-push, Contains-push_cases}
use Rattle.ddds_walk.specs.Graph.{Graph, Leads}
use Rattle.ddds_walk.specs.Order.{Less, AreRising}
use Rattle.ddds_walk.specs.Ways.{Mark, by_domain, Found, EndsAs, ranks_of, marks_of, Walked}
use Rattle.naptr_data.specs.Sources.{AreDistinct}
use Rattle.ddds_walk.proofs.OrderLemmas.{less_trans, less_longer, less_next, less_on, next_rank, enter_rank, rank_cases}
use Rattle.ddds_walk.proofs.ElementLemmas.{cut_last, has_none, has_same}
use Rattle.ddds_walk.proofs.GraphLemmas.{leads_join, leads_to, leads_by, ends_join, ends_by, ends_marked, ends_by_domain, leads_one, leads_rest, ends_rest}
use Rattle.ddds_walk.specs.Ways.{IsGraph}
use Rattle.ddds_walk.proofs.StepLemmas.{as_found, fresh_ends}

-- the list of ends has one more where P holds, and is as before where it does not
pub record Adds {V : Type 0} (old new : List (Found V)) (ranks : List ℕ) (mark : Mark V) (P : Type 0) : Type 0 where
  pub cases : (P × (new ≡ old ++ as_found ranks mark ∷ [])) ⊎ ((P → ⊥) × (new ≡ old))

module _ {V : Type 0} (old new : List (Found V)) (ranks : List ℕ) (mark : Mark V) (P : Type 0)
    (a : Adds old new ranks mark P) where
  pub adds_grew : (e : Found V) → Contains new e → Contains old e ⊎ (P × (as_found ranks mark ≡ e))
  adds_grew e k = by a.cases
    where
      more : P → Contains old e ⊎ (as_found ranks mark ≡ e) → Contains old e ⊎ (P × (as_found ranks mark ≡ e))
      more p (inl h) = inl h
      more p (inr h) = inr (p, h)

      by : (P × (new ≡ old ++ as_found ranks mark ∷ [])) ⊎ ((P → ⊥) × (new ≡ old))
          → Contains old e ⊎ (P × (as_found ranks mark ≡ e))
      by (inl (p, i)) =
          more p (Contains-push_cases old (as_found ranks mark) e (subst (λ v. Contains v e) i k))
      by (inr (n, i)) = inl (subst (λ v. Contains v e) i k)

  pub adds_kept : (e : Found V) → Contains old e → Contains new e
  adds_kept e k = by a.cases
    where
      by : (P × (new ≡ old ++ as_found ranks mark ∷ [])) ⊎ ((P → ⊥) × (new ≡ old)) → Contains new e
      by (inl (p, i)) =
          subst (λ v. Contains v e) (sym i) (Contains-append_left old (as_found ranks mark ∷ []) e k)
      by (inr (n, i)) = subst (λ v. Contains v e) (sym i) k

  pub adds_there : P → Contains new (as_found ranks mark)
  adds_there p = by a.cases
    where
      by : (P × (new ≡ old ++ as_found ranks mark ∷ [])) ⊎ ((P → ⊥) × (new ≡ old)) → Contains new (as_found ranks mark)
      by (inl (q, i)) =
          subst (λ v. Contains v (as_found ranks mark)) (sym i) (Contains-push old (as_found ranks mark))
      by (inr (n, i)) = absurd (n p)

module _ {V : Type 0} (g : Graph V) (laws : IsGraph g) (key : V) where
  -- before the first edge is tried the path is empty
  pub start : (found : List (Found V)) → Adds [] found [] (by_domain key) (g.Open key)
      → Walked g key [] found [] zero key
  start found a = record {
    here = refl;
    sound = λ e k. sound e (adds_grew [] found [] (by_domain key) (g.Open key) a e k);
    complete = λ rs mark l x. complete rs mark (empty rs l) x;
    least = λ e qs k. least e qs (adds_grew [] found [] (by_domain key) (g.Open key) a e k);
    simple = λ x r y d l h i. more x r y (empty (x ++ r ∷ y) i);
    first = λ d k. absurd (has_none d k);
    reached = λ rs d l i. inr ([], sym (append-nil rs ∙ empty rs i));
    apart = λ rs c d e l k. has_none d k;
    once = ends.0;
    rising = ends.1;
  }
    where
      empty : (rs : List ℕ) → Less rs (zero ∷ []) → rs ≡ []
      empty [] h = refl
      empty (r ∷ rs) (inl h) = absurd (omega arith)
      empty (r ∷ rs) (inr h) = absurd h.1

      more : (x : List ℕ) (r : ℕ) (y : List ℕ) → x ++ r ∷ y ≡ [] → ⊥
      more [] r y e = cc
      more (n ∷ x) r y e = cc

      sound : (e : Found V) → Contains [] e ⊎ (g.Open key × (as_found [] (by_domain key) ≡ e))
          → EndsAs g key e.ranks e.mark × Less e.ranks (zero ∷ [])
      sound e (inl k) = absurd (has_none e k)
      sound e (inr (o, i)) =
          let P : Found V → Type 0 = λ v. EndsAs g key v.ranks v.mark × Less v.ranks (zero ∷ []) in
          subst P i ((o, refl), tt)

      least : (e : Found V) (qs : List ℕ) → Contains [] e ⊎ (g.Open key × (as_found [] (by_domain key) ≡ e))
          → EndsAs g key qs e.mark → Less qs e.ranks → ⊥
      least e qs (inl k) x l = has_none e k
      least e qs (inr (o, i)) x l = subst (λ v. Less qs v) (sym (ap (λ (v : Found V). v.ranks) i)) l

      complete : (rs : List ℕ) (mark : Mark V) → rs ≡ [] → EndsAs g key rs mark
          → (e : Found V) × Contains found e × (e.mark ≡ mark) × ((e.ranks ≡ rs) ⊎ Less e.ranks rs)
      complete rs mark i x =
          let (o, n) = ends_by g rs [] key mark i x in
          (as_found [] (by_domain key), adds_there [] found [] (by_domain key) (g.Open key) a o, sym n, inl (sym i))

      ends : AreDistinct (marks_of found) × AreRising Less (ranks_of found)
      ends = by a.cases
        where
          none : (x : V) → (xs : List V) → Contains [] x → ⊥
          none x xs k = has_none x k

          by : (g.Open key × (found ≡ [] ++ as_found [] (by_domain key) ∷ [])) ⊎ ((g.Open key → ⊥) × (found ≡ []))
              → AreDistinct (marks_of found) × AreRising Less (ranks_of found)
          by (inl (o, i)) =
              let P : List (Found V) → Type 0 = λ v. AreDistinct (marks_of v) × AreRising Less (ranks_of v) in
              subst P (sym i) (((λ k. has_none (by_domain key) k), tt), ((λ y k. absurd (has_none y k)), tt))
          by (inr (o, i)) =
              let P : List (Found V) → Type 0 = λ v. AreDistinct (marks_of v) × AreRising Less (ranks_of v) in
              subst P (sym i) (tt, tt)

module _ {V : Type 0} (g : Graph V) (laws : IsGraph g) (key : V) (done : List V) (found : List (Found V))
    (path : List ℕ) (next : ℕ) (top : V) (w : Walked g key done found path next top) where
  -- the edge at the cursor leads to a domain that is neither finished nor on the path
  pub enter : (grown : List (Found V)) (m : V) → g.Steps top next m → (Contains done m → ⊥)
      → ((rs c : List ℕ) → path ≡ rs ++ c → Leads g key rs m → ⊥)
      → Adds found grown (path ++ next ∷ []) (by_domain m) (g.Open m)
      → Walked g key done grown (path ++ next ∷ []) zero m
  enter grown m s undone new a = record {
    here = to_m;
    sound = λ e k. sound e (grew e k);
    complete = λ rs mark l x. complete rs mark (enter_rank rs (path ++ next ∷ []) l) x;
    least = λ e qs k. least e qs (grew e k);
    simple = λ x r y d l h i. simple x r y d l h (enter_rank (x ++ r ∷ y) (path ++ next ∷ []) i);
    first = λ d k. let x = w.first d k in (x.0, x.1, λ ts. down (x.0 ++ ts) (x.2 ts));
    reached = λ rs d l i. reached rs d l (enter_rank rs (path ++ next ∷ []) i);
    apart = λ rs c d e l k. apart rs c d l k (cut_last rs c path next (sym e));
    once = ends.0;
    rising = ends.1;
  }
    where
      it : Found V
      it = as_found (path ++ next ∷ []) (by_domain m)

      grew : (e : Found V) → Contains grown e → Contains found e ⊎ (g.Open m × (it ≡ e))
      grew = adds_grew found grown (path ++ next ∷ []) (by_domain m) (g.Open m) a

      kept : (e : Found V) → Contains found e → Contains grown e
      kept = adds_kept found grown (path ++ next ∷ []) (by_domain m) (g.Open m) a

      there : g.Open m → Contains grown it
      there = adds_there found grown (path ++ next ∷ []) (by_domain m) (g.Open m) a

      to_m : Leads g key (path ++ next ∷ []) m
      to_m = leads_join g path (next ∷ []) key top m w.here (m, s, refl)

      down : (xs : List ℕ) → Less xs (path ++ next ∷ []) → Less xs (path ++ next ∷ [] ++ zero ∷ [])
      down xs x = less_on xs (path ++ next ∷ []) (zero ∷ []) x

      -- below the cursor nothing leads to the new domain
      unmet : (qs : List ℕ) → Leads g key qs m → Less qs (path ++ next ∷ []) → ⊥
      unmet qs l i = by (w.reached qs m l i)
        where
          by : Contains done m ⊎ ((c : List ℕ) × (path ≡ qs ++ c)) → ⊥
          by (inl k) = undone k
          by (inr (c, e)) = new qs c e l

      fresh : (qs : List ℕ) → EndsAs g key qs (by_domain m) → Less qs (path ++ next ∷ []) → ⊥
      fresh qs x l = unmet qs (ends_by_domain g qs key m x).0 l

      ends : AreDistinct (marks_of grown) × AreRising Less (ranks_of grown)
      ends = by a.cases
        where
          by : (g.Open m × (grown ≡ found ++ as_found (path ++ next ∷ []) (by_domain m) ∷ [])) ⊎ ((g.Open m → ⊥) × (grown ≡ found))
              → AreDistinct (marks_of grown) × AreRising Less (ranks_of grown)
          by (inl (o, i)) =
              fresh_ends g laws key done found path next top w (path ++ next ∷ []) (by_domain m) grown i
              (λ e k. (w.sound e k).1)
              (λ e k n. let x = w.sound e k in fresh e.ranks (ends_marked g e.ranks key e.mark (by_domain m) n x.0) x.1)
          by (inr (o, i)) =
              let P : List (Found V) → Type 0 = λ v. AreDistinct (marks_of v) × AreRising Less (ranks_of v) in
              subst P (sym i) (w.once, w.rising)

      sound : (e : Found V) → Contains found e ⊎ (g.Open m × (it ≡ e))
          → EndsAs g key e.ranks e.mark × Less e.ranks (path ++ next ∷ [] ++ zero ∷ [])
      sound e (inl k) = let x = w.sound e k in (x.0, down e.ranks x.1)
      sound e (inr (o, i)) =
          let P : Found V → Type 0 = λ v. EndsAs g key v.ranks v.mark × Less v.ranks (path ++ next ∷ [] ++ zero ∷ []) in
          let x : EndsAs g key (path ++ next ∷ [] ++ []) (by_domain m) =
          ends_join g (path ++ next ∷ []) [] key m (by_domain m) to_m (o, refl) in
          subst P i (
            ends_by g (path ++ next ∷ [] ++ []) (path ++ next ∷ []) key (by_domain m) (append-nil (path ++ next ∷ [])) x,
            less_longer (path ++ next ∷ []) zero [],
          )

      least : (e : Found V) (qs : List ℕ) → Contains found e ⊎ (g.Open m × (it ≡ e))
          → EndsAs g key qs e.mark → Less qs e.ranks → ⊥
      least e qs (inl k) x l = w.least e qs k x l
      least e qs (inr (o, i)) x l =
          fresh qs (ends_marked g qs key e.mark (by_domain m) (sym (ap (λ (v : Found V). v.mark) i)) x)
          (subst (λ v. Less qs v) (sym (ap (λ (v : Found V). v.ranks) i)) l)

      complete : (rs : List ℕ) (mark : Mark V) → Less rs (path ++ next ∷ []) ⊎ (rs ≡ path ++ next ∷ [])
          → EndsAs g key rs mark
          → (e : Found V) × Contains grown e × (e.mark ≡ mark) × ((e.ranks ≡ rs) ⊎ Less e.ranks rs)
      complete rs mark (inl l) x = let (e, k, n, o) = w.complete rs mark l x in (e, kept e k, n, o)
      complete rs mark (inr i) x =
          let (o, n) = ends_rest g laws (path ++ next ∷ []) [] key m mark
          (ends_by g rs (path ++ next ∷ [] ++ []) key mark (i ∙ sym (append-nil (path ++ next ∷ []))) x) to_m in
          (it, there o, sym n, inl (sym i))

      simple : (x : List ℕ) (r : ℕ) (y : List ℕ) (d : V) → Leads g key x d → Leads g d (r ∷ y) d
          → Less (x ++ r ∷ y) (path ++ next ∷ []) ⊎ (x ++ r ∷ y ≡ path ++ next ∷ []) → ⊥
      simple x r y d l h (inl i) = w.simple x r y d l h i
      simple x r y d l h (inr i) = by (cut_last x (r ∷ y) path next i)
        where
          d-is : d ≡ m
          d-is = leads_one g laws (path ++ next ∷ []) key d m
              (leads_by g (x ++ r ∷ y) (path ++ next ∷ []) key d i (leads_join g x (r ∷ y) key d d l h)) to_m

          by : ((r ∷ y ≡ []) × (x ≡ path ++ next ∷ [])) ⊎ ((c : List ℕ) × (path ≡ x ++ c) × (r ∷ y ≡ c ++ next ∷ [])) → ⊥
          by (inl (e, f)) = cc
          by (inr (c, e, f)) = new x c e (leads_to g x key d m d-is l)

      reached : (rs : List ℕ) (d : V) → Leads g key rs d
          → Less rs (path ++ next ∷ []) ⊎ (rs ≡ path ++ next ∷ [])
          → Contains done d ⊎ ((c : List ℕ) × (path ++ next ∷ [] ≡ rs ++ c))
      reached rs d l (inl i) = by (w.reached rs d l i)
        where
          by : Contains done d ⊎ ((c : List ℕ) × (path ≡ rs ++ c))
              → Contains done d ⊎ ((c : List ℕ) × (path ++ next ∷ [] ≡ rs ++ c))
          by (inl k) = inl k
          by (inr (c, e)) = inr (c ++ next ∷ [], ap (λ v. v ++ next ∷ []) e ∙ append_assoc rs c (next ∷ []))
      reached rs d l (inr i) = inr ([], sym i ∙ sym (append-nil rs))

      apart : (rs c : List ℕ) (d : V) → Leads g key rs d → Contains done d
          → ((c ≡ []) × (rs ≡ path ++ next ∷ [])) ⊎ ((b : List ℕ) × (path ≡ rs ++ b) × (c ≡ b ++ next ∷ [])) → ⊥
      apart rs c d l k (inl (e, f)) =
          undone (has_same done d m
          (leads_one g laws (path ++ next ∷ []) key d m (leads_by g rs (path ++ next ∷ []) key d f l) to_m) k)
      apart rs c d l k (inr (b, e, f)) = w.apart rs b d e l k

module _ {V : Type 0} (g : Graph V) (laws : IsGraph g) (key : V) (done : List V) (found : List (Found V))
    (path : List ℕ) (last next : ℕ) (top : V) (w : Walked g key done found (path ++ last ∷ []) next top) where
  -- all edges of the last domain were tried: it is finished, and the walk goes on after the edge that led to it
  pub leave : (up : V) → Leads g key path up
      → ((r : ℕ) (m : V) → next ≤ r → g.Steps top r m → ⊥)
      → ((r : ℕ) → next ≤ r → g.Stops top r → ⊥)
      → Walked g key (done ++ top ∷ []) found path (suc last) up
  leave up l no_steps no_stops = record {
    here = l;
    sound = λ e k. let x = w.sound e k in (x.0, above e.ranks x.1);
    complete = λ rs mark i x. complete rs mark (low rs i) x;
    least = w.least;
    simple = λ x r y d h i j. simple x r y d h i (low (x ++ r ∷ y) j);
    first = λ d k. first d (Contains-push_cases done top d k);
    reached = λ rs d h i. reached rs d h (low rs i);
    apart = λ rs c d e h k. apart rs c d e h (Contains-push_cases done top d k);
    once = w.once;
    rising = w.rising;
  }
    where
      here : List ℕ
      here = path ++ last ∷ []

      above : (xs : List ℕ) → Less xs (path ++ last ∷ [] ++ next ∷ []) → Less xs (path ++ suc last ∷ [])
      above xs x = less_trans xs (path ++ last ∷ [] ++ next ∷ []) (path ++ suc last ∷ []) x
          (subst (λ v. Less v (path ++ suc last ∷ [])) (sym (append_assoc path (last ∷ []) (next ∷ []))) (less_next path last (next ∷ [])))

      -- what is new below the cursor would go through an edge that the last domain does not have
      low : (xs : List ℕ) → Less xs (path ++ suc last ∷ [])
          → Less xs (path ++ last ∷ [] ++ next ∷ [])
          ⊎ ((r : ℕ) × (us : List ℕ) × (next ≤ r) × (xs ≡ path ++ last ∷ [] ++ r ∷ us))
      low xs x = by (next_rank xs path last x)
        where
          at : (ts : List ℕ) → xs ≡ path ++ last ∷ [] ++ ts
              → Less (path ++ last ∷ [] ++ ts) (path ++ last ∷ [] ++ next ∷ [])
              ⊎ ((r : ℕ) × (us : List ℕ) × (next ≤ r) × (path ++ last ∷ [] ++ ts ≡ path ++ last ∷ [] ++ r ∷ us))
              → Less xs (path ++ last ∷ [] ++ next ∷ [])
              ⊎ ((r : ℕ) × (us : List ℕ) × (next ≤ r) × (xs ≡ path ++ last ∷ [] ++ r ∷ us))
          at ts e (inl i) = inl (subst (λ v. Less v (path ++ last ∷ [] ++ next ∷ [])) (sym e) i)
          at ts e (inr (r, us, i, f)) = inr (r, us, i, e ∙ f)

          by : Less xs (path ++ last ∷ []) ⊎ ((ts : List ℕ) × (xs ≡ path ++ last ∷ ts))
              → Less xs (path ++ last ∷ [] ++ next ∷ [])
              ⊎ ((r : ℕ) × (us : List ℕ) × (next ≤ r) × (xs ≡ path ++ last ∷ [] ++ r ∷ us))
          by (inl i) = inl (less_on xs (path ++ last ∷ []) (next ∷ []) i)
          by (inr (ts, e)) =
              at ts (e ∙ sym (append_assoc path (last ∷ []) ts)) (rank_cases (path ++ last ∷ []) ts next)

      no_way : (r : ℕ) (us : List ℕ) (d : V) → next ≤ r → Leads g key (path ++ last ∷ [] ++ r ∷ us) d → ⊥
      no_way r us d i h =
          let (n, t, x) = leads_rest g laws (path ++ last ∷ []) (r ∷ us) key top d h w.here in no_steps r n i t

      no_end : (r : ℕ) (us : List ℕ) (mark : Mark V) → next ≤ r → EndsAs g top (r ∷ us) mark → ⊥
      no_end r us mark i (inl (t, e, f)) = no_stops r i t
      no_end r us mark i (inr (n, t, x)) = no_steps r n i t

      complete : (rs : List ℕ) (mark : Mark V)
          → Less rs (path ++ last ∷ [] ++ next ∷ [])
          ⊎ ((r : ℕ) × (us : List ℕ) × (next ≤ r) × (rs ≡ path ++ last ∷ [] ++ r ∷ us))
          → EndsAs g key rs mark
          → (e : Found V) × Contains found e × (e.mark ≡ mark) × ((e.ranks ≡ rs) ⊎ Less e.ranks rs)
      complete rs mark (inl i) x = w.complete rs mark i x
      complete rs mark (inr (r, us, i, e)) x =
          absurd (no_end r us mark i (ends_rest g laws (path ++ last ∷ []) (r ∷ us) key top mark
          (ends_by g rs (path ++ last ∷ [] ++ r ∷ us) key mark e x) w.here))

      simple : (x : List ℕ) (s : ℕ) (y : List ℕ) (d : V) → Leads g key x d → Leads g d (s ∷ y) d
          → Less (x ++ s ∷ y) (path ++ last ∷ [] ++ next ∷ [])
          ⊎ ((r : ℕ) × (us : List ℕ) × (next ≤ r) × (x ++ s ∷ y ≡ path ++ last ∷ [] ++ r ∷ us)) → ⊥
      simple x s y d h j (inl i) = w.simple x s y d h j i
      simple x s y d h j (inr (r, us, i, e)) =
          no_way r us d i (leads_by g (x ++ s ∷ y) (path ++ last ∷ [] ++ r ∷ us) key d e (leads_join g x (s ∷ y) key d d h j))

      first : (d : V) → Contains done d ⊎ (top ≡ d)
          → (q : List ℕ) × Leads g key q d × ((ts : List ℕ) → Less (q ++ ts) (path ++ suc last ∷ []))
      first d (inl k) = let x = w.first d k in (x.0, x.1, λ ts. above (x.0 ++ ts) (x.2 ts))
      first d (inr e) = (
        path ++ last ∷ [],
        leads_to g (path ++ last ∷ []) key top d e w.here,
        λ ts. subst (λ v. Less v (path ++ suc last ∷ [])) (sym (append_assoc path (last ∷ []) ts)) (less_next path last ts),
      )

      reached : (rs : List ℕ) (d : V) → Leads g key rs d
          → Less rs (path ++ last ∷ [] ++ next ∷ [])
          ⊎ ((r : ℕ) × (us : List ℕ) × (next ≤ r) × (rs ≡ path ++ last ∷ [] ++ r ∷ us))
          → Contains (done ++ top ∷ []) d ⊎ ((c : List ℕ) × (path ≡ rs ++ c))
      reached rs d h (inl i) = by (w.reached rs d h i)
        where
          cut : (c : List ℕ) → ((c ≡ []) × (rs ≡ path ++ last ∷ [])) ⊎ ((b : List ℕ) × (path ≡ rs ++ b) × (c ≡ b ++ last ∷ []))
              → Contains (done ++ top ∷ []) d ⊎ ((c : List ℕ) × (path ≡ rs ++ c))
          cut c (inl (e, f)) =
              inl (has_same (done ++ top ∷ []) top d
              (leads_one g laws (path ++ last ∷ []) key top d w.here (leads_by g rs (path ++ last ∷ []) key d f h))
              (Contains-push done top))
          cut c (inr (b, e, f)) = inr (b, e)

          by : Contains done d ⊎ ((c : List ℕ) × (path ++ last ∷ [] ≡ rs ++ c))
              → Contains (done ++ top ∷ []) d ⊎ ((c : List ℕ) × (path ≡ rs ++ c))
          by (inl k) = inl (Contains-append_left done (top ∷ []) d k)
          by (inr (c, e)) = cut c (cut_last rs c path last (sym e))
      reached rs d h (inr (r, us, i, e)) =
          absurd (no_way r us d i (leads_by g rs (path ++ last ∷ [] ++ r ∷ us) key d e h))

      longer : (rs c : List ℕ) → path ≡ rs ++ c → path ++ last ∷ [] ≡ rs ++ (c ++ last ∷ [])
      longer rs c e = ap (λ v. v ++ last ∷ []) e ∙ append_assoc rs c (last ∷ [])

      round : (rs : List ℕ) (t : List ℕ) → path ++ last ∷ [] ≡ rs ++ t → Leads g key rs top → (b : List ℕ) → t ≡ b ++ last ∷ [] → ⊥
      round rs [] e h b f = none b f
        where
          none : (b : List ℕ) → [] ≡ b ++ last ∷ [] → ⊥
          none [] f = cc
          none (x ∷ b) f = cc
      round rs (r ∷ t) e h b f =
          w.simple rs r t top h
          (leads_rest g laws rs (r ∷ t) key top top (leads_by g (path ++ last ∷ []) (rs ++ r ∷ t) key top e w.here) h)
          (subst (λ v. Less v (path ++ last ∷ [] ++ next ∷ [])) e (less_longer (path ++ last ∷ []) next []))

      apart : (rs c : List ℕ) (d : V) → path ≡ rs ++ c → Leads g key rs d → Contains done d ⊎ (top ≡ d) → ⊥
      apart rs c d e h (inl k) = w.apart rs (c ++ last ∷ []) d (longer rs c e) h k
      apart rs c d e h (inr i) = round rs (c ++ last ∷ []) (longer rs c e) (leads_to g rs key d top (sym i) h) c refl
