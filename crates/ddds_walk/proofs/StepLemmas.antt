-- How the state of a walk changes: an edge to a finished domain, a terminal edge, an edge to a new domain.
use Rattle.std.proofs.Common.{◌≡◌, ℕ, suc, ◌⊎◌, List, [], ◌∷◌, ◌++◌, refl, sym, ◌∙◌, ap, subst, inl, inr, append_assoc, append-nil}
use Rattle.std.specs.Prelude.{Contains}
use Rattle.std.proofs.lemmas.List.Elements.{Contains-append_left, Contains-push, Contains-push_cases}
use Rattle.std.proofs.lemmas.List.{map-append}
use Rattle.ddds_walk.specs.Graph.{Graph, Leads}
use Rattle.ddds_walk.specs.Order.{Less, AreRising}
use Rattle.ddds_walk.specs.Ways.{Mark, by_rule, Found, EndsAs, ranks_of, marks_of, Walked}
use Rattle.naptr_data.specs.Sources.{AreDistinct}
use Rattle.ddds_walk.proofs.OrderLemmas.{less_irrefl, less_trans, less_longer, less_next, less_on, less_begin, next_rank, rising_push}
use Rattle.ddds_walk.proofs.ElementLemmas.{cuts, has_same, has_unmap, distinct_push}
use Rattle.ddds_walk.proofs.GraphLemmas.{leads_join, leads_from, leads_by, ends_join, ends_by, ends_marked, ends_by_rule, leads_rest, ends_rest}
use Rattle.ddds_walk.specs.Ways.{IsGraph}

-- the ranks and the mark of an end, as it is kept
abbrev pub as_found : {V : Type 0} → List ℕ → Mark V → Found V
as_found ranks mark = record { ranks = ranks; mark = mark }

module _ {V : Type 0} (g : Graph V) (laws : IsGraph g) (key : V) (done : List V) (found : List (Found V))
    (path : List ℕ) (next : ℕ) (top : V) (w : Walked g key done found path next top) where
  -- what a finished domain leads to is finished
  pub closed : (d m : V) (r : ℕ) → Contains done d → g.Steps d r m → Contains done m
  closed d m r h s = by (w.first d h)
    where
      by : (q : List ℕ) × Leads g key q d × ((ts : List ℕ) → Less (q ++ ts) (path ++ next ∷ [])) → Contains done m
      by (q, l, all) = on (w.reached (q ++ r ∷ []) m (leads_join g q (r ∷ []) key d m l (m, s, refl)) (all (r ∷ [])))
        where
          on : Contains done m ⊎ ((c : List ℕ) × (path ≡ (q ++ r ∷ []) ++ c)) → Contains done m
          on (inl k) = k
          on (inr (c, e)) =
              let f : q ++ (r ∷ c ++ next ∷ []) ≡ path ++ next ∷ [] =
              sym (append_assoc q (r ∷ c) (next ∷ []))
              ∙ ap (λ v. v ++ next ∷ []) (sym (append_assoc q (r ∷ []) c) ∙ sym e) in
              absurd (less_irrefl (path ++ next ∷ [])
              (subst (λ v. Less v (path ++ next ∷ [])) f (all (r ∷ c ++ next ∷ []))))

  pub closed_along : (rs : List ℕ) (d m : V) → Contains done d → Leads g d rs m → Contains done m
  closed_along [] d m h e = has_same done d m e h
  closed_along (r ∷ rs) d m h (n, s, l) = closed_along rs n m (closed d n r h s) l

  -- below the cursor only the path itself leads to its last domain
  pub path_alone : (p : List ℕ) → Leads g key p top → Less p (path ++ next ∷ []) → p ≡ path
  path_alone p l h = by (w.reached p top l h)
    where
      on : (c : List ℕ) → path ≡ p ++ c → p ≡ path
      on [] e = sym (append-nil p) ∙ sym e
      on (r ∷ c) e =
          let t : Leads g top (r ∷ c) top =
          leads_rest g laws p (r ∷ c) key top top (leads_by g path (p ++ r ∷ c) key top e w.here) l in
          absurd (w.simple p r c top l t (subst (λ v. Less v (path ++ next ∷ [])) e (less_longer path next [])))

      by : Contains done top ⊎ ((c : List ℕ) × (path ≡ p ++ c)) → p ≡ path
      by (inl k) = absurd (w.apart path [] top (sym (append-nil path)) w.here k)
      by (inr (c, e)) = on c e

  -- a list of ends that grew by one at the cursor or above it still rises, and has no mark twice
  pub fresh_ends : (rs : List ℕ) (mark : Mark V) (xs : List (Found V))
      → xs ≡ found ++ as_found rs mark ∷ []
      → ((e : Found V) → Contains found e → Less e.ranks rs)
      → ((e : Found V) → Contains found e → e.mark ≡ mark → ⊥)
      → AreDistinct (marks_of xs) × AreRising Less (ranks_of xs)
  fresh_ends rs mark xs e below new =
      let n : marks_of xs ≡ marks_of found ++ mark ∷ [] =
      ap marks_of e ∙ map-append (λ (v : Found V). v.mark) found (as_found rs mark ∷ []) in
      let r : ranks_of xs ≡ ranks_of found ++ rs ∷ [] =
      ap ranks_of e ∙ map-append (λ (v : Found V). v.ranks) found (as_found rs mark ∷ []) in (
        subst (λ v. AreDistinct v) (sym n) (distinct_push (marks_of found) mark w.once once),
        subst (λ v. AreRising Less v) (sym r) (rising_push (ranks_of found) rs w.rising rises),
      )
    where
      once : Contains (marks_of found) mark → ⊥
      once h = let (x, k, f) = has_unmap (λ (v : Found V). v.mark) found mark h in new x k f

      rises : (x : List ℕ) → Contains (ranks_of found) x → Less x rs
      rises x h =
          let (y, k, f) = has_unmap (λ (v : Found V). v.ranks) found x h in
          subst (λ v. Less v rs) f (below y k)

  -- what is below the cursor stays below it when it goes on
  pub up : (xs : List ℕ) → Less xs (path ++ next ∷ []) → Less xs (path ++ suc next ∷ [])
  up xs x = less_trans xs (path ++ next ∷ []) (path ++ suc next ∷ []) x (less_next path next [])

  -- the edge at the cursor leads to a finished domain
  pub skip : (m : V) → g.Steps top next m → Contains done m → Walked g key done found path (suc next) top
  skip m s h = record {
    here = w.here;
    sound = λ e k. let x = w.sound e k in (x.0, up e.ranks x.1);
    complete = λ rs mark l x. complete rs mark x (next_rank rs path next l);
    least = w.least;
    simple = λ a r b d l x y. simple a r b d l x (next_rank (a ++ r ∷ b) path next y);
    first = λ d k. let x = w.first d k in (x.0, x.1, λ ts. up (x.0 ++ ts) (x.2 ts));
    reached = λ rs d l x. reached rs d l (next_rank rs path next x);
    apart = w.apart;
    once = w.once;
    rising = w.rising;
  }
    where
      q : List ℕ
      q = (w.first m h).0

      lq : Leads g key q m
      lq = (w.first m h).1

      all : (ts : List ℕ) → Less (q ++ ts) (path ++ next ∷ [])
      all = (w.first m h).2

      -- a derivation through the edge goes on from m
      from_m : (ts : List ℕ) (d : V) → Leads g key (path ++ next ∷ ts) d → Leads g m ts d
      from_m ts d l =
          let (n, t, x) = leads_rest g laws path (next ∷ ts) key top d l w.here in
          leads_from g ts n m d (laws.one top next n m t s) x

      done_on : (ts : List ℕ) (d : V) → Leads g key (path ++ next ∷ ts) d → Contains done d
      done_on ts d l = closed_along ts m d h (from_m ts d l)

      -- an end through the edge is reached from m too
      end_m : (ts : List ℕ) (mark : Mark V) → EndsAs g top (next ∷ ts) mark → EndsAs g m ts mark
      end_m ts mark (inl x) = absurd (laws.either top next m s x.0)
      end_m ts mark (inr (n, t, x)) = subst (λ v. EndsAs g v ts mark) (laws.one top next n m t s) x

      complete : (rs : List ℕ) (mark : Mark V) → EndsAs g key rs mark
          → Less rs (path ++ next ∷ []) ⊎ ((ts : List ℕ) × (rs ≡ path ++ next ∷ ts))
          → (e : Found V) × Contains found e × (e.mark ≡ mark) × ((e.ranks ≡ rs) ⊎ Less e.ranks rs)
      complete rs mark x (inl l) = w.complete rs mark l x
      complete rs mark x (inr (ts, e)) = on (w.complete (q ++ ts) mark (all ts) j)
        where
          j : EndsAs g key (q ++ ts) mark
          j = ends_join g q ts key m mark lq
              (end_m ts mark (ends_rest g laws path (next ∷ ts) key top mark (ends_by g rs (path ++ next ∷ ts) key mark e x) w.here))

          below : (xs : List ℕ) → (xs ≡ q ++ ts) ⊎ Less xs (q ++ ts) → Less xs (path ++ next ∷ [])
          below xs (inl f) = subst (λ v. Less v (path ++ next ∷ [])) (sym f) (all ts)
          below xs (inr f) = less_trans xs (q ++ ts) (path ++ next ∷ []) f (all ts)

          over : path ++ next ∷ [] ++ ts ≡ rs
          over = append_assoc path (next ∷ []) ts ∙ sym e

          on : (f : Found V) × Contains found f × (f.mark ≡ mark) × ((f.ranks ≡ q ++ ts) ⊎ Less f.ranks (q ++ ts))
              → (f : Found V) × Contains found f × (f.mark ≡ mark) × ((f.ranks ≡ rs) ⊎ Less f.ranks rs)
          on (f, k, n, o) = (
            f,
            k,
            n,
            inr (subst (λ v. Less f.ranks v) over
                (less_on f.ranks (path ++ next ∷ []) ts (below f.ranks o))),
          )

      simple : (a : List ℕ) (r : ℕ) (b : List ℕ) (d : V) → Leads g key a d → Leads g d (r ∷ b) d
          → Less (a ++ r ∷ b) (path ++ next ∷ []) ⊎ ((ts : List ℕ) × (a ++ r ∷ b ≡ path ++ next ∷ ts)) → ⊥
      simple a r b d l x (inl y) = w.simple a r b d l x y
      simple a r b d l x (inr (ts, e)) = by (cuts a (r ∷ b) path (next ∷ ts) e)
        where
          finished : Contains done d
          finished = done_on ts d
              (leads_by g (a ++ r ∷ b) (path ++ next ∷ ts) key d e (leads_join g a (r ∷ b) key d d l x))

          past : (u : List ℕ) → a ≡ path ++ u → next ∷ ts ≡ u ++ r ∷ b → ⊥
          past [] f j = w.apart a [] d (sym (append-nil path) ∙ sym f ∙ sym (append-nil a)) l finished
          past (n ∷ u) f j =
              let i : a ≡ path ++ next ∷ u = let n-is : next ≡ n = cc in f ∙ ap (λ v. path ++ v ∷ u) (sym n-is) in
              let lu : Leads g m u d = from_m u d (leads_by g a (path ++ next ∷ u) key d i l) in
              w.simple (q ++ u) r b d (leads_join g q u key m d lq lu) x
              (subst (λ v. Less v (path ++ next ∷ [])) (sym (append_assoc q u (r ∷ b))) (all (u ++ r ∷ b)))

          by : ((u : List ℕ) × (a ≡ path ++ u) × (next ∷ ts ≡ u ++ r ∷ b))
              ⊎ ((u : List ℕ) × (path ≡ a ++ u) × (r ∷ b ≡ u ++ next ∷ ts)) → ⊥
          by (inl (u, f, j)) = past u f j
          by (inr (u, f, j)) = w.apart a u d f l finished

      reached : (rs : List ℕ) (d : V) → Leads g key rs d
          → Less rs (path ++ next ∷ []) ⊎ ((ts : List ℕ) × (rs ≡ path ++ next ∷ ts))
          → Contains done d ⊎ ((c : List ℕ) × (path ≡ rs ++ c))
      reached rs d l (inl x) = w.reached rs d l x
      reached rs d l (inr (ts, e)) = inl (done_on ts d (leads_by g rs (path ++ next ∷ ts) key d e l))

  -- the edge at the cursor is terminal: its end is new, and has its least derivation
  pub stop : (grown : List (Found V)) → g.Stops top next
      → grown ≡ found ++ as_found (path ++ next ∷ []) (by_rule top next) ∷ []
      → Walked g key done grown path (suc next) top
  stop grown s g-is = record {
    here = w.here;
    sound = λ e k. sound e (grew e k);
    complete = λ rs mark l x. complete rs mark x (next_rank rs path next l);
    least = λ e qs k. least e qs (grew e k);
    simple = λ a r b d l x y. simple a r b d l x (next_rank (a ++ r ∷ b) path next y);
    first = λ d k. let x = w.first d k in (x.0, x.1, λ ts. up (x.0 ++ ts) (x.2 ts));
    reached = λ rs d l x. reached rs d l (next_rank rs path next x);
    apart = w.apart;
    once = ends.0;
    rising = ends.1;
  }
    where
      it : Found V
      it = as_found (path ++ next ∷ []) (by_rule top next)

      grew : (e : Found V) → Contains grown e → Contains found e ⊎ (it ≡ e)
      grew e k = Contains-push_cases found it e (subst (λ v. Contains v e) g-is k)

      kept : (e : Found V) → Contains found e → Contains grown e
      kept e k = subst (λ v. Contains v e) (sym g-is) (Contains-append_left found (it ∷ []) e k)

      there : Contains grown it
      there = subst (λ v. Contains v it) (sym g-is) (Contains-push found it)

      ends_here : EndsAs g key (path ++ next ∷ []) (by_rule top next)
      ends_here = ends_join g path (next ∷ []) key top (by_rule top next) w.here (inl (s, refl, refl))

      -- no derivation to this end is below the cursor
      fresh : (qs : List ℕ) → EndsAs g key qs (by_rule top next) → Less qs (path ++ next ∷ []) → ⊥
      fresh qs x l =
          let (p, e, h, t) = ends_by_rule g qs key top next x in
          let below : Less p (path ++ next ∷ []) =
          less_begin p (next ∷ []) (path ++ next ∷ []) (subst (λ v. Less v (path ++ next ∷ [])) e l) in
          let same : p ≡ path = path_alone p h below in
          less_irrefl (path ++ next ∷ [])
          (subst (λ v. Less v (path ++ next ∷ [])) (e ∙ ap (λ v. v ++ next ∷ []) same) l)

      new : (e : Found V) → Contains found e → e.mark ≡ by_rule top next → ⊥
      new e k n = let x = w.sound e k in fresh e.ranks (ends_marked g e.ranks key e.mark (by_rule top next) n x.0) x.1

      ends : AreDistinct (marks_of grown) × AreRising Less (ranks_of grown)
      ends = fresh_ends (path ++ next ∷ []) (by_rule top next) grown g-is (λ e k. (w.sound e k).1) new

      sound : (e : Found V) → Contains found e ⊎ (it ≡ e)
          → EndsAs g key e.ranks e.mark × Less e.ranks (path ++ suc next ∷ [])
      sound e (inl k) = let x = w.sound e k in (x.0, up e.ranks x.1)
      sound e (inr i) =
          let P : Found V → Type 0 = λ v. EndsAs g key v.ranks v.mark × Less v.ranks (path ++ suc next ∷ []) in
          subst P i (ends_here, less_next path next [])

      least : (e : Found V) (qs : List ℕ) → Contains found e ⊎ (it ≡ e)
          → EndsAs g key qs e.mark → Less qs e.ranks → ⊥
      least e qs (inl k) x l = w.least e qs k x l
      least e qs (inr i) x l =
          fresh qs (ends_marked g qs key e.mark (by_rule top next) (sym (ap (λ (v : Found V). v.mark) i)) x)
          (subst (λ v. Less qs v) (sym (ap (λ (v : Found V). v.ranks) i)) l)

      -- nothing leads through the edge
      no_way : (ts : List ℕ) (d : V) → Leads g key (path ++ next ∷ ts) d → ⊥
      no_way ts d l =
          let (n, t, x) = leads_rest g laws path (next ∷ ts) key top d l w.here in laws.either top next n t s

      end_here : (ts : List ℕ) (mark : Mark V) → EndsAs g top (next ∷ ts) mark → (ts ≡ []) × (mark ≡ by_rule top next)
      end_here ts mark (inl (t, f, n)) = (f, n)
      end_here ts mark (inr (n, t, x)) = absurd (laws.either top next n t s)

      complete : (rs : List ℕ) (mark : Mark V) → EndsAs g key rs mark
          → Less rs (path ++ next ∷ []) ⊎ ((ts : List ℕ) × (rs ≡ path ++ next ∷ ts))
          → (e : Found V) × Contains grown e × (e.mark ≡ mark) × ((e.ranks ≡ rs) ⊎ Less e.ranks rs)
      complete rs mark x (inl l) = let (e, k, n, o) = w.complete rs mark l x in (e, kept e k, n, o)
      complete rs mark x (inr (ts, e)) =
          let (f, n) = end_here ts mark
          (ends_rest g laws path (next ∷ ts) key top mark (ends_by g rs (path ++ next ∷ ts) key mark e x) w.here) in
          (it, there, sym n, inl (ap (λ v. path ++ next ∷ v) (sym f) ∙ sym e))

      simple : (a : List ℕ) (r : ℕ) (b : List ℕ) (d : V) → Leads g key a d → Leads g d (r ∷ b) d
          → Less (a ++ r ∷ b) (path ++ next ∷ []) ⊎ ((ts : List ℕ) × (a ++ r ∷ b ≡ path ++ next ∷ ts)) → ⊥
      simple a r b d l x (inl y) = w.simple a r b d l x y
      simple a r b d l x (inr (ts, e)) =
          no_way ts d (leads_by g (a ++ r ∷ b) (path ++ next ∷ ts) key d e (leads_join g a (r ∷ b) key d d l x))

      reached : (rs : List ℕ) (d : V) → Leads g key rs d
          → Less rs (path ++ next ∷ []) ⊎ ((ts : List ℕ) × (rs ≡ path ++ next ∷ ts))
          → Contains done d ⊎ ((c : List ℕ) × (path ≡ rs ++ c))
      reached rs d l (inl x) = w.reached rs d l x
      reached rs d l (inr (ts, e)) = absurd (no_way ts d (leads_by g rs (path ++ next ∷ ts) key d e l))
