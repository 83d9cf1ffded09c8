-- What a walk's state at its end says in the words of reports: the ends that were found are the report, and there is no loop.
use Rattle.std.proofs.Common.{◌≡◌, ℕ, ◌≤◌, ◌⊎◌, List, [], ◌∷◌, ◌++◌, map, Option, Some, None, refl, sym, ◌∙◌, ap, subst, inl, inr, append-nil}
use Rattle.std.specs.Prelude.{Contains}
use Rattle.naptr_data.specs.Laws.{ZonesMakeOneOffer}
use Rattle.naptr_data.specs.Sources.{AreDistinct}
use Rattle.naptr_data.specs.Zones.{Labels, Zone}
use Rattle.naptr_rule.specs.declared.rule.Naptr.{Naptr}
use Rattle.subst_expr.specs.Laws.{OneOutput}
use Rattle.ddds_walk.specs.declared.derivation.Derivation.{Derivation}
use Rattle.ddds_walk.specs.declared.edge.Edge.TheVariants.{Stop}
use Rattle.ddds_walk.specs.declared.report.End.{End}
use Rattle.ddds_walk.specs.declared.report.Outcome.{Outcome}
use Rattle.ddds_walk.specs.Graph.{graph_of}
use Rattle.ddds_walk.specs.Order.{Less, Before, AreRising}
use Rattle.ddds_walk.specs.Rules.{Client, IsEdge}
use Rattle.ddds_walk.specs.Report.{EndsAt, IsEnd, EndName, name_of, way_of, IsReport, HasNoLoop, IsNeeded}
use Rattle.ddds_walk.specs.Ways.{by_rule, by_domain, Found, EndsAs, ranks_of, marks_of, Walked, tree_of, last_rank, mark_of, found_of}
use Rattle.ddds_walk.proofs.ElementLemmas.{has_head, has_tail, has_same, has_map, has_unmap}
use Rattle.ddds_walk.proofs.GraphLemmas.{ends_join, ends_by, ends_marked}
use Rattle.ddds_walk.specs.Ways.{IsGraph}
use Rattle.ddds_walk.proofs.AnswerLemmas.{no_loop, all_found, all_met}
use Rattle.ddds_walk.proofs.RootLemmas.{rooted_is, leads_out, no_loop_in}
use Rattle.ddds_walk.proofs.ToldLemmas.{one_edge, one_rank, graph_is}

-- the images by g are distinct where those by f are, if g tells no more apart than f
distinct_by : {X A B : Type 0} (f : X → A) (g : X → B) (xs : List X)
    → ((x y : X) → Contains xs x → Contains xs y → g x ≡ g y → f x ≡ f y)
    → AreDistinct (map f xs) → AreDistinct (map g xs)
distinct_by f g [] h d = tt
distinct_by {X} f g (x ∷ xs) h d =
    ((λ k. again (has_unmap g xs (g x) k)), distinct_by f g xs (λ y z k l. h y z (has_tail xs x y k) (has_tail xs x z l)) d.1)
  where
    again : (y : X) × Contains xs y × (g y ≡ g x) → ⊥
    again (y, k, e) =
        d.0 (has_same (map f xs) (f y) (f x) (h y x (has_tail xs x y k) (has_head xs x) e) (has_map f xs y k))

last_push : (front : List ℕ) (rank : ℕ) → last_rank (front ++ rank ∷ []) ≡ rank
last_push [] rank = refl
last_push (r ∷ []) rank = refl
last_push (r ∷ s ∷ front) rank = last_push (s ∷ front) rank

-- derivations rise where the ranks from the root do
rising_ends : (ends : List End) → AreRising Less (ranks_of (map found_of ends)) → AreRising Before (map way_of ends)
rising_ends [] a = tt
rising_ends (e ∷ ends) a = ((λ y h. above y (has_unmap way_of ends y h)), rising_ends ends a.1)
  where
    at : (f : End) → Contains ends f → Less (e.place ∷ e.ranks) (f.place ∷ f.ranks)
    at f h = a.0 (f.place ∷ f.ranks) (has_map (λ (v : Found (Option Labels)). v.ranks) (map found_of ends) (found_of f) (has_map found_of ends f h))

    above : (y : Derivation) → (f : End) × Contains ends f × (way_of f ≡ y) → Before (way_of e) y
    above y (f, h, s) = subst (λ v. Before (way_of e) v) s (at f h)

module _ (c : Client) (zones : List Zone) (keys : List Labels) where
  -- an end is reached from the root at its mark
  pub end_as : (way : Derivation) (domain : Labels) (rule : Option Naptr) (outcome : Outcome)
      → EndsAt c zones keys way domain rule outcome
      → EndsAs (tree_of c zones keys) None (way.place ∷ way.ranks) (mark_of domain rule way.ranks)
  end_as way domain None outcome (l, o, is) =
      ends_by (tree_of c zones keys) (way.place ∷ way.ranks ++ []) (way.place ∷ way.ranks) None (by_domain (Some domain)) (append-nil (way.place ∷ way.ranks))
      (ends_join (tree_of c zones keys) (way.place ∷ way.ranks) [] None (Some domain) (by_domain (Some domain))
      (leads_out (graph_of c zones) keys way domain l) (o, refl))
  end_as way domain (Some rule) outcome (front, rank, e, l, x) =
      let last : rank ≡ last_rank way.ranks = sym (last_push front rank) ∙ ap last_rank (sym e) in
      let j : EndsAs (tree_of c zones keys) None (way.place ∷ front ++ rank ∷ []) (by_rule (Some domain) rank) =
      ends_join (tree_of c zones keys) (way.place ∷ front) (rank ∷ []) None (Some domain) (by_rule (Some domain) rank)
      (leads_out (graph_of c zones) keys (record { place = way.place; ranks = front }) domain l) (inl ((rule, outcome, x), refl, refl)) in
      ends_by (tree_of c zones keys) (way.place ∷ front ++ rank ∷ []) (way.place ∷ way.ranks) None (by_rule (Some domain) (last_rank way.ranks))
      (ap (λ v. way.place ∷ v) (sym e))
      (ends_marked (tree_of c zones keys) (way.place ∷ front ++ rank ∷ []) None (by_rule (Some domain) rank) (by_rule (Some domain) (last_rank way.ranks))
      (ap (λ v. by_rule (Some domain) v) last) j)

  -- an end with a rule is the edge of its last rank
  pub last_edge : (way : Derivation) (domain : Labels) (rule : Naptr) (outcome : Outcome)
      → EndsAt c zones keys way domain (Some rule) outcome → IsEdge c zones domain (last_rank way.ranks) (Stop rule outcome)
  last_edge way domain rule outcome (front, rank, e, l, x) =
      let last : rank ≡ last_rank way.ranks = sym (last_push front rank) ∙ ap last_rank (sym e) in
      subst (λ v. IsEdge c zones domain v (Stop rule outcome)) last x

module _ (offers : ZonesMakeOneOffer) (out : OneOutput) (c : Client) (zones : List Zone) (keys : List Labels) where
  -- ends of one mark have one domain and one rule
  one_rule : (rs qs : Derivation) (d e : Labels) (r s : Option Naptr) (x y : Outcome)
      → EndsAt c zones keys rs d r x → EndsAt c zones keys qs e s y → mark_of d r rs.ranks ≡ mark_of e s qs.ranks → (d ≡ e) × (r ≡ s)
  one_rule rs qs d e None None x y a b m = (cc, refl)
  one_rule rs qs d e None (Some s) x y a b m = cc
  one_rule rs qs d e (Some r) None x y a b m = cc
  one_rule rs qs d e (Some r) (Some s) x y a b m =
      let domain : d ≡ e = cc in
      let rank : last_rank rs.ranks ≡ last_rank qs.ranks = cc in
      let i : IsEdge c zones d (last_rank rs.ranks) (Stop r x) = last_edge c zones keys rs d r x a in
      let P : Labels → Type 0 = λ v. IsEdge c zones v (last_rank rs.ranks) (Stop r x) in
      let j : IsEdge c zones e (last_rank qs.ranks) (Stop r x) =
      subst (λ v. IsEdge c zones e v (Stop r x)) rank (subst P domain i) in
      let edge : Stop r x ≡ Stop s y =
      one_edge offers out c zones e (last_rank qs.ranks) (Stop r x) (Stop s y) j (last_edge c zones keys qs e s y b) in
      let rule : r ≡ s = cc in
      (domain, ap (λ v. Some v) rule)

  -- ends of one domain and one rule have one mark
  one_mark : (rs qs : Derivation) (d e : Labels) (r s : Option Naptr) (x y : Outcome)
      → EndsAt c zones keys rs d r x → EndsAt c zones keys qs e s y → d ≡ e → r ≡ s → mark_of d r rs.ranks ≡ mark_of e s qs.ranks
  one_mark rs qs d e None None x y a b p q = ap (λ v. by_domain (Some v)) p
  one_mark rs qs d e None (Some s) x y a b p q = cc
  one_mark rs qs d e (Some r) None x y a b p q = cc
  one_mark rs qs d e (Some r) (Some s) x y a b p q =
      let rule : r ≡ s = cc in
      let P : Labels → Naptr → Type 0 = λ v w. IsEdge c zones v (last_rank rs.ranks) (Stop w x) in
      let i : P e s = subst (λ v. P v s) p (subst (λ w. P d w) rule (last_edge c zones keys rs d r x a)) in
      let rank : last_rank rs.ranks ≡ last_rank qs.ranks =
      one_rank offers out c zones e (last_rank rs.ranks) (last_rank qs.ranks) s x y i (last_edge c zones keys qs e s y b) in
      ap (λ v. by_rule (Some v) (last_rank rs.ranks)) p ∙ ap (λ v. by_rule (Some e) v) rank

  pub same_name : (e f : End) → IsEnd c zones keys e → IsEnd c zones keys f
      → mark_of e.domain e.rule e.ranks ≡ mark_of f.domain f.rule f.ranks → name_of e ≡ name_of f
  same_name e f a b m =
      let (d, r) = one_rule (way_of e) (way_of f) e.domain f.domain e.rule f.rule e.outcome f.outcome a b m in
      λ i. record { domain = d i; rule = r i }

  pub same_mark : (e f : End) → IsEnd c zones keys e → IsEnd c zones keys f → name_of e ≡ name_of f
      → mark_of e.domain e.rule e.ranks ≡ mark_of f.domain f.rule f.ranks
  same_mark e f a b n =
      one_mark (way_of e) (way_of f) e.domain f.domain e.rule f.rule e.outcome f.outcome a b
      (ap (λ (v : EndName). v.domain) n) (ap (λ (v : EndName). v.rule) n)

  pub tree_is : IsGraph (tree_of c zones keys)
  tree_is = rooted_is (graph_of c zones) keys (graph_is offers out c zones)

  module _ (ends : List End) (done : List (Option Labels)) (next : ℕ)
      (w : Walked (tree_of c zones keys) None done (map found_of ends) [] next None)
      (no_steps : (r : ℕ) (m : Option Labels) → next ≤ r → (tree_of c zones keys).Steps None r m → ⊥) where
    no_stops : (r : ℕ) → next ≤ r → (tree_of c zones keys).Stops None r → ⊥
    no_stops r l s = s

    -- at the end there is no loop
    pub has_no_loop : HasNoLoop (graph_of c zones) keys
    has_no_loop =
        no_loop_in (graph_of c zones) keys
        (no_loop (tree_of c zones keys) tree_is None done (map found_of ends) next w no_steps no_stops)

    -- at the end each domain to which a derivation leads is finished
    pub all_done : (d : Labels) → IsNeeded (graph_of c zones) keys d → Contains done (Some d)
    all_done d n =
        by (all_met (tree_of c zones keys) tree_is None done (map found_of ends) next w no_steps no_stops
        (n.0.place ∷ n.0.ranks) (Some d) (leads_out (graph_of c zones) keys n.0 d n.1))
      where
        by : Contains done (Some d) ⊎ (None ≡ Some d) → Contains done (Some d)
        by (inl h) = h
        by (inr e) = cc

    -- at the end the ends are the report
    pub report : ((e : End) → Contains ends e → IsEnd c zones keys e) → IsReport c zones keys ends
    report are = record { each = are; all = all; once = once; least = least; rising = rising_ends ends w.rising }
      where
        marked : (e : End) → IsEnd c zones keys e
            → EndsAs (tree_of c zones keys) None (e.place ∷ e.ranks) (mark_of e.domain e.rule e.ranks)
        marked e i = end_as c zones keys (way_of e) e.domain e.rule e.outcome i

        all : (e : End) → IsEnd c zones keys e → Contains (map name_of ends) (name_of e)
        all e i =
            let (x, h, m) = has_unmap (λ (v : Found (Option Labels)). v.mark) (map found_of ends) (mark_of e.domain e.rule e.ranks)
            (all_found (tree_of c zones keys) tree_is None done (map found_of ends) next w no_steps no_stops
            (e.place ∷ e.ranks) (mark_of e.domain e.rule e.ranks) (marked e i)) in
            let (f, k, s) = has_unmap found_of ends x h in
            let n : name_of f ≡ name_of e = same_name f e (are f k) i (ap (λ (v : Found (Option Labels)). v.mark) s ∙ m) in
            has_same (map name_of ends) (name_of f) (name_of e) n (has_map name_of ends f k)

        once : AreDistinct (map name_of ends)
        once = distinct_by (λ (e : End). mark_of e.domain e.rule e.ranks) name_of ends
            (λ e f h k n. same_mark e f (are e h) (are f k) n)
            (subst (λ v. AreDistinct v) (marks ends) w.once)
          where
            marks : (xs : List End) → marks_of (map found_of xs) ≡ map (λ (e : End). mark_of e.domain e.rule e.ranks) xs
            marks [] = refl
            marks (x ∷ xs) = ap (λ v. mark_of x.domain x.rule x.ranks ∷ v) (marks xs)

        least : (e f : End) → Contains ends e → IsEnd c zones keys f → name_of f ≡ name_of e → Before (way_of f) (way_of e) → ⊥
        least e f h i n l =
            w.least (found_of e) (f.place ∷ f.ranks) (has_map found_of ends e h)
            (ends_marked (tree_of c zones keys) (f.place ∷ f.ranks) None (mark_of f.domain f.rule f.ranks) (mark_of e.domain e.rule e.ranks)
            (same_mark f e i (are e h) n) (marked f i))
            l
