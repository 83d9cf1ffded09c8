-- How a walk over told zones goes down to a domain, leaves one, and ends.
use Rattle.std.proofs.Common.{◌≡◌, ◌↔◌, ℕ, zero, suc, ◌+◌, ◌≤◌, ◌⊎◌, List, [], ◌∷◌, ◌++◌, map, filter_map, refl}
use Rattle.std.proofs.Common.{sym, ◌∙◌, ap, subst, inl, inr, append_assoc, append-nil, arith}
use Rattle.std.proofs.lemmas.List.{map-append}
use Rattle.std.specs.Prelude.{Contains, Option, Some, None, slice_get}
use Rattle.std.proofs.lemmas.List.Elements.{Contains-append_left, Contains-push, Contains-push_cases}
use Rattle.naptr_data.specs.Laws.{ZonesMakeOneOffer}
use Rattle.subst_expr.specs.Laws.{OneOutput}
use Rattle.naptr_data.specs.Zones.{Labels, Zone, IsOffer}
use Rattle.naptr_data.specs.Sources.{AreDistinct}
use Rattle.naptr_data.specs.declared.offer.Offer.{Offer}
use Rattle.naptr_data.specs.declared.offer.Offer.TheVariants as offer
use Rattle.ddds_walk.specs.Graph.{graph_of, Leads, LeadsFrom, Passes}
use Rattle.ddds_walk.specs.Report.{IsEnd, IsLeastLoop, IsNeeded, Answers, way_round}
use Rattle.ddds_walk.specs.Rules.{Client, IsEdge, IsEdgeOf}
use Rattle.ddds_walk.specs.Ways.{by_domain, Walked, IsGraph, tree_of, path_of, domains_of, IsFrame, IsLeastRound, found_of, end_by, derivation_in, IsState}
use Rattle.ddds_walk.specs.declared.derivation.Derivation.{Derivation}
use Rattle.ddds_walk.specs.declared.edge.Edge.{Edge}
use Rattle.ddds_walk.specs.declared.edge.Edge.TheVariants.{Step}
use Rattle.ddds_walk.specs.declared.frame.Frame.{Frame}
use Rattle.ddds_walk.specs.declared.report.End.{End}
use Rattle.ddds_walk.specs.declared.report.LoopPath.{LoopPath}
use Rattle.ddds_walk.specs.declared.report.Outcome.TheVariants.{Unserved}
use Rattle.ddds_walk.specs.declared.report.Report.TheVariants as report
use Rattle.ddds_walk.proofs.ElementLemmas.{cut_last, has_none, has_cons, has_same, distinct_push}
use Rattle.ddds_walk.proofs.GraphLemmas.{leads_join, passes_push}
use Rattle.ddds_walk.proofs.StepLemmas.{as_found}
use Rattle.ddds_walk.proofs.MoveLemmas.{Adds, start, enter, leave}
use Rattle.ddds_walk.proofs.AnswerLemmas.{least_loop, unmet, next_needed, needed_met}
use Rattle.ddds_walk.proofs.RootLemmas.{somes, least_in, needed_in, needed_out}
use Rattle.ddds_walk.proofs.ReportLemmas.{tree_is, has_no_loop, all_done, report}
use Rattle.ddds_walk.proofs.StateLemmas.{edge_steps, no_steps, no_stops, some_of, from_root, on_way, way_on}

module _ (c : Client) (zones : List Zone) (keys : List Labels) (asked : List Labels) (ends : List End) (below : List Frame) (top : Frame)
    (s : IsState c zones keys asked ends below top) where
  laws : IsGraph (tree_of c zones keys)
  laws = tree_is s.offers s.outputs c zones keys

  -- all edges of the topmost domain were followed
  pub state_leave : (lower : List Frame) (f : Frame) → below ≡ lower ++ f ∷ [] → slice_get top.edges top.rank ≡ None
      → IsState c zones keys asked ends lower (record f { rank = f.rank + 1 })
  state_leave lower f is none = record {
    offers = s.offers;
    outputs = s.outputs;
    done = s.done ++ top.domain ∷ [];
    walked = subst (λ v. Walked (tree_of c zones keys) None (s.done ++ top.domain ∷ []) (map found_of ends) (path_of lower) v f.domain) add_one
        (leave (tree_of c zones keys) laws None s.done (map found_of ends) (path_of lower) f.rank top.rank top.domain walked f.domain
        frame.leads (no_steps c zones keys top.domain top.edges top.rank s.at_top.tells none)
        (no_stops c zones keys top.domain top.edges top.rank s.at_top.tells none));
    at_top = record { leads = frame.leads; passes = frame.passes; tells = frame.tells; distinct = frame.distinct };
    fronts = λ a b x e. s.fronts a (b ++ f ∷ []) x (is ∙ ap (λ v. v ++ f ∷ []) e ∙ append_assoc a (x ∷ b) (f ∷ []));
    ends_are = s.ends_are;
    met = λ d. ((λ h. to d ((s.met d).0 h)), (λ h. (s.met d).1 (from d h)));
    needed = s.needed;
  }
    where
      add_one : suc f.rank ≡ f.rank + 1
      add_one = omega arith

      frame : IsFrame c zones keys lower f
      frame = s.fronts lower [] f is

      walked : Walked (tree_of c zones keys) None s.done (map found_of ends) (path_of lower ++ f.rank ∷ []) top.rank top.domain
      walked = subst (λ v. Walked (tree_of c zones keys) None s.done (map found_of ends) v top.rank top.domain)
          (ap path_of is ∙ map-append (λ (x : Frame). x.rank) lower (f ∷ [])) s.walked

      domains : domains_of below ≡ domains_of lower ++ f.domain ∷ []
      domains = ap domains_of is ∙ map-append (λ (x : Frame). x.domain) lower (f ∷ [])

      to : (d : Labels) → Contains s.done (Some d) ⊎ Contains (domains_of below ++ top.domain ∷ []) (Some d)
          → Contains (s.done ++ top.domain ∷ []) (Some d) ⊎ Contains (domains_of lower ++ f.domain ∷ []) (Some d)
      to d (inl h) = inl (Contains-append_left s.done (top.domain ∷ []) (Some d) h)
      to d (inr h) = by (on_way c zones keys asked ends below top s d h)
        where
          by : Contains (domains_of below) (Some d) ⊎ (top.domain ≡ Some d)
              → Contains (s.done ++ top.domain ∷ []) (Some d) ⊎ Contains (domains_of lower ++ f.domain ∷ []) (Some d)
          by (inl k) = inr (subst (λ v. Contains v (Some d)) domains k)
          by (inr e) = inl (has_same (s.done ++ top.domain ∷ []) top.domain (Some d) e (Contains-push s.done top.domain))

      from : (d : Labels) → Contains (s.done ++ top.domain ∷ []) (Some d) ⊎ Contains (domains_of lower ++ f.domain ∷ []) (Some d)
          → Contains s.done (Some d) ⊎ Contains (domains_of below ++ top.domain ∷ []) (Some d)
      from d (inl h) = by (Contains-push_cases s.done top.domain (Some d) h)
        where
          by : Contains s.done (Some d) ⊎ (top.domain ≡ Some d)
              → Contains s.done (Some d) ⊎ Contains (domains_of below ++ top.domain ∷ []) (Some d)
          by (inl k) = inl k
          by (inr e) = inr (way_on c zones keys asked ends below top s d (inr e))
      from d (inr h) = inr (way_on c zones keys asked ends below top s d (inl (subst (λ v. Contains v (Some d)) (sym domains) h)))

  -- the walk ends where no frame is below, and all edges were followed
  pub state_end : below ≡ [] → slice_get top.edges top.rank ≡ None
      → Answers c zones keys (report.Ends ends) × ((d : Labels) → IsNeeded (graph_of c zones) keys d → Contains asked d)
  state_end is none = (
    (
      report s.offers s.outputs c zones keys ends s.done top.rank walked steps s.ends_are,
      has_no_loop s.offers s.outputs c zones keys ends s.done top.rank walked steps,
    ),
    λ d n. (s.met d).1 (inl (all_done s.offers s.outputs c zones keys ends s.done top.rank walked steps d n)),
  )
    where
      here : None ≡ top.domain
      here = subst (λ v. Leads (tree_of c zones keys) None (path_of v) top.domain) is s.at_top.leads

      walked : Walked (tree_of c zones keys) None s.done (map found_of ends) [] top.rank None
      walked = subst (λ v. Walked (tree_of c zones keys) None s.done (map found_of ends) [] top.rank v) (sym here)
          (subst (λ v. Walked (tree_of c zones keys) None s.done (map found_of ends) (path_of v) top.rank top.domain) is s.walked)

      steps : (r : ℕ) (m : Option Labels) → top.rank ≤ r → (tree_of c zones keys).Steps None r m → ⊥
      steps r m l x = no_steps c zones keys top.domain top.edges top.rank s.at_top.tells none r m l
          (subst (λ v. (tree_of c zones keys).Steps v r m) here x)

  module _ (m : Labels) (edge : slice_get top.edges top.rank ≡ Some (Step m)) where
    steps : (tree_of c zones keys).Steps top.domain top.rank (Some m)
    steps = edge_steps c zones keys top.domain top.edges top.rank m s.at_top.tells edge

    to_m : Leads (tree_of c zones keys) None (path_of below ++ top.rank ∷ []) (Some m)
    to_m = leads_join (tree_of c zones keys) (path_of below) (top.rank ∷ []) None top.domain (Some m) s.at_top.leads (Some m, steps, refl)

    -- the edge leads to a domain on the way
    pub state_back : (path : LoopPath) → way_round path ≡ derivation_in (path_of below ++ top.rank ∷ [])
        → path.domains ≡ filter_map (λ (d : Option Labels). d) (domains_of below ++ top.domain ∷ []) ++ m ∷ []
        → Contains (domains_of below) (Some m) ⊎ (top.domain ≡ Some m)
        → Answers c zones keys (report.Loop path) × ((d : Labels) → IsNeeded (graph_of c zones) keys d → Contains asked d)
    state_back path way-is domains-is on =
        by (least_in (graph_of c zones) keys (path_of below ++ top.rank ∷ []) (domains_of below ++ top.domain ∷ []) (Some m) least)
      where
        least : IsLeastRound (tree_of c zones keys) None (path_of below ++ top.rank ∷ []) (domains_of below ++ top.domain ∷ []) (Some m)
        least = least_loop (tree_of c zones keys) laws None s.done (map found_of ends) (path_of below) top.rank top.domain s.walked
            (domains_of below) (Some m) s.at_top.passes s.at_top.distinct steps (way_on c zones keys asked ends below top s m on)

        all : (d : Labels) → IsNeeded (graph_of c zones) keys d → Contains asked d
        all d n = (s.met d).1 (needed_met (tree_of c zones keys) laws None s.done (map found_of ends) (path_of below) top.rank top.domain s.walked
            (domains_of below) (domains_of below ++ top.domain ∷ []) (Some d) (Some m) s.at_top.passes least (needed_out (graph_of c zones) keys d n))

        by : (way : Derivation) × (es : List Labels) × (e : Labels) × (path_of below ++ top.rank ∷ [] ≡ way.place ∷ way.ranks)
            × (domains_of below ++ top.domain ∷ [] ≡ None ∷ somes es) × (Some m ≡ Some e) × IsLeastLoop (graph_of c zones) keys way es e
            → Answers c zones keys (report.Loop path) × ((d : Labels) → IsNeeded (graph_of c zones) keys d → Contains asked d)
        by (way, es, e, r, ds, l, i) =
            let q : way_round path ≡ way = way-is ∙ ap derivation_in r in
            let same : m ≡ e = cc in
            let names : path.domains ≡ es ++ e ∷ [] =
            domains-is ∙ ap (λ v. filter_map (λ (d : Option Labels). d) v ++ m ∷ []) ds ∙ ap (λ v. v ++ m ∷ []) (some_of es) ∙ ap (λ v. es ++ v ∷ []) same in
            ((es, e, names, subst (λ v. IsLeastLoop (graph_of c zones) keys v es e) (sym q) i), all)

    -- the domain of the edge is needed, where it is not on the way
    pub state_needed : ¬ (Contains (domains_of below) (Some m) ⊎ (top.domain ≡ Some m)) → IsNeeded (graph_of c zones) keys m
    state_needed away = needed_in (graph_of c zones) keys m
        (next_needed (tree_of c zones keys) laws None s.done (map found_of ends) (path_of below) top.rank top.domain s.walked
        (domains_of below) (Some m) s.at_top.passes steps (λ h. away (on_way c zones keys asked ends below top s m h)))

    -- the edge leads to a domain that was not asked for, and is not on the way: it is asked, and its offer is this
    pub state_enter : (o : Offer) (edges : List Edge) (grown : List End)
        → ¬ Contains asked m → ¬ (Contains (domains_of below) (Some m) ⊎ (top.domain ≡ Some m))
        → IsOffer zones m o → ((r : ℕ) (e : Edge) → (slice_get edges r ≡ Some e) ↔ IsEdgeOf c o r e)
        → ((o ≡ offer.Unserved)
        × (grown ≡ ends ++ end_by (derivation_in (path_of below ++ top.rank ∷ [])) m None Unserved ∷ []))
        ⊎ (((o ≡ offer.Unserved) → ⊥) × (grown ≡ ends))
        → IsState c zones keys (asked ++ m ∷ []) grown (below ++ top ∷ []) (record { domain = Some m; edges = edges; rank = 0 })
    state_enter o edges grown new away offered told adds = record {
      offers = s.offers;
      outputs = s.outputs;
      done = s.done;
      walked = subst (λ v. Walked (tree_of c zones keys) None s.done (map found_of grown) v 0 (Some m)) (sym path)
          (enter (tree_of c zones keys) laws None s.done (map found_of ends) (path_of below) top.rank top.domain s.walked
          (map found_of grown) (Some m) steps (λ h. new ((s.met m).1 (inl h))) not_here found);
      at_top = record {
        leads = subst (λ v. Leads (tree_of c zones keys) None v (Some m)) (sym path) to_m;
        passes = subst (λ v. Passes (tree_of c zones keys) None v (domains_of (below ++ top ∷ []))) (sym path)
            (subst (λ v. Passes (tree_of c zones keys) None (path_of below ++ top.rank ∷ []) v) (sym domains)
            (passes_push (tree_of c zones keys) laws (path_of below) None top.domain (Some m) top.rank (domains_of below) s.at_top.passes
            s.at_top.leads steps));
        tells = λ r e. ((λ h. (o, offered, (told r e).0 h)), (λ h. (told r e).1 (same_offer r e h)));
        distinct = subst (λ v. AreDistinct (v ++ Some m ∷ [])) (sym domains)
            (distinct_push (domains_of below ++ top.domain ∷ []) (Some m) s.at_top.distinct (λ h. away (on_way c zones keys asked ends below top s m h)));
      };
      fronts = λ a b x e. front a b x (cut_last a (x ∷ b) below top (sym e));
      ends_are = λ x h. are x adds h;
      met = λ d. ((λ h. to d (Contains-push_cases asked m d h)), (λ h. from d h));
      needed = λ d h. need d (Contains-push_cases asked m d h);
    }
      where
        it : End
        it = end_by (derivation_in (path_of below ++ top.rank ∷ [])) m None Unserved

        path : path_of (below ++ top ∷ []) ≡ path_of below ++ top.rank ∷ []
        path = map-append (λ (x : Frame). x.rank) below (top ∷ [])

        domains : domains_of (below ++ top ∷ []) ≡ domains_of below ++ top.domain ∷ []
        domains = map-append (λ (x : Frame). x.domain) below (top ∷ [])

        same_offer : (r : ℕ) (e : Edge) → IsEdge c zones m r e → IsEdgeOf c o r e
        same_offer r e (p, i, j) = let P : Offer → Type 0 = λ v. IsEdgeOf c v r e in subst P (s.offers zones m p o i offered) j

        way : Derivation
        way = derivation_in (path_of below ++ top.rank ∷ [])

        root : (way.place ∷ way.ranks ≡ path_of below ++ top.rank ∷ []) × LeadsFrom (graph_of c zones) keys way m
        root = from_root c zones keys (path_of below ++ top.rank ∷ []) m to_m

        marked : found_of it ≡ as_found (path_of below ++ top.rank ∷ []) (by_domain (Some m))
        marked i = record { ranks = root.0 i; mark = by_domain (Some m) }

        not_here : (rs cs : List ℕ) → path_of below ≡ rs ++ cs → Leads (tree_of c zones keys) None rs (Some m) → ⊥
        not_here = unmet (tree_of c zones keys) laws None s.done (map found_of ends) (path_of below) top.rank top.domain s.walked
            (domains_of below) (Some m) s.at_top.passes (λ h. away (on_way c zones keys asked ends below top s m h))

        found : Adds (map found_of ends) (map found_of grown) (path_of below ++ top.rank ∷ []) (by_domain (Some m)) (IsOffer zones m offer.Unserved)
        found = record { cases = by adds }
          where
            by : ((o ≡ offer.Unserved) × (grown ≡ ends ++ it ∷ [])) ⊎ (((o ≡ offer.Unserved) → ⊥) × (grown ≡ ends))
                → (IsOffer zones m offer.Unserved
                × (map found_of grown ≡ map found_of ends
                ++ as_found (path_of below ++ top.rank ∷ []) (by_domain (Some m)) ∷ []))
                ⊎ ((IsOffer zones m offer.Unserved → ⊥) × (map found_of grown ≡ map found_of ends))
            by (inl (u, e)) = inl (
              let P : Offer → Type 0 = λ v. IsOffer zones m v in subst P u offered,
              ap (map found_of) e ∙ map-append found_of ends (it ∷ []) ∙ ap (λ v. map found_of ends ++ v ∷ []) marked,
            )
            by (inr (n, e)) = inr ((λ i. n (s.offers zones m o offer.Unserved offered i)), ap (map found_of) e)

        front : (a b : List Frame) (x : Frame) → ((x ∷ b ≡ []) × (a ≡ below ++ top ∷ [])) ⊎ ((cs : List Frame) × (below ≡ a ++ cs) × (x ∷ b ≡ cs ++ top ∷ []))
            → IsFrame c zones keys a x
        front a b x (inl (e, f)) = cc
        front a b x (inr ([], e, f)) =
            let at : x ≡ top = cc in
            let low : a ≡ below = sym (append-nil a) ∙ sym e in
            subst (λ v. IsFrame c zones keys v x) (sym low) (subst (λ v. IsFrame c zones keys below v) (sym at) s.at_top)
        front a b x (inr (y ∷ cs, e, f)) =
            let at : x ≡ y = cc in
            subst (λ v. IsFrame c zones keys a v) (sym at) (s.fronts a cs y e)

        are : (x : End) → ((o ≡ offer.Unserved) × (grown ≡ ends ++ it ∷ [])) ⊎ (((o ≡ offer.Unserved) → ⊥) × (grown ≡ ends))
            → Contains grown x → IsEnd c zones keys x
        are x (inr (n, e)) h = s.ends_are x (subst (λ v. Contains v x) e h)
        are x (inl (u, e)) h = by (Contains-push_cases ends it x (subst (λ v. Contains v x) e h))
          where
            by : Contains ends x ⊎ (it ≡ x) → IsEnd c zones keys x
            by (inl k) = s.ends_are x k
            by (inr f) = subst (λ v. IsEnd c zones keys v) f (
              root.1,
              (let P : Offer → Type 0 = λ v. IsOffer zones m v in subst P u offered),
              refl,
            )

        to : (d : Labels) → Contains asked d ⊎ (m ≡ d)
            → Contains s.done (Some d) ⊎ Contains (domains_of (below ++ top ∷ []) ++ Some m ∷ []) (Some d)
        to d (inl h) = by ((s.met d).0 h)
          where
            by : Contains s.done (Some d) ⊎ Contains (domains_of below ++ top.domain ∷ []) (Some d)
                → Contains s.done (Some d) ⊎ Contains (domains_of (below ++ top ∷ []) ++ Some m ∷ []) (Some d)
            by (inl k) = inl k
            by (inr k) = inr (Contains-append_left (domains_of (below ++ top ∷ [])) (Some m ∷ []) (Some d) (subst (λ v. Contains v (Some d)) (sym domains) k))
        to d (inr e) = inr (has_same (domains_of (below ++ top ∷ []) ++ Some m ∷ []) (Some m) (Some d) (ap (λ v. Some v) e)
            (Contains-push (domains_of (below ++ top ∷ [])) (Some m)))

        from : (d : Labels) → Contains s.done (Some d) ⊎ Contains (domains_of (below ++ top ∷ []) ++ Some m ∷ []) (Some d)
            → Contains (asked ++ m ∷ []) d
        from d (inl h) = Contains-append_left asked (m ∷ []) d ((s.met d).1 (inl h))
        from d (inr h) = by (Contains-push_cases (domains_of (below ++ top ∷ [])) (Some m) (Some d) h)
          where
            by : Contains (domains_of (below ++ top ∷ [])) (Some d) ⊎ (Some m ≡ Some d) → Contains (asked ++ m ∷ []) d
            by (inl k) = Contains-append_left asked (m ∷ []) d ((s.met d).1 (inr (subst (λ v. Contains v (Some d)) domains k)))
            by (inr e) = let f : m ≡ d = cc in has_same (asked ++ m ∷ []) m d f (Contains-push asked m)

        need : (d : Labels) → Contains asked d ⊎ (m ≡ d) → IsNeeded (graph_of c zones) keys d
        need d (inl h) = s.needed d h
        need d (inr e) = subst (λ v. IsNeeded (graph_of c zones) keys v) e (state_needed away)

-- the edge of a place is that to the key at this place
steps_get : (keys : List Labels) (r : ℕ) (k : Labels) → slice_get keys r ≡ Some k
    → slice_get (map (λ key. Step key) keys) r ≡ Some (Step k)
steps_get [] r k e = cc
steps_get (key ∷ keys) zero k e = let f : key ≡ k = cc in ap (λ v. Some (Step v)) f
steps_get (key ∷ keys) (suc r) k e = steps_get keys r k e

get_steps : (keys : List Labels) (r : ℕ) (e : Edge) → slice_get (map (λ key. Step key) keys) r ≡ Some e
    → (k : Labels) × (slice_get keys r ≡ Some k) × (e ≡ Step k)
get_steps [] r e h = cc
get_steps (key ∷ keys) zero e h = let f : e ≡ Step key = cc in (key, refl, f)
get_steps (key ∷ keys) (suc r) e h = get_steps keys r e h

-- a walk begins at the root, with an edge to each key
pub state_start : ZonesMakeOneOffer → OneOutput → (c : Client) (zones : List Zone) (keys : List Labels)
    → IsState c zones keys [] [] [] (record { domain = None; edges = map (λ key. Step key) keys; rank = 0 })
state_start offers outputs c zones keys = record {
  offers = offers;
  outputs = outputs;
  done = [];
  walked = start (tree_of c zones keys) (tree_is offers outputs c zones keys) None [] (record { cases = inr ((λ h. h), refl) });
  at_top = record { leads = refl; passes = refl; tells = λ r e. (get_steps keys r e, from r e); distinct = ((λ h. has_none None h), tt) };
  fronts = λ a b x e. empty a b x e;
  ends_are = λ x h. absurd (has_none x h);
  met = λ d. ((λ h. absurd (has_none d h)), (λ h. by d h));
  needed = λ d h. absurd (has_none d h);
}
  where
    from : (r : ℕ) (e : Edge) → (k : Labels) × (slice_get keys r ≡ Some k) × (e ≡ Step k)
        → slice_get (map (λ key. Step key) keys) r ≡ Some e
    from r e (k, h, f) = steps_get keys r k h ∙ ap Some (sym f)

    empty : (a b : List Frame) (x : Frame) → [] ≡ a ++ x ∷ b → IsFrame c zones keys a x
    empty [] b x e = cc
    empty (y ∷ a) b x e = cc

    by : (d : Labels) → Contains [] (Some d) ⊎ Contains (None ∷ []) (Some d) → Contains [] d
    by d (inl h) = absurd (has_none (Some d) h)
    by d (inr h) = one (has_cons [] None (Some d) h)
      where
        one : (None ≡ Some d) ⊎ Contains [] (Some d) → Contains [] d
        one (inl e) = cc
        one (inr k) = absurd (has_none (Some d) k)
