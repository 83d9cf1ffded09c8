-- The state of a walk over told zones, and how each turn changes it.
use Rattle.std.proofs.Common.{◌≡◌, ℕ, zero, suc, ◌+◌, ◌≤◌, ◌⊎◌, List, [], ◌∷◌, ◌++◌, map, filter_map, refl, sym, ◌∙◌, ap, subst, inl, inr, arith}
use Rattle.std.proofs.lemmas.List.{map-append}
use Rattle.std.specs.Prelude.{Contains, Option, Some, None, slice_get}
use Rattle.std.proofs.lemmas.List.Elements.{Contains-append_left, Contains-push, Contains-push_cases}
use Rattle.naptr_data.specs.Zones.{Labels, Zone}
use Rattle.naptr_rule.specs.declared.rule.Naptr.{Naptr}
use Rattle.ddds_walk.specs.Graph.{graph_of, Leads, LeadsFrom}
use Rattle.ddds_walk.specs.Report.{IsEnd}
use Rattle.ddds_walk.specs.Rules.{Client, IsEdge}
use Rattle.ddds_walk.specs.Ways.{by_rule, Walked, IsGraph, RootedSteps, tree_of, Tells, path_of, domains_of, IsFrame}
use Rattle.ddds_walk.specs.Ways.{last_rank, found_of, end_by, derivation_in, IsState}
use Rattle.ddds_walk.specs.declared.derivation.Derivation.{Derivation}
use Rattle.ddds_walk.specs.declared.edge.Edge.{Edge}
use Rattle.ddds_walk.specs.declared.edge.Edge.TheVariants.{Step, Stop}
use Rattle.ddds_walk.specs.declared.frame.Frame.{Frame}
use Rattle.ddds_walk.specs.declared.report.End.{End}
use Rattle.ddds_walk.specs.declared.report.Outcome.{Outcome}
use Rattle.ddds_walk.proofs.ElementLemmas.{has_same}
use Rattle.ddds_walk.proofs.StepLemmas.{as_found, skip, stop}
use Rattle.ddds_walk.proofs.RootLemmas.{somes, leads_some}
use Rattle.ddds_walk.proofs.ReportLemmas.{tree_is}

-- the edge that is told at the cursor is one of the graph
pub edge_steps : (c : Client) (zones : List Zone) (keys : List Labels) (domain : Option Labels) (edges : List Edge) (r : ℕ) (m : Labels)
    → Tells c zones keys domain edges → slice_get edges r ≡ Some (Step m)
    → RootedSteps (graph_of c zones) keys domain r (Some m)
edge_steps c zones keys None edges r m t e =
    let (k, s, i) = (t r (Step m)).0 e in
    let j : k ≡ m = cc in
    subst (λ v. slice_get keys r ≡ Some v) j s
edge_steps c zones keys (Some d) edges r m t e = (t r (Step m)).0 e

-- where no edge is told at the cursor, none is of that rank or a greater one
none_after : {X : Type 0} (n m : ℕ) (xs : List X) (x : X) → slice_get xs n ≡ None → n ≤ m → slice_get xs m ≡ Some x → ⊥
none_after n m [] x e l s = cc
none_after zero m (z ∷ xs) x e l s = cc
none_after (suc n) zero (z ∷ xs) x e l s = omega arith
none_after (suc n) (suc m) (z ∷ xs) x e l s = none_after n m xs x e (omega arith) s

pub no_steps : (c : Client) (zones : List Zone) (keys : List Labels) (domain : Option Labels) (edges : List Edge) (r : ℕ)
    → Tells c zones keys domain edges → slice_get edges r ≡ None
    → (s : ℕ) (m : Option Labels) → r ≤ s → (tree_of c zones keys).Steps domain s m → ⊥
no_steps c zones keys None edges r t e s None l x = x
no_steps c zones keys None edges r t e s (Some m) l x = none_after r s edges (Step m) e l ((t s (Step m)).1 (m, x, refl))
no_steps c zones keys (Some d) edges r t e s None l x = x
no_steps c zones keys (Some d) edges r t e s (Some m) l x = none_after r s edges (Step m) e l ((t s (Step m)).1 x)

pub no_stops : (c : Client) (zones : List Zone) (keys : List Labels) (domain : Option Labels) (edges : List Edge) (r : ℕ)
    → Tells c zones keys domain edges → slice_get edges r ≡ None
    → (s : ℕ) → r ≤ s → (tree_of c zones keys).Stops domain s → ⊥
no_stops c zones keys None edges r t e s l x = x
no_stops c zones keys (Some d) edges r t e s l (rule, o, x) = none_after r s edges (Stop rule o) e l ((t s (Stop rule o)).1 x)

-- the last rank of a derivation that goes on by a rank
last_push : (rs : List ℕ) (r : ℕ) → last_rank (rs ++ r ∷ []) ≡ r
last_push [] r = refl
last_push (x ∷ []) r = refl
last_push (x ∷ y ∷ rs) r = last_push (y ∷ rs) r

-- what is there of options
pub some_of : (es : List Labels) → filter_map (λ (d : Option Labels). d) (somes es) ≡ es
some_of [] = refl
some_of (e ∷ es) = ap (λ v. e ∷ v) (some_of es)

-- where ranks are a derivation, so are they with one more
pub derivation_push : (rs : List ℕ) (r : ℕ) → (derivation_in rs).place ∷ (derivation_in rs).ranks ≡ rs
    → derivation_in (rs ++ r ∷ []) ≡ record { place = (derivation_in rs).place; ranks = (derivation_in rs).ranks ++ r ∷ [] }
derivation_push [] r e = cc
derivation_push (place ∷ rs) r e = refl

module _ (c : Client) (zones : List Zone) (keys : List Labels) where
  -- ranks from the root to a domain are a derivation
  pub from_root : (rs : List ℕ) (m : Labels) → Leads (tree_of c zones keys) None rs (Some m)
      → ((derivation_in rs).place ∷ (derivation_in rs).ranks ≡ rs) × LeadsFrom (graph_of c zones) keys (derivation_in rs) m
  from_root [] m l = cc
  from_root (r ∷ rs) m (None, s, l) = absurd s
  from_root (r ∷ rs) m (Some k, s, l) = (refl, (k, s, leads_some (graph_of c zones) keys rs k m l))

  module _ (asked : List Labels) (ends : List End) (below : List Frame) (top : Frame)
      (s : IsState c zones keys asked ends below top) where
    laws : IsGraph (tree_of c zones keys)
    laws = tree_is s.offers s.outputs c zones keys

    -- a domain on the way is one of those of the frames below, or that of the topmost one
    pub on_way : (m : Labels) → Contains (domains_of below ++ top.domain ∷ []) (Some m)
        → Contains (domains_of below) (Some m) ⊎ (top.domain ≡ Some m)
    on_way m h = Contains-push_cases (domains_of below) top.domain (Some m) h

    pub way_on : (m : Labels) → Contains (domains_of below) (Some m) ⊎ (top.domain ≡ Some m)
        → Contains (domains_of below ++ top.domain ∷ []) (Some m)
    way_on m (inl h) = Contains-append_left (domains_of below) (top.domain ∷ []) (Some m) h
    way_on m (inr e) =
        has_same (domains_of below ++ top.domain ∷ []) top.domain (Some m) e (Contains-push (domains_of below) top.domain)

    -- the topmost frame goes on after the edge that it stood at
    next_frame : IsFrame c zones keys below (record top { rank = top.rank + 1 })
    next_frame = record {
      leads = s.at_top.leads;
      passes = s.at_top.passes;
      tells = s.at_top.tells;
      distinct = s.at_top.distinct;
    }

    add_one : suc top.rank ≡ top.rank + 1
    add_one = omega arith

    -- the edge leads to a domain that was asked for, and is not on the way
    pub state_skip : (m : Labels) → slice_get top.edges top.rank ≡ Some (Step m) → Contains asked m
        → ¬ (Contains (domains_of below) (Some m) ⊎ (top.domain ≡ Some m))
        → IsState c zones keys asked ends below (record top { rank = top.rank + 1 })
    state_skip m e h away = record {
      offers = s.offers;
      outputs = s.outputs;
      done = s.done;
      walked = subst (λ v. Walked (tree_of c zones keys) None s.done (map found_of ends) (path_of below) v top.domain) add_one
          (skip (tree_of c zones keys) laws None s.done (map found_of ends) (path_of below) top.rank top.domain s.walked (Some m)
          (edge_steps c zones keys top.domain top.edges top.rank m s.at_top.tells e) (finished ((s.met m).0 h)));
      at_top = next_frame;
      fronts = s.fronts;
      ends_are = s.ends_are;
      met = s.met;
      needed = s.needed;
    }
      where
        finished : Contains s.done (Some m) ⊎ Contains (domains_of below ++ top.domain ∷ []) (Some m) → Contains s.done (Some m)
        finished (inl k) = k
        finished (inr k) = absurd (away (on_way m k))

    -- the edge is that of a terminal rule
    pub state_stop : (d : Labels) (rule : Naptr) (o : Outcome) → top.domain ≡ Some d
        → slice_get top.edges top.rank ≡ Some (Stop rule o)
        → IsState c zones keys asked (ends ++ end_by (derivation_in (path_of below ++ top.rank ∷ [])) d (Some rule) o ∷ []) below
        (record top { rank = top.rank + 1 })
    state_stop d rule o at e = record {
      offers = s.offers;
      outputs = s.outputs;
      done = s.done;
      walked = subst (λ v. Walked (tree_of c zones keys) None s.done (map found_of (ends ++ it ∷ [])) (path_of below) v top.domain) add_one
          (stop (tree_of c zones keys) laws None s.done (map found_of ends) (path_of below) top.rank top.domain s.walked
          (map found_of (ends ++ it ∷ [])) stops grown);
      at_top = next_frame;
      fronts = s.fronts;
      ends_are = λ x h. by x (Contains-push_cases ends it x h);
      met = s.met;
      needed = s.needed;
    }
      where
        it : End
        it = end_by (derivation_in (path_of below ++ top.rank ∷ [])) d (Some rule) o

        edge : IsEdge c zones d top.rank (Stop rule o)
        edge = (subst (λ v. Tells c zones keys v top.edges) at s.at_top.tells top.rank (Stop rule o)).0 e

        stops : (tree_of c zones keys).Stops top.domain top.rank
        stops = subst (λ v. (tree_of c zones keys).Stops v top.rank) (sym at) (rule, o, edge)

        front : Derivation
        front = derivation_in (path_of below)

        root : (front.place ∷ front.ranks ≡ path_of below) × LeadsFrom (graph_of c zones) keys front d
        root = from_root (path_of below) d (subst (λ v. Leads (tree_of c zones keys) None (path_of below) v) at s.at_top.leads)

        way : Derivation
        way = record { place = front.place; ranks = front.ranks ++ top.rank ∷ [] }

        split : derivation_in (path_of below ++ top.rank ∷ []) ≡ way
        split = derivation_push (path_of below) top.rank root.0

        it-is : it ≡ end_by way d (Some rule) o
        it-is = ap (λ v. end_by v d (Some rule) o) split

        found_by : found_of (end_by way d (Some rule) o) ≡ as_found (path_of below ++ top.rank ∷ []) (by_rule top.domain top.rank)
        found_by i = record {
          ranks = (ap (λ v. v ++ top.rank ∷ []) root.0) i;
          mark = (ap (λ v. by_rule (Some d) v) (last_push front.ranks top.rank) ∙ ap (λ v. by_rule v top.rank) (sym at)) i;
        }

        found : found_of it ≡ as_found (path_of below ++ top.rank ∷ []) (by_rule top.domain top.rank)
        found = ap found_of it-is ∙ found_by

        grown : map found_of (ends ++ it ∷ []) ≡ map found_of ends ++ as_found (path_of below ++ top.rank ∷ []) (by_rule top.domain top.rank) ∷ []
        grown = map-append found_of ends (it ∷ []) ∙ ap (λ v. map found_of ends ++ v ∷ []) found

        by : (x : End) → Contains ends x ⊎ (it ≡ x) → IsEnd c zones keys x
        by x (inl h) = s.ends_are x h
        by x (inr f) = subst (λ v. IsEnd c zones keys v) (sym it-is ∙ f) (front.ranks, top.rank, refl, root.1, edge)
