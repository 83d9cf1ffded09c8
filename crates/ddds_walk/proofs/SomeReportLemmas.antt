-- Over zones that offer something for every name a walk comes to an answer.
use Rattle.std.proofs.Common.{◌≡◌, ◌⊎◌, inl, inr, ℕ, zero, suc, ◌+◌, ◌<◌, ◌≤◌, List, [], ◌∷◌, ◌++◌, length, map}
use Rattle.std.proofs.Common.{Option, Some, None, refl, ap, subst, ◌∙◌, arith, length-append}
use Rattle.std.specs.Prelude.{Contains, slice_get}
use Rattle.std.specs.List.{sum_by}
use Rattle.std.proofs.lemmas.List.Sums.{sum_by-append}
use Rattle.std.proofs.lemmas.Option.{slice_get_within}
use Rattle.naptr_data.proofs.DecideLemmas.{Either, numbers, lists}
use Rattle.naptr_data.specs.Laws.{ZonesMakeOneOffer}
use Rattle.naptr_data.specs.Sources.{AreDistinct}
use Rattle.naptr_data.specs.Zones.{Labels, Zone, IsOffer, rules_and_aliases}
use Rattle.naptr_data.specs.declared.offer.Offer.{Offer}
use Rattle.naptr_data.specs.declared.offer.Offer.TheVariants as offer
use Rattle.naptr_rule.specs.declared.rule.Naptr.{Naptr}
use Rattle.subst_expr.specs.Laws.{OneOutput, OutputOrNone}
use Rattle.ddds_walk.specs.Graph.{Graph, graph_of, Passes}
use Rattle.ddds_walk.specs.Report.{IsLeastLoop, Answers}
use Rattle.ddds_walk.specs.Rules.{Client}
use Rattle.ddds_walk.specs.Turns.{left_at}
use Rattle.ddds_walk.specs.Ways.{tree_of, Tells, path_of, domains_of, found_of, end_by, derivation_in, IsLeastRound, IsState}
use Rattle.ddds_walk.specs.declared.derivation.Derivation.{Derivation}
use Rattle.ddds_walk.specs.declared.edge.Edge.{Edge}
use Rattle.ddds_walk.specs.declared.edge.Edge.TheVariants.{Step, Stop}
use Rattle.ddds_walk.specs.declared.frame.Frame.{Frame}
use Rattle.ddds_walk.specs.declared.report.End.{End}
use Rattle.ddds_walk.specs.declared.report.Outcome.{Outcome}
use Rattle.ddds_walk.specs.declared.report.Outcome.TheVariants.{Unserved}
use Rattle.ddds_walk.specs.declared.report.Report.{Report}
use Rattle.ddds_walk.specs.declared.report.Report.TheVariants as report
use Rattle.ddds_walk.proofs.AnswerLemmas.{least_loop}
use Rattle.ddds_walk.proofs.BoundLemmas.{needed_bound}
use Rattle.ddds_walk.proofs.ElementLemmas.{has_none, has_cons, has_head, has_tail, has_same, distinct_push}
use Rattle.ddds_walk.proofs.SomeEdgesLemmas.{some_edges}
use Rattle.ddds_walk.proofs.ReportLemmas.{tree_is}
use Rattle.ddds_walk.proofs.RootLemmas.{somes, least_in}
use Rattle.ddds_walk.proofs.StateLemmas.{edge_steps, way_on, state_skip, state_stop}
use Rattle.ddds_walk.proofs.TurnLemmas.{state_start, state_leave, state_end, state_enter}

-- a list has an element, or not
has_or_not : {X : Type 0} → ((x y : X) → Either (x ≡ y)) → (xs : List X) (x : X) → Either (Contains xs x)
has_or_not each [] x = inr (λ h. has_none x h)
has_or_not {X} each (y ∷ xs) x = by (each y x) (has_or_not each xs x)
  where
    none : (y ≡ x → ⊥) → (Contains xs x → ⊥) → (y ≡ x) ⊎ Contains xs x → ⊥
    none other fails (inl e) = other e
    none other fails (inr k) = fails k

    by : Either (y ≡ x) → Either (Contains xs x) → Either (Contains (y ∷ xs) x)
    by (inl e) h = inl (has_same (y ∷ xs) y x e (has_head xs y))
    by (inr other) (inl k) = inl (has_tail xs y x k)
    by (inr other) (inr fails) = inr (λ h. none other fails (has_cons xs y x h))

same_or_not : (one two : Labels) → Either (one ≡ two)
same_or_not one two = lists (lists numbers) one two

domains_or_not : (one two : Option Labels) → Either (one ≡ two)
domains_or_not None None = inl refl
domains_or_not None (Some d) = inr (λ e. cc)
domains_or_not (Some d) None = inr (λ e. cc)
domains_or_not (Some d) (Some e) = by (same_or_not d e)
  where
    by : Either (d ≡ e) → Either (◌≡◌ {A = Option Labels} (Some d) (Some e))
    by (inl same) = inl (ap (λ v. Some v) same)
    by (inr other) = inr (λ f. other (cc))

-- a list is empty, or has a last element
abbrev HasLast : List Frame → Type 0
HasLast frames = (frames ≡ []) ⊎ ((lower : List Frame) × (f : Frame) × (frames ≡ lower ++ f ∷ []))

has_last : (frames : List Frame) → HasLast frames
has_last [] = inl refl
has_last (x ∷ frames) = by (has_last frames)
  where
    by : HasLast frames → HasLast (x ∷ frames)
    by (inl none) = inr ([], x, ap (λ v. x ∷ v) none)
    by (inr (lower, f, is)) = inr (x ∷ lower, f, ap (λ v. x ∷ v) is)

-- a derivation passes as many domains as it has ranks
passes_count : {V : Type 0} (g : Graph V) (k : V) (rs : List ℕ) (ds : List V) → Passes g k rs ds → length ds ≡ length rs
passes_count g k [] ds p = ap length p
passes_count g k (r ∷ rs) ds (m, rest, s, p, e) = ap length e ∙ ap suc (passes_count g m rs rest p)

module _ (offers : ZonesMakeOneOffer) (one : OneOutput) (some : OutputOrNone) (c : Client) (zones : List Zone)
    (offered : (name : Labels) → (o : Offer) × IsOffer zones name o) (keys : List Labels) where
  abbrev Answered : Type 0
  Answered = (r : Report) × Answers c zones keys r

  -- each walk under way that has so many domains more to ask comes to an answer
  abbrev AnswersWith : ℕ → Type 0
  AnswersWith n = (asked : List Labels) (ends : List End) (below : List Frame) (top : Frame)
      → IsState c zones keys asked ends below top → AreDistinct asked
      → rules_and_aliases zones + length keys < length asked + n → Answered

  -- .. that has so many edges more to follow until then
  abbrev AnswersWithin : ℕ → ℕ → Type 0
  AnswersWithin n l = (asked : List Labels) (ends : List End) (below : List Frame) (top : Frame)
      → IsState c zones keys asked ends below top → AreDistinct asked
      → rules_and_aliases zones + length keys < length asked + suc n → left_at top + sum_by left_at below ≤ l → Answered

  -- one turn
  module _ (n l : ℕ) (deeper : AnswersWith n) (again : AnswersWithin n l) (asked : List Labels) (ends : List End)
      (below : List Frame) (top : Frame) (s : IsState c zones keys asked ends below top) (once : AreDistinct asked)
      (room : rules_and_aliases zones + length keys < length asked + suc n) (low : left_at top + sum_by left_at below ≤ suc l) where
    leave : slice_get top.edges top.rank ≡ None → HasLast below → Answered
    leave none (inl is) = (report.Ends ends, (state_end c zones keys asked ends below top s is none).0)
    leave none (inr (lower, f, is)) =
        again asked ends lower (record f { rank = f.rank + 1 }) (state_leave c zones keys asked ends below top s lower f is none) once room
        (let a : sum_by left_at below ≡ sum_by left_at lower + sum_by left_at (f ∷ []) = ap (sum_by left_at) is ∙ sum_by-append left_at lower (f ∷ []) in
        let b : sum_by left_at (f ∷ []) ≡ left_at f = omega arith in
        omega (arith, low))

    -- after the edge
    onward : (edge : Edge) (more : List End) → slice_get top.edges top.rank ≡ Some edge
        → IsState c zones keys asked more below (record top { rank = top.rank + 1 }) → Answered
    onward edge more e t =
        again asked more below (record top { rank = top.rank + 1 }) t once room
        (let h = slice_get_within top.edges top.rank edge e in omega (arith, h, low))

    no_root : (rule : Naptr) (outcome : Outcome) → slice_get top.edges top.rank ≡ Some (Stop rule outcome) → top.domain ≡ None → ⊥
    no_root rule outcome e at =
        let (k, g, same) = (subst (λ v. Tells c zones keys v top.edges) at s.at_top.tells top.rank (Stop rule outcome)).0 e in cc

    stop : (rule : Naptr) (outcome : Outcome) → slice_get top.edges top.rank ≡ Some (Stop rule outcome)
        → (domain : Option Labels) → top.domain ≡ domain → Answered
    stop rule outcome e None at = absurd (no_root rule outcome e at)
    stop rule outcome e (Some d) at =
        onward (Stop rule outcome)
        (ends ++ end_by (derivation_in (path_of below ++ top.rank ∷ [])) d (Some rule) outcome ∷ []) e
        (state_stop c zones keys asked ends below top s d rule outcome at e)

    module _ (m : Labels) (e : slice_get top.edges top.rank ≡ Some (Step m)) where
      back : Contains (domains_of below) (Some m) ⊎ (top.domain ≡ Some m) → Answered
      back on = by (least_in (graph_of c zones) keys (path_of below ++ top.rank ∷ []) (domains_of below ++ top.domain ∷ []) (Some m) least)
        where
          least : IsLeastRound (tree_of c zones keys) None (path_of below ++ top.rank ∷ []) (domains_of below ++ top.domain ∷ []) (Some m)
          least = least_loop (tree_of c zones keys) (tree_is offers one c zones keys) None s.done
              (map found_of ends) (path_of below) top.rank top.domain s.walked
              (domains_of below) (Some m) s.at_top.passes s.at_top.distinct
              (edge_steps c zones keys top.domain top.edges top.rank m s.at_top.tells e)
              (way_on c zones keys asked ends below top s m on)

          longer : (qs : List ℕ) (es : List Labels) (d : Labels) → length es ≡ length qs → length (es ++ d ∷ []) ≡ length qs + 1
          longer qs es d h = omega (arith, h, length-append es (d ∷ []))

          by : (way : Derivation) × (es : List Labels) × (d : Labels) × (path_of below ++ top.rank ∷ [] ≡ way.place ∷ way.ranks)
              × (domains_of below ++ top.domain ∷ [] ≡ None ∷ somes es) × (Some m ≡ Some d) × IsLeastLoop (graph_of c zones) keys way es d
              → Answered
          by (way, es, d, p, ds, same, i) = (
            report.Loop (record {
              place = way.place;
              ranks = way.ranks;
              domains = es ++ d ∷ [];
              longer = longer way.ranks es d (passes_count (graph_of c zones) i.loop.passes.0 way.ranks es i.loop.passes.2);
            }),
            (es, d, refl, i),
          )

      -- what is asked for a new domain, and noted of it
      enter : (Contains asked m → ⊥) → (Contains (domains_of below) (Some m) ⊎ (top.domain ≡ Some m) → ⊥)
          → (o : Offer) → IsOffer zones m o → Answered
      enter new away o is = by (noted o)
        where
          it : End
          it = end_by (derivation_in (path_of below ++ top.rank ∷ [])) m None Unserved

          noted : (p : Offer) → (grown : List End) × (((p ≡ offer.Unserved) × (grown ≡ ends ++ it ∷ [])) ⊎ (((p ≡ offer.Unserved) → ⊥) × (grown ≡ ends)))
          noted (offer.Rules rules) = (ends, inr ((λ f. cc), refl))
          noted (offer.Alias target) = (ends, inr ((λ f. cc), refl))
          noted offer.Unserved = (ends ++ it ∷ [], inl (refl, refl))

          by : (grown : List End) × (((o ≡ offer.Unserved) × (grown ≡ ends ++ it ∷ [])) ⊎ (((o ≡ offer.Unserved) → ⊥) × (grown ≡ ends))) → Answered
          by (grown, adds) =
              let x = some_edges one some c zones m o is in
              deeper (asked ++ m ∷ []) grown (below ++ top ∷ []) (record { domain = Some m; edges = x.0; rank = 0 })
              (state_enter c zones keys asked ends below top s m e o x.0 grown new away is x.1 adds)
              (distinct_push asked m once new)
              (omega (arith, room, length-append asked (m ∷ [])))

      away_from : (Contains (domains_of below) (Some m) → ⊥) → (top.domain ≡ Some m → ⊥)
          → Contains (domains_of below) (Some m) ⊎ (top.domain ≡ Some m) → ⊥
      away_from fails other (inl h) = fails h
      away_from fails other (inr at) = other at

      further : (Contains (domains_of below) (Some m) ⊎ (top.domain ≡ Some m) → ⊥) → Either (Contains asked m) → Answered
      further away (inl h) = onward (Step m) ends e (state_skip c zones keys asked ends below top s m e h away)
      further away (inr new) = let o = offered m in enter new away o.0 o.1

      step : Either (Contains (domains_of below) (Some m)) → Either (top.domain ≡ Some m) → Answered
      step (inl h) at = back (inl h)
      step (inr fails) (inl at) = back (inr at)
      step (inr fails) (inr other) = further (away_from fails other) (has_or_not same_or_not asked m)

    turn : (o : Option Edge) → slice_get top.edges top.rank ≡ o → Answered
    turn None e = leave e (has_last below)
    turn (Some (Stop rule outcome)) e = stop rule outcome e top.domain refl
    turn (Some (Step m)) e = step m e (has_or_not domains_or_not (domains_of below) (Some m)) (domains_or_not top.domain (Some m))

  turns : (n l : ℕ) → AnswersWith n → AnswersWithin n l
  turns n zero deeper asked ends below top s once room low = absurd (omega (arith, low))
  turns n (suc l) deeper asked ends below top s once room low =
      turn n l deeper (turns n l deeper) asked ends below top s once room low (slice_get top.edges top.rank) refl

  all_turns : (n : ℕ) → AnswersWith n
  all_turns zero asked ends below top s once room =
      let few = needed_bound one c zones keys keys asked (λ key held. held) (record { once = once; only = s.needed }) in
      absurd (omega (arith, few, room))
  all_turns (suc n) asked ends below top s once room =
      turns n (left_at top + sum_by left_at below) (all_turns n) asked ends below top s once room (omega arith)

  pub some_report : Answered
  some_report =
      all_turns (rules_and_aliases zones + length keys + 1) [] [] [] (record { domain = None; edges = map (λ key. Step key) keys; rank = 0 })
      (state_start offers one c zones keys) tt (omega arith)
