-- Turns of a walk that ask: what each leaves, and the whole walk from its turns.
use Rattle.std.proofs.Common.{◌≡◌, ◌↔◌, ℕ, zero, suc, ◌+◌, ◌<◌, ◌≤◌, ◌⊎◌, List, [], ◌∷◌, ◌++◌, length, refl, sym, ◌∙◌, ap, subst, inl, inr, arith, map}
use Rattle.std.specs.Prelude.{Contains, Some, slice_get, Result, Ok, Err, IsErrAnd}
use Rattle.std.specs.List.{sum_by}
use Rattle.std.proofs.lemmas.List.{length-append, map-append}
use Rattle.std.proofs.lemmas.List.Sums.{sum_by-append}
use Rattle.std.proofs.lemmas.List.Elements.{Contains-append_left, Contains-push, Contains-push_cases}
use Rattle.std.proofs.lemmas.Option.{slice_get_within}
use Rattle.std.proofs.lemmas.Str.Ascii.{lowercase-lowercase}
use Rattle.enum_base.specs.Folding.{folded}
use Rattle.enum_base.specs.Outside.{WhereTold}
use Rattle.dns_name.specs.Name.{folded_labels}
use Rattle.naptr_data.specs.Sources.{RuleSourceState, AreDistinct}
use Rattle.naptr_data.specs.Zones.{Labels, Zone, IsOffer}
use Rattle.naptr_data.specs.declared.offer.Offer.{Offer}
use Rattle.naptr_data.specs.declared.offer.Offer.TheVariants as offer
use Rattle.naptr_rule.specs.declared.rule.Naptr.{Naptr}
use Rattle.service_field.specs.declared.kind.Kind.{Kind}
use Rattle.service_field.specs.declared.kind.Kind.TheVariants as kind
use Rattle.ddds_walk.specs.Asking.{more, NeedsMore}
use Rattle.ddds_walk.specs.Graph.{graph_of}
use Rattle.ddds_walk.specs.Kept.{HasKept}
use Rattle.ddds_walk.specs.Report.{IsNeeded, AreSomeNeeded}
use Rattle.ddds_walk.specs.Rules.{Client, Yields, IsEdgeOf}
use Rattle.ddds_walk.specs.Turns.{IsSound, IsWay, AreFolded, left_at, left_in, IsAt, HasMoved, Serves, Counts, HasTurned, HasAsked, Opens}
use Rattle.ddds_walk.specs.Ways.{domains_of}
use Rattle.ddds_walk.specs.declared.edge.Edge.{Edge}
use Rattle.ddds_walk.specs.declared.edge.Edge.TheVariants.{Step}
use Rattle.ddds_walk.specs.declared.fault.WalkFault.{WalkFault}
use Rattle.ddds_walk.specs.declared.fault.WalkFault.TheVariants.{Limit, Trouble, Memory}
use Rattle.ddds_walk.specs.declared.frame.Frame.{Frame}
use Rattle.ddds_walk.specs.declared.walker.Turn.{Turn}
use Rattle.ddds_walk.specs.declared.walker.Turn.TheVariants.{On}
use Rattle.ddds_walk.specs.declared.walker.Walker.{Walker}
use Rattle.ddds_walk.proofs.ElementLemmas.{distinct_push}
use Rattle.ddds_walk.proofs.SoundLemmas.{past_push, way_push}
use Rattle.ddds_walk.proofs.TurnLemmas.{state_needed, state_enter}

-- a folded name is folded again to itself
folded_twice : (bytes : List ℕ) → folded (folded bytes) ≡ folded bytes
folded_twice [] = refl
folded_twice (b ∷ bytes) = let h : folded (folded bytes) ≡ folded bytes = folded_twice bytes in
    ap (λ v. v ∷ folded (folded bytes)) (lowercase-lowercase b) ∙ ap (λ v. folded (b ∷ []) ++ v) h

pub folds_twice : (labels : Labels) → folded_labels (folded_labels labels) ≡ folded_labels labels
folds_twice [] = refl
folds_twice (l ∷ labels) = ap (λ v. v ∷ folded_labels (folded_labels labels)) (folded_twice l) ∙ ap (λ v. folded l ∷ v) (folds_twice labels)

same_folds : (d x : Labels) → d ≡ folded_labels x → folded_labels d ≡ d
same_folds d x e = ap folded_labels e ∙ folds_twice x ∙ sym e

gift_folds : (k : Kind) (c : Client) (rule : Naptr) (d : Labels) → Yields k c rule (Step d) → folded_labels d ≡ d
gift_folds kind.Step c rule d (inl (r, e)) = same_folds d rule.replacement e
gift_folds kind.Step c rule d (inr (r, (bytes, labels, o, n, e))) = same_folds d labels e
gift_folds kind.TerminalUri c rule d g = absurd g
gift_folds (kind.TerminalName l) c rule d g = absurd g
gift_folds kind.Unknown c rule d g = absurd g

edge_folds : (c : Client) (o : Offer) (r : ℕ) (d : Labels) → IsEdgeOf c o r (Step d) → folded_labels d ≡ d
edge_folds c (offer.Rules rules) r d (chosen, rule, f, s, g) = gift_folds (c.kind rule.flags) c rule d g.yields
edge_folds c (offer.Alias target) r d (z, e) = let f : d ≡ folded_labels target = cc in same_folds d target f
edge_folds c offer.Unserved r d e = absurd e

pub edges_fold : (c : Client) (o : Offer) (edges : List Edge) → ((r : ℕ) (e : Edge) → (slice_get edges r ≡ Some e) ↔ IsEdgeOf c o r e) → AreFolded edges
edges_fold c o edges told r d e = edge_folds c o r d ((told r (Step d)).0 e)

pub keys_fold : (keys : List Labels) → AreFolded (map (λ key. Step key) (map folded_labels keys))
keys_fold [] r d e = cc
keys_fold (key ∷ keys) zero d e = let f : d ≡ folded_labels key = cc in same_folds d key f
keys_fold (key ∷ keys) (suc r) d e = keys_fold keys r d e

module _ (c : Client) (limit : ℕ) (t : RuleSourceState) (w w' : Walker) where
  -- a turn that asks nobody
  pub turned_moved : (turn : Turn) → IsSound limit w → HasMoved limit w w' turn → HasTurned c limit t t w w' (Ok turn)
  turned_moved turn sound m = record {
    serves = record { zones = refl; room = refl; lent = refl; later = omega arith; trouble = λ e. cc };
    counts = record {
      once = subst (λ v. AreDistinct v) (sym m.asked) sound.once;
      few = subst (λ v. length v ≤ limit) (sym m.asked) sound.few;
      asks = λ a e. subst (λ v. t.asks ≡ more (length v) a) (sym m.asked) e;
      kept = λ x k f h. subst (λ v. HasKept t.room k f v t.kept t.fetched) (sym m.asked) h;
      met = λ n e. cc;
    };
    sound = m.sound;
    falls = λ e. m.falls (turn_is e);
    told = λ zones keys is s. (some zones keys s, m.says c zones keys s, λ n e. cc);
  }
    where
      turn_is : ◌≡◌ {A = Result Turn WalkFault} (Ok turn) (Ok On) → turn ≡ On
      turn_is e = cc

      some : (zones : List Zone) (keys : List Labels) → IsAt c zones keys w → AreSomeNeeded (graph_of c zones) keys w'.asked
      some zones keys s = subst (λ v. AreSomeNeeded (graph_of c zones) keys v) (sym m.asked) (record { once = sound.once; only = s.needed })

-- counts that stand for one result stand for each that is refused in its place
memory_counts : {A B : Type 0} (limit : ℕ) (t u : RuleSourceState) (asked asked' : List Labels) (result : Result A WalkFault)
    → Counts limit t u asked asked' result → Counts {A = B} limit t u asked asked' (Err Memory)
memory_counts limit t u asked asked' result h = record {
  once = h.once;
  few = h.few;
  asks = h.asks;
  kept = λ x k f i. absurd x;
  met = λ n e. cc;
}

refused_counts : {A B : Type 0} (limit : ℕ) (t u : RuleSourceState) (asked asked' : List Labels) (e : WalkFault)
    → Counts {A = A} limit t u asked asked' (Err e) → Counts {A = B} limit t u asked asked' (Err e)
refused_counts {A} {B} limit t u asked asked' (Limit n) h =
    record { once = h.once; few = h.few; asks = h.asks; kept = h.kept; met = λ m e. h.met m (limits m e) }
  where
    limits : (m : ℕ) → ◌≡◌ {A = Result B WalkFault} (Err (Limit n)) (Err (Limit m)) → ◌≡◌ {A = Result A WalkFault} (Err (Limit n)) (Err (Limit m))
    limits m e = let f : Limit n ≡ Limit m = cc in ap Err f
refused_counts limit t u asked asked' Trouble h = record { once = h.once; few = h.few; asks = h.asks; kept = λ x k f i. absurd x; met = λ n e. cc }
refused_counts limit t u asked asked' Memory h = record { once = h.once; few = h.few; asks = h.asks; kept = λ x k f i. absurd x; met = λ n e. cc }

module _ (c : Client) (limit : ℕ) (t u : RuleSourceState) (w w' : Walker) (asked : List Labels) (next : Labels)
    (sound : IsSound limit w) (here : slice_get w.top.edges w.top.rank ≡ Some (Step next))
    (new : ¬ Contains w.asked next) where
  -- a domain that was not asked for is not on the way
  away : ¬ (Contains (domains_of w.below) (Some next) ⊎ (w.top.domain ≡ Some next))
  away on = new (sound.met next on)

  -- what was asked is needed, with the domain of the edge or without
  some_needed : (w.asked ≡ asked) ⊎ (asked ≡ w.asked ++ next ∷ []) → w'.asked ≡ asked → AreDistinct asked
      → (zones : List Zone) (keys : List Labels) → IsAt c zones keys w → AreSomeNeeded (graph_of c zones) keys w'.asked
  some_needed cases same once zones keys s =
      subst (λ v. AreSomeNeeded (graph_of c zones) keys v) (sym same)
      (record { once = once; only = λ d h. only cases d h })
    where
      only : (w.asked ≡ asked) ⊎ (asked ≡ w.asked ++ next ∷ []) → (d : Labels) → Contains asked d → IsNeeded (graph_of c zones) keys d
      only (inl e) d h = s.needed d (subst (λ v. Contains v d) (sym e) h)
      only (inr e) d h = by (Contains-push_cases w.asked next d (subst (λ v. Contains v d) e h))
        where
          by : Contains w.asked d ⊎ (next ≡ d) → IsNeeded (graph_of c zones) keys d
          by (inl k) = s.needed d k
          by (inr f) = subst (λ v. IsNeeded (graph_of c zones) keys v) f (state_needed c zones keys w.asked w.ends w.below w.top s next here away)

  turn_cases : (asked ≡ w.asked) ⊎ (asked ≡ w.asked ++ next ∷ []) → (w.asked ≡ asked) ⊎ (asked ≡ w.asked ++ next ∷ [])
  turn_cases (inl e) = inl (sym e)
  turn_cases (inr e) = inr e

  refused_serves : (e : WalkFault) → Serves {A = Offer} t u (Err e) → Serves {A = Turn} t u (Err e)
  refused_serves e s = record { zones = s.zones; room = s.room; lent = s.lent; later = s.later; trouble = λ h. s.trouble (troubles h) }
    where
      troubles : ◌≡◌ {A = Result Turn WalkFault} (Err e) (Err Trouble) → ◌≡◌ {A = Result Offer WalkFault} (Err e) (Err Trouble)
      troubles h = let f : e ≡ Trouble = cc in ap Err f

  -- the source was not asked, or has no answer
  pub turned_refused : (e : WalkFault) → HasAsked limit t u w.asked asked next (Err e) → w'.asked ≡ asked
      → HasTurned c limit t u w w' (Err e)
  turned_refused e a same = record {
    serves = refused_serves e a.serves;
    counts = refused_counts limit t u w.asked w'.asked e (subst (λ v. Counts {A = Offer} limit t u w.asked v (Err e)) (sym same) a.counts);
    sound = tt;
    falls = λ h. cc;
    told = λ zones keys is s. (some_needed (turn_cases a.cases) same a.counts.once zones keys s, tt, λ n h. past zones keys s n (limits n h));
  }
    where
      limits : (n : ℕ) → ◌≡◌ {A = Result Turn WalkFault} (Err e) (Err (Limit n)) → ◌≡◌ {A = Result Offer WalkFault} (Err e) (Err (Limit n))
      limits n h = let f : e ≡ Limit n = cc in ap Err f

      past : (zones : List Zone) (keys : List Labels) → IsAt c zones keys w → (n : ℕ)
          → ◌≡◌ {A = Result Offer WalkFault} (Err e) (Err (Limit n)) → NeedsMore (graph_of c zones) keys limit
      past zones keys s n h =
          let m = a.counts.met n h in
          let l : length w.asked ≡ limit = ap length (sym (a.met n h)) ∙ m.1 in (
            w.asked ++ next ∷ [],
            record {
              once = distinct_push w.asked next sound.once new;
              only = λ d k. by d (Contains-push_cases w.asked next d k);
            },
            omega (arith, length-append w.asked (next ∷ [])),
          )
        where
          by : (d : Labels) → Contains w.asked d ⊎ (next ≡ d) → IsNeeded (graph_of c zones) keys d
          by d (inl k) = s.needed d k
          by d (inr f) = subst (λ v. IsNeeded (graph_of c zones) keys v) f (state_needed c zones keys w.asked w.ends w.below w.top s next here away)

  memory_serves : {A B : Type 0} (result : Result A WalkFault) → Serves t u result → Serves {A = B} t u (Err Memory)
  memory_serves result s = record { zones = s.zones; room = s.room; lent = s.lent; later = s.later; trouble = λ h. cc }

  -- the source answered, and then memory was wanting
  pub turned_memory : (o : Offer) → HasAsked limit t u w.asked asked next (Ok o) → w'.asked ≡ asked
      → HasTurned c limit t u w w' (Err Memory)
  turned_memory o a same = record {
    serves = memory_serves (Ok o) a.serves;
    counts = memory_counts limit t u w.asked w'.asked (Ok o) (subst (λ v. Counts {A = Offer} limit t u w.asked v (Ok o)) (sym same) a.counts);
    sound = tt;
    falls = λ h. cc;
    told = λ zones keys is s. (some_needed (turn_cases a.cases) same a.counts.once zones keys s, tt, λ n h. cc);
  }

  -- the same of an answer that is known by what it refuses
  pub refused_by : (r : Result Turn WalkFault) (e : WalkFault) → IsErrAnd r (λ x. x ≡ e)
      → HasAsked limit t u w.asked asked next (Err e) → w'.asked ≡ asked → HasTurned c limit t u w w' r
  refused_by (Ok turn) e h a same = absurd h
  refused_by (Err x) e h a same = subst (λ v. HasTurned c limit t u w w' (Err v)) (sym h) (turned_refused e a same)

  pub memory_by : (r : Result Turn WalkFault) → IsErrAnd r (λ x. x ≡ Memory) → (o : Offer)
      → HasAsked limit t u w.asked asked next (Ok o) → w'.asked ≡ asked → HasTurned c limit t u w w' r
  memory_by (Ok turn) h o a same = absurd h
  memory_by (Err x) h o a same = subst (λ v. HasTurned c limit t u w w' (Err v)) (sym h) (turned_memory o a same)

  -- the source answered, and the domain was opened
  pub turned_on : (o : Offer) → HasAsked limit t u w.asked asked next (Ok o)
      → Opens c next o (record w { asked = asked }) w' → HasTurned c limit t u w w' (Ok On)
  turned_on o a opens = record {
    serves = record { zones = a.serves.zones; room = a.serves.room; lent = a.serves.lent; later = a.serves.later; trouble = λ h. cc };
    counts = record {
      once = subst (λ v. AreDistinct v) (sym opens.asked) a.counts.once;
      few = subst (λ v. length v ≤ limit) (sym opens.asked) a.counts.few;
      asks = λ b h. subst (λ v. u.asks ≡ more (length v) b) (sym opens.asked) (a.counts.asks b h);
      kept = λ x k f h. subst (λ v. HasKept t.room k f v u.kept u.fetched) (sym opens.asked) (a.counts.kept tt k f h);
      met = λ n h. cc;
    };
    sound = sound_there;
    falls = λ h. falls;
    told = λ zones keys is s. (some_needed (inr grew) opens.asked a.counts.once zones keys s, at zones keys is s, λ n h. cc);
  }
    where
      grew : asked ≡ w.asked ++ next ∷ []
      grew = a.offered.0

      rank_in : w.top.rank < length w.top.edges
      rank_in = slice_get_within w.top.edges w.top.rank (Step next) here

      top : Frame
      top = record { domain = Some next; edges = opens.edges; rank = 0 }

      opened : Walker
      opened = record { asked = asked; ends = w'.ends; below = w.below ++ w.top ∷ []; top = top }

      is : opened ≡ w'
      is i = record { asked = (sym opens.asked) i; ends = w'.ends; below = (sym opens.below) i; top = (sym opens.top) i }

      domains : domains_of (w.below ++ w.top ∷ []) ≡ domains_of w.below ++ w.top.domain ∷ []
      domains = map-append (λ (x : Frame). x.domain) w.below (w.top ∷ [])

      met_before : (d : Labels) → Contains (domains_of w.below) (Some d) ⊎ (w.top.domain ≡ Some d) → Contains (w.asked ++ next ∷ []) d
      met_before d on = Contains-append_left w.asked (next ∷ []) d (sound.met d on)

      met_grown : (d : Labels) → Contains (domains_of (w.below ++ w.top ∷ [])) (Some d) ⊎ (Some next ≡ Some d)
          → Contains (w.asked ++ next ∷ []) d
      met_grown d (inl h) =
          met_before d (Contains-push_cases (domains_of w.below) w.top.domain (Some d) (subst (λ v. Contains v (Some d)) domains h))
      met_grown d (inr e) =
          let f : next ≡ d = cc in subst (λ v. Contains (w.asked ++ next ∷ []) v) f (Contains-push w.asked next)

      sound_opened : IsSound limit opened
      sound_opened = record {
        once = a.counts.once;
        few = a.counts.few;
        below = past_push w.below w.top sound.below (rank_in, sound.top.1);
        top = (omega arith, record { few = opens.few; keys = λ e. cc; folded = edges_fold c o opens.edges opens.told; root = λ e. cc });
        way = subst (λ v. IsWay (v ++ Some next ∷ [])) (sym (map-append (λ (x : Frame). x.domain) w.below (w.top ∷ [])))
            (way_push (domains_of w.below ++ w.top.domain ∷ []) next sound.way);
        met = λ d on. subst (λ v. Contains v d) (sym grew) (met_grown d on);
      }

      sound_there : IsSound limit w'
      sound_there = subst (λ v. IsSound limit v) is sound_opened

      falls_opened : left_in limit opened < left_in limit w
      falls_opened =
          let l : length asked ≡ length (w.asked ++ next ∷ []) = ap length grew in
          let s : sum_by left_at (w.below ++ w.top ∷ []) ≡ sum_by left_at w.below + sum_by left_at (w.top ∷ []) = sum_by-append left_at w.below (w.top ∷ []) in
          let o : sum_by left_at (w.top ∷ []) ≡ left_at w.top = omega arith in
          let f = a.counts.few in
          let e = opens.few in
          omega (arith, length-append w.asked (next ∷ []))

      falls : left_in limit w' < left_in limit w
      falls = subst (λ v. left_in limit v < left_in limit w) is falls_opened

      at : (zones : List Zone) (keys : List Labels) → t.zones ≡ Some zones → IsAt c zones keys w → IsAt c zones keys w'
      at zones keys is-told s = subst (λ v. IsAt c zones keys v) is
          (subst (λ v. IsAt c zones keys (record opened { asked = v })) (sym grew)
          (state_enter c zones keys w.asked w.ends w.below w.top s next here o opens.edges w'.ends
          new away offered opens.told opens.ends))
        where
          offered : IsOffer zones next o
          offered = subst (λ v. WhereTold v (λ zones. IsOffer zones next o)) is-told a.offered.2
