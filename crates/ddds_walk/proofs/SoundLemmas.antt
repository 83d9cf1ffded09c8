-- What holds of a walk over any source, how its rest falls, and the turns that ask nobody.
use Rattle.std.proofs.Common.{◌≡◌, ℕ, ◌+◌, ◌<◌, ◌≤◌, ◌⊎◌, List, [], ◌∷◌, ◌++◌, length, filter_map, refl, sym, ◌∙◌}
use Rattle.std.proofs.Common.{ap, subst, inl, inr, arith, suc, length-append}
use Rattle.std.specs.Prelude.{Contains, Option, Some, None, IsSome, slice_get, get_or}
use Rattle.std.specs.List.{AllByRecursion, sum_by}
use Rattle.std.proofs.lemmas.List.{map-append, length-map}
use Rattle.std.proofs.lemmas.List.Elements.{Contains-append_left, Contains-push}
use Rattle.std.proofs.lemmas.List.Sums.{sum_by-append}
use Rattle.std.proofs.lemmas.Option.{slice_get_within, slice_get_cases}
use Rattle.naptr_data.specs.Zones.{Labels}
use Rattle.naptr_rule.specs.declared.rule.Naptr.{Naptr}
use Rattle.ddds_walk.specs.Turns.{IsSound, IsPast, IsWay, left_at, left_in, IsNextEnd, IsPlaced, HasMoved, derivation_of}
use Rattle.ddds_walk.specs.Ways.{derivation_in, domains_of, end_by, path_of}
use Rattle.ddds_walk.specs.Report.{way_round}
use Rattle.ddds_walk.specs.declared.derivation.Derivation.{Derivation}
use Rattle.ddds_walk.specs.declared.edge.Edge.{Edge}
use Rattle.ddds_walk.specs.declared.edge.Edge.TheVariants.{Step, Stop}
use Rattle.ddds_walk.specs.declared.frame.Frame.{Frame}
use Rattle.ddds_walk.specs.declared.report.End.{End}
use Rattle.ddds_walk.specs.declared.report.LoopPath.{LoopPath}
use Rattle.ddds_walk.specs.declared.report.Outcome.{Outcome}
use Rattle.ddds_walk.specs.declared.walker.Turn.TheVariants.{On, Done, Back}
use Rattle.ddds_walk.specs.declared.walker.Walker.{Walker}
use Rattle.ddds_walk.proofs.StateLemmas.{state_skip, state_stop}
use Rattle.ddds_walk.proofs.TurnLemmas.{state_leave, state_end, state_back}

-- what holds of all of a list and of one more
past_front : (xs ys : List Frame) → AllByRecursion IsPast (xs ++ ys) → AllByRecursion IsPast xs
past_front [] ys h = tt
past_front (x ∷ xs) ys h = (h.0, past_front xs ys h.1)

past_last : (xs : List Frame) (f : Frame) → AllByRecursion IsPast (xs ++ f ∷ []) → IsPast f
past_last [] f h = h.0
past_last (x ∷ xs) f h = past_last xs f h.1

pub past_push : (xs : List Frame) (f : Frame) → AllByRecursion IsPast xs → IsPast f → AllByRecursion IsPast (xs ++ f ∷ [])
past_push [] f h p = (p, tt)
past_push (x ∷ xs) f h p = (h.0, past_push xs f h.1 p)

-- where nothing is told at a place, the list ends there
get_past : {X : Type 0} (xs : List X) (n : ℕ) → slice_get xs n ≡ None → length xs ≤ n
get_past {X} xs n e = by (slice_get_cases xs n).1
  where
    by : ((x : X) × (n < length xs) × (slice_get xs n ≡ Some x) × (get_or xs n x ≡ x)) ⊎ ((length xs ≤ n) × (slice_get xs n ≡ None))
        → length xs ≤ n
    by (inl (x, l, f, h)) = cc
    by (inr h) = h.0

-- a way without its last domain, with one more, and how many domains it has
named_front : (xs ys : List (Option Labels)) → AllByRecursion IsSome (xs ++ ys) → AllByRecursion IsSome xs
named_front [] ys h = tt
named_front (x ∷ xs) ys h = (h.0, named_front xs ys h.1)

named_push : (xs : List (Option Labels)) (d : Labels) → AllByRecursion IsSome xs → AllByRecursion IsSome (xs ++ Some d ∷ [])
named_push [] d h = (refl, tt)
named_push (x ∷ xs) d h = (h.0, named_push xs d h.1)

named_count : (xs : List (Option Labels)) → AllByRecursion IsSome xs → length (filter_map (λ (d : Option Labels). d) xs) ≡ length xs
named_count [] h = refl
named_count (None ∷ xs) h = cc
named_count (Some x ∷ xs) h = ap suc (named_count xs h.1)

front_way : (x : Option Labels) (xs ys : List (Option Labels)) → IsWay (x ∷ xs ++ ys) → IsWay (x ∷ xs)
front_way None xs ys h = named_front xs ys h
front_way (Some x) xs ys h = h

pub way_front : (lower : List Frame) (f : Frame) (d : Option Labels) → IsWay (domains_of (lower ++ f ∷ []) ++ d ∷ [])
    → IsWay (domains_of lower ++ f.domain ∷ [])
way_front [] f d h = front_way f.domain [] (d ∷ []) h
way_front (g ∷ lower) f d h = front_way g.domain (domains_of lower ++ f.domain ∷ []) (d ∷ [])
    (subst (λ v. IsWay (g.domain ∷ v ++ d ∷ [])) (map-append (λ (x : Frame). x.domain) lower (f ∷ [])) h)

pub way_push : (xs : List (Option Labels)) (d : Labels) → IsWay xs → IsWay (xs ++ Some d ∷ [])
way_push [] d h = absurd h
way_push (None ∷ xs) d h = named_push xs d h
way_push (Some x ∷ xs) d h = absurd h

way_count : (xs : List (Option Labels)) → IsWay xs → length (filter_map (λ (d : Option Labels). d) xs) + 1 ≡ length xs
way_count [] h = absurd h
way_count (None ∷ xs) h = omega (arith, named_count xs h)
way_count (Some x ∷ xs) h = absurd h

-- the walk with its topmost frame after the edge that it stood at, and with these ends
abbrev pub onward : Walker → List End → Walker
onward w ends = record w { ends = ends; top = record w.top { rank = w.top.rank + 1 } }

-- a derivation has one rank for each frame below the topmost one
ranks_count : (below : List Frame) (rank : ℕ) → length (derivation_in (path_of below ++ rank ∷ [])).ranks ≡ length below
ranks_count [] rank = refl
ranks_count (f ∷ below) rank = omega (arith, length-append (path_of below) (rank ∷ []), length-map below (λ (x : Frame). x.rank))

-- the first of a way is the root
root_first : (below : List Frame) (f : Frame) (d : Option Labels) → IsWay (domains_of (f ∷ below) ++ d ∷ []) → f.domain ≡ None
root_first below f d h = by f.domain refl
  where
    by : (o : Option Labels) → f.domain ≡ o → f.domain ≡ None
    by None e = e
    by (Some x) e = absurd (subst (λ v. IsWay (v ∷ domains_of below ++ d ∷ [])) e h)

-- the root has few edges, so the place of a key is a small number
pub is_placed : (limit : ℕ) (w : Walker) → IsSound limit w → IsPlaced w
is_placed limit w sound = by w.below refl
  where
    top_root : IsWay (w.top.domain ∷ []) → w.top.domain ≡ None
    top_root h = at w.top.domain refl
      where
        at : (o : Option Labels) → w.top.domain ≡ o → w.top.domain ≡ None
        at None e = e
        at (Some x) e = absurd (subst (λ v. IsWay (v ∷ [])) e h)

    by : (below : List Frame) → w.below ≡ below → IsPlaced w
    by [] e =
        let root = top_root (subst (λ v. IsWay (domains_of v ++ w.top.domain ∷ [])) e sound.way) in
        let few = sound.top.1.keys root in
        let within = sound.top.0 in
        subst (λ v. (derivation_in (path_of v ++ w.top.rank ∷ [])).place < 256) (sym e) (omega arith)
    by (f ∷ below) e =
        let root = root_first below f w.top.domain (subst (λ v. IsWay (domains_of v ++ w.top.domain ∷ [])) e sound.way) in
        let past = (subst (λ v. AllByRecursion IsPast v) e sound.below).0 in
        let few = past.1.keys root in
        let within = past.0 in
        subst (λ v. (derivation_in (path_of v ++ w.top.rank ∷ [])).place < 256) (sym e) (omega arith)

module _ (limit : ℕ) (w : Walker) (sound : IsSound limit w) where
  pub sound_on : (e : Edge) (ends : List End) → slice_get w.top.edges w.top.rank ≡ Some e → IsSound limit (onward w ends)
  sound_on e ends h =
      let l = slice_get_within w.top.edges w.top.rank e h in
      record { once = sound.once; few = sound.few; below = sound.below; top = (omega (arith, l), sound.top.1); way = sound.way; met = sound.met }

  pub falls_on : (e : Edge) (ends : List End) → slice_get w.top.edges w.top.rank ≡ Some e
      → left_in limit (onward w ends) < left_in limit w
  falls_on e ends h = let l = slice_get_within w.top.edges w.top.rank e h in omega (arith, l)

  pub moved_skip : (m : Labels) → slice_get w.top.edges w.top.rank ≡ Some (Step m) → Contains w.asked m
      → ¬ (Contains (domains_of w.below) (Some m) ⊎ (w.top.domain ≡ Some m)) → HasMoved limit w (onward w w.ends) On
  moved_skip m h k away = record {
    asked = refl;
    sound = sound_on (Step m) w.ends h;
    falls = λ _. falls_on (Step m) w.ends h;
    says = λ c zones keys s. state_skip c zones keys w.asked w.ends w.below w.top s m h k away;
  }

  pub moved_stop : (d : Labels) (rule : Naptr) (o : Outcome) → w.top.domain ≡ Some d
      → slice_get w.top.edges w.top.rank ≡ Some (Stop rule o)
      → HasMoved limit w (onward w (w.ends ++ end_by (derivation_of w) d (Some rule) o ∷ [])) On
  moved_stop d rule o at h = record {
    asked = refl;
    sound = sound_on (Stop rule o) (w.ends ++ end_by (derivation_of w) d (Some rule) o ∷ []) h;
    falls = λ _. falls_on (Stop rule o) (w.ends ++ end_by (derivation_of w) d (Some rule) o ∷ []) h;
    says = λ c zones keys s. state_stop c zones keys w.asked w.ends w.below w.top s d rule o at h;
  }

  -- the rank of a lower frame can go on
  pub low_rank : (lower : List Frame) (f : Frame) → w.below ≡ lower ++ f ∷ [] → f.rank < 65_535
  low_rank lower f is =
      let past : IsPast f = past_last lower f (subst (λ v. AllByRecursion IsPast v) is sound.below) in
      omega (arith, past.0, past.1.few)

  pub moved_leave : (lower : List Frame) (f : Frame) → w.below ≡ lower ++ f ∷ [] → slice_get w.top.edges w.top.rank ≡ None
      → HasMoved limit w (record w { below = lower; top = record f { rank = f.rank + 1 } }) On
  moved_leave lower f is none = record {
    asked = refl;
    sound = record {
      once = sound.once;
      few = sound.few;
      below = past_front lower (f ∷ []) all;
      top = (omega (arith, past.0), past.1);
      way =
          way_front lower f w.top.domain (subst (λ v. IsWay (domains_of v ++ w.top.domain ∷ [])) is sound.way);
      met = λ d on. sound.met d (inl (subst (λ v. Contains v (Some d)) (sym domains) (among d on)));
    };
    falls = λ _. falls;
    says = λ c zones keys s. state_leave c zones keys w.asked w.ends w.below w.top s lower f is none;
  }
    where
      domains : domains_of w.below ≡ domains_of lower ++ f.domain ∷ []
      domains = ap domains_of is ∙ map-append (λ (x : Frame). x.domain) lower (f ∷ [])

      among : (d : Labels) → Contains (domains_of lower) (Some d) ⊎ (f.domain ≡ Some d)
          → Contains (domains_of lower ++ f.domain ∷ []) (Some d)
      among d (inl h) = Contains-append_left (domains_of lower) (f.domain ∷ []) (Some d) h
      among d (inr e) =
          subst (λ v. Contains (domains_of lower ++ f.domain ∷ []) v) e (Contains-push (domains_of lower) f.domain)

      all : AllByRecursion IsPast (lower ++ f ∷ [])
      all = subst (λ v. AllByRecursion IsPast v) is sound.below

      past : IsPast f
      past = past_last lower f all

      falls : left_in limit (record w { below = lower; top = record f { rank = f.rank + 1 } }) < left_in limit w
      falls =
          let a : sum_by left_at w.below ≡ sum_by left_at lower + sum_by left_at (f ∷ []) = ap (sum_by left_at) is ∙ sum_by-append left_at lower (f ∷ []) in
          let b : sum_by left_at (f ∷ []) ≡ left_at f = omega arith in
          let l = past.0 in
          omega arith

  pub moved_done : w.below ≡ [] → slice_get w.top.edges w.top.rank ≡ None → HasMoved limit w w Done
  moved_done is none = record {
    asked = refl;
    sound = sound;
    falls = λ e. cc;
    says = λ c zones keys s. let (a, all) = state_end c zones keys w.asked w.ends w.below w.top s is none in
        (a, record { some = record { once = sound.once; only = s.needed }; all = all });
  }

  pub moved_back : (m : Labels) (path : LoopPath) → slice_get w.top.edges w.top.rank ≡ Some (Step m)
      → way_round path ≡ derivation_of w
      → path.domains ≡ filter_map (λ (d : Option Labels). d) (domains_of w.below ++ w.top.domain ∷ []) ++ m ∷ []
      → Contains (domains_of w.below) (Some m) ⊎ (w.top.domain ≡ Some m) → HasMoved limit w w (Back path)
  moved_back m path h r d on = record {
    asked = refl;
    sound = sound;
    falls = λ e. cc;
    says = λ c zones keys s. let (a, all) = state_back c zones keys w.asked w.ends w.below w.top s m h path r d on in
        (a, record { some = record { once = sound.once; only = s.needed }; all = all });
  }

  -- the end of the terminal rule that is followed next is noted
  pub moved_end : (e : End) → IsNextEnd w e → HasMoved limit w (onward w (w.ends ++ e ∷ [])) On
  moved_end e (d, rule, outcome, at, edge, f) =
      subst (λ v. HasMoved limit w (onward w (w.ends ++ v ∷ [])) On) (sym f)
      (moved_stop d rule outcome at edge)

  -- a loop has one domain more than ranks
  pub one_longer : (m : Labels) (way : Derivation) (domains : List Labels) → way ≡ derivation_of w
      → domains ≡ filter_map (λ (d : Option Labels). d) (domains_of w.below ++ w.top.domain ∷ []) ++ m ∷ []
      → length domains ≡ length way.ranks + 1
  one_longer m way domains r d =
      let a : length way.ranks ≡ length (derivation_of w).ranks = ap (λ (v : Derivation). length v.ranks) r in
      let e = ranks_count w.below w.top.rank in
      let b : length domains ≡ length (filter_map (λ (d : Option Labels). d) (domains_of w.below ++ w.top.domain ∷ []) ++ m ∷ []) = ap length d in
      let n = way_count (domains_of w.below ++ w.top.domain ∷ []) sound.way in
      omega (
        arith,
        length-append (filter_map (λ (d : Option Labels). d) (domains_of w.below ++ w.top.domain ∷ [])) (m ∷ []),
        length-append (domains_of w.below) (w.top.domain ∷ []),
        length-map w.below (λ (f : Frame). f.rank),
        length-map w.below (λ (f : Frame). f.domain),
      )
