-- A whole walk, from its turns; and what its one record says.
use Rattle.std.proofs.Common.{◌≡◌, ℕ, zero, suc, ◌+◌, ◌≤◌, ◌⊎◌, List, [], ◌∷◌, length, map, refl, sym, ◌∙◌, ap, subst, inl, inr, arith}
use Rattle.std.specs.Prelude.{Contains, slice_get, Option, Some, None, Result, Ok, Err, OnOk, IsErrAnd}
use Rattle.std.proofs.lemmas.List.{length-map}
use Rattle.enum_base.specs.Causes.{Rose}
use Rattle.enum_base.specs.Outside.{WhereTold}
use Rattle.dns_name.specs.Name.{folded_labels}
use Rattle.naptr_data.specs.Laws.{ZonesMakeOneOffer}
use Rattle.naptr_data.specs.Sources.{RuleSourceState}
use Rattle.naptr_data.specs.Zones.{Labels, Zone, rules_and_aliases}
use Rattle.naptr_rule.specs.declared.rule.Naptr.{Naptr}
use Rattle.subst_expr.specs.Laws.{OneOutput}
use Rattle.ddds_walk.specs.Asking.{more, NeedsMore, IsWhole, AsksFew, Holds, FetchesEnough, FetchesMissing, IsLimit}
use Rattle.ddds_walk.specs.Graph.{graph_of}
use Rattle.ddds_walk.specs.Kept.{HasKept}
use Rattle.ddds_walk.specs.Report.{AreSomeNeeded, AreNeeded}
use Rattle.ddds_walk.specs.Rules.{Client}
use Rattle.ddds_walk.specs.Turns.{Serves, HasTurned, IsGoing, HasWalked, at_root}
use Rattle.ddds_walk.specs.declared.edge.Edge.TheVariants.{Step, Stop}
use Rattle.ddds_walk.specs.declared.fault.WalkFault.{WalkFault}
use Rattle.ddds_walk.specs.declared.fault.WalkFault.TheVariants.{Limit, Trouble, Memory}
use Rattle.ddds_walk.specs.declared.report.LoopPath.{LoopPath}
use Rattle.ddds_walk.specs.declared.report.Outcome.{Outcome}
use Rattle.ddds_walk.specs.declared.report.Report.{Report}
use Rattle.ddds_walk.specs.declared.report.Report.TheVariants as report
use Rattle.ddds_walk.specs.declared.walker.Turn.{Turn}
use Rattle.ddds_walk.specs.declared.walker.Turn.TheVariants.{On, Done, Back}
use Rattle.ddds_walk.specs.declared.walker.Walker.{Walker}
use Rattle.ddds_walk.proofs.ElementLemmas.{has_none}
use Rattle.ddds_walk.proofs.EnterLemmas.{keys_fold}
use Rattle.ddds_walk.proofs.KeptLemmas.{kept_start, kept_enough, kept_missing, past_limit}
use Rattle.ddds_walk.proofs.TurnLemmas.{state_start}

pub going_start : ZonesMakeOneOffer → OneOutput → (c : Client) (keys : List Labels) (limit : ℕ) (t : RuleSourceState)
    → length keys ≤ 8 → IsGoing c (map folded_labels keys) limit t t (at_root (map folded_labels keys))
going_start offers outputs c keys limit t few = record {
  zones = refl;
  room = refl;
  lent = refl;
  later = omega arith;
  sound = record {
    once = tt;
    few = omega arith;
    below = tt;
    top = (
      omega arith,
      record {
        few = omega (arith, edges_few);
        keys = λ e. edges_few;
        folded = keys_fold keys;
        root = λ e. no_stop (map folded_labels keys);
      },
    );
    way = tt;
    met = λ d on. absurd (nobody d on);
  };
  asks = refl;
  kept = kept_start t.room t.kept t.fetched;
  told = λ zones is. state_start offers outputs c zones (map folded_labels keys);
}
  where
    nobody : (d : Labels) → Contains [] (Some d) ⊎ (None ≡ Some d) → ⊥
    nobody d (inl h) = has_none (Some d) h
    nobody d (inr e) = cc

    edges_few : length (map (λ key. Step key) (map folded_labels keys)) ≤ 8
    edges_few = omega (arith, few, length-map (map folded_labels keys) (λ (key : Labels). Step key), length-map keys folded_labels)

    no_stop : (keys : List Labels) (rank : ℕ) (rule : Naptr) (outcome : Outcome)
        → slice_get (map (λ key. Step key) keys) rank ≡ Some (Stop rule outcome) → ⊥
    no_stop [] rank rule outcome e = cc
    no_stop (key ∷ keys) zero rule outcome e = cc
    no_stop (key ∷ keys) (suc rank) rule outcome e = no_stop keys rank rule outcome e

rose_from : (a b c : ℕ) → a ≤ b → Rose b c → Rose a c
rose_from a b c l h = grind arith

module _ (c : Client) (keys : List Labels) (limit : ℕ) (t u v : RuleSourceState) (w w' : Walker) (g : IsGoing c keys limit t u w) where
  kept_on : (result : Result Turn WalkFault) → HasTurned c limit u v w w' result → IsWhole result
      → HasKept t.room t.kept t.fetched w'.asked v.kept v.fetched
  kept_on result h k = subst (λ r. HasKept r t.kept t.fetched w'.asked v.kept v.fetched) g.room
      (h.counts.kept k t.kept t.fetched (subst (λ r. HasKept r t.kept t.fetched w.asked u.kept u.fetched) (sym g.room) g.kept))

  pub going_on : HasTurned c limit u v w w' (Ok On) → IsGoing c keys limit t v w'
  going_on h = record {
    zones = h.serves.zones ∙ g.zones;
    room = h.serves.room ∙ g.room;
    lent = h.serves.lent ∙ g.lent;
    later = let a = g.later in let b = h.serves.later in omega arith;
    sound = h.sound;
    asks = h.counts.asks t.asks g.asks;
    kept = kept_on (Ok On) h tt;
    told = λ zones is. (h.told zones keys (g.zones ∙ is) (g.told zones is)).1;
  }

  serves_on : (turn : Result Turn WalkFault) (result : Result Report WalkFault) → (result ≡ Err Trouble → turn ≡ Err Trouble)
      → HasTurned c limit u v w w' turn → Serves t v result
  serves_on turn result same h = record {
    zones = h.serves.zones ∙ g.zones;
    room = h.serves.room ∙ g.room;
    lent = h.serves.lent ∙ g.lent;
    later = let a = g.later in let b = h.serves.later in omega arith;
    trouble = λ e. let x = h.serves.trouble (same e) in (rose_from t.troubles u.troubles v.troubles g.later x.0, x.1);
  }

  pub walked_done : HasTurned c limit u v w w' (Ok Done) → HasWalked c keys limit t v (Ok (report.Ends w'.ends))
  walked_done h = record {
    asked = w'.asked;
    serves = serves_on (Ok Done) (Ok (report.Ends w'.ends)) (λ e. cc) h;
    once = h.counts.once;
    few = h.counts.few;
    asks = h.counts.asks t.asks g.asks;
    kept = λ x. kept_on (Ok Done) h tt;
    met = λ n e. cc;
    told = λ zones is. let x = h.told zones keys (g.zones ∙ is) (g.told zones is) in (x.0, x.1.0, x.1.1, λ n e. cc);
  }

  pub walked_back : (path : LoopPath) → HasTurned c limit u v w w' (Ok (Back path)) → HasWalked c keys limit t v (Ok (report.Loop path))
  walked_back path h = record {
    asked = w'.asked;
    serves = serves_on (Ok (Back path)) (Ok (report.Loop path)) (λ e. cc) h;
    once = h.counts.once;
    few = h.counts.few;
    asks = h.counts.asks t.asks g.asks;
    kept = λ x. kept_on (Ok (Back path)) h tt;
    met = λ n e. cc;
    told = λ zones is. let x = h.told zones keys (g.zones ∙ is) (g.told zones is) in (x.0, x.1.0, x.1.1, λ n e. cc);
  }

  pub walked_err : (e : WalkFault) → HasTurned c limit u v w w' (Err e) → HasWalked c keys limit t v (Err e)
  walked_err e h = record {
    asked = w'.asked;
    serves = serves_on (Err e) (Err e) troubles h;
    once = h.counts.once;
    few = h.counts.few;
    asks = h.counts.asks t.asks g.asks;
    kept = λ x. kept_on (Err e) h (whole e x);
    met = λ n f. h.counts.met n (limits n f);
    told = λ zones is. let x = h.told zones keys (g.zones ∙ is) (g.told zones is) in (x.0, tt, tt, λ n f. x.2 n (limits n f));
  }
    where
      troubles : ◌≡◌ {A = Result Report WalkFault} (Err e) (Err Trouble) → ◌≡◌ {A = Result Turn WalkFault} (Err e) (Err Trouble)
      troubles f = let i : e ≡ Trouble = cc in ap Err i

      limits : (n : ℕ) → ◌≡◌ {A = Result Report WalkFault} (Err e) (Err (Limit n)) → ◌≡◌ {A = Result Turn WalkFault} (Err e) (Err (Limit n))
      limits n f = let i : e ≡ Limit n = cc in ap Err i

      whole : (e : WalkFault) → IsWhole {A = Report} (Err e) → IsWhole {A = Turn} (Err e)
      whole (Limit n) x = x
      whole Trouble x = x
      whole Memory x = x

module _ (c : Client) (keys : List Labels) (limit : ℕ) (t u v : RuleSourceState) (w w' : Walker) (g : IsGoing c keys limit t u w) where
  -- the same of an answer that is known by what it refuses
  pub err_by : (r : Result Report WalkFault) (e : WalkFault) → IsErrAnd r (λ x. x ≡ e) → HasTurned c limit u v w w' (Err e)
      → HasWalked c keys limit t v r
  err_by (Ok report) e h turned = absurd h
  err_by (Err x) e h turned = subst (λ y. HasWalked c keys limit t v (Err y)) (sym h) (walked_err c keys limit t u v w w' g e turned)

-- the same, of a walk and a turn that are known by equations
pub going_at : ZonesMakeOneOffer → OneOutput → (c : Client) (keys : List Labels) (limit : ℕ) (t : RuleSourceState) (w : Walker)
    → length keys ≤ 8 → w ≡ at_root (map folded_labels keys) → IsGoing c (map folded_labels keys) limit t t w
going_at offers outputs c keys limit t w few e =
    subst (λ v. IsGoing c (map folded_labels keys) limit t t v) (sym e) (going_start offers outputs c keys limit t few)

module _ (c : Client) (keys : List Labels) (limit : ℕ) (t u v : RuleSourceState) (w w' : Walker) (g : IsGoing c keys limit t u w)
    (turn : Turn) (h : HasTurned c limit u v w w' (Ok turn)) where
  pub going_by : turn ≡ On → IsGoing c keys limit t v w'
  going_by e = going_on c keys limit t u v w w' g (subst (λ x. HasTurned c limit u v w w' (Ok x)) e h)

  pub done_by : turn ≡ Done → HasWalked c keys limit t v (Ok (report.Ends w'.ends))
  done_by e = walked_done c keys limit t u v w w' g (subst (λ x. HasTurned c limit u v w w' (Ok x)) e h)

  pub back_by : (path : LoopPath) → turn ≡ Back path → HasWalked c keys limit t v (Ok (report.Loop path))
  back_by path e = walked_back c keys limit t u v w w' g path (subst (λ x. HasTurned c limit u v w w' (Ok x)) e h)

-- a walk for which memory was wanting before it began
pub walked_nothing : (c : Client) (keys : List Labels) (limit : ℕ) (t : RuleSourceState) → HasWalked c keys limit t t (Err Memory)
walked_nothing c keys limit t = record {
  asked = [];
  serves = record { zones = refl; room = refl; lent = refl; later = omega arith; trouble = λ e. cc };
  once = tt;
  few = omega arith;
  asks = refl;
  kept = λ x. absurd x;
  met = λ n e. cc;
  told = λ zones is. (record { once = tt; only = λ d h. absurd (none d h) }, tt, tt, λ n e. cc);
}
  where
    none : (d : Labels) → Contains [] d → ⊥
    none d h = omega (arith, h.1)

pub nothing_by : (c : Client) (keys : List Labels) (limit : ℕ) (t : RuleSourceState) (r : Result Report WalkFault) → IsErrAnd r (λ x. x ≡ Memory)
    → HasWalked c keys limit t t r
nothing_by c keys limit t (Ok report) h = absurd h
nothing_by c keys limit t (Err x) h = subst (λ v. HasWalked c keys limit t t (Err v)) (sym h) (walked_nothing c keys limit t)

where_told : (told : Option (List Zone)) (Fact : List Zone → Type 0) → ((zones : List Zone) → told ≡ Some zones → Fact zones) → WhereTold told Fact
where_told None Fact f = tt
where_told (Some zones) Fact f = f zones refl

ok_of : {A E Q : Type 0} (r : Result A E) → Q → OnOk r Q
ok_of (Ok x) q = q
ok_of (Err e) q = tt

-- what the public clauses of a walk say, each from its one record
module _ (c : Client) (keys : List Labels) (limit : ℕ) (t u : RuleSourceState) (result : Result Report WalkFault)
    (h : HasWalked c keys limit t u result) where
  pub says_bound : ((c : Client) (zones : List Zone) (keys names ds : List Labels) → Holds names keys
      → AreSomeNeeded (graph_of c zones) keys ds → length ds ≤ rules_and_aliases zones + length names)
      → WhereTold t.zones (λ zones. OnOk result (AsksFew (rules_and_aliases zones) keys t.asks u.asks))
  says_bound bound = where_told t.zones (λ zones. OnOk result (AsksFew (rules_and_aliases zones) keys t.asks u.asks))
      (λ zones is. ok_of result (λ names held. (length h.asked, bound c zones keys names h.asked held (h.told zones is).0, h.asks)))

  pub says_stops : WhereTold t.zones (λ zones. NeedsMore (graph_of c zones) keys limit → ¬ Rose t.troubles u.troubles → IsLimit limit result)
  says_stops = where_told t.zones (λ zones. NeedsMore (graph_of c zones) keys limit → ¬ Rose t.troubles u.troubles → IsLimit limit result)
      (λ zones is more calm. by zones is more calm result refl)
    where
      by : (zones : List Zone) → t.zones ≡ Some zones → NeedsMore (graph_of c zones) keys limit → ¬ Rose t.troubles u.troubles
          → (r : Result Report WalkFault) → result ≡ r → IsLimit limit r
      by zones is (ds, some, l) calm (Ok report) e =
          let all : AreNeeded (graph_of c zones) keys h.asked = subst (λ v. OnOk v (AreNeeded (graph_of c zones) keys h.asked)) e (h.told zones is).2 in
          let f = h.few in
          absurd (past_limit ds h.asked some.once (λ d k. all.all d (some.only d k)) (omega arith))
      by zones is more calm (Err (Limit n)) e = let m = h.met n e in inl (ap (λ v. Err (Limit v)) m.0)
      by zones is more calm (Err Trouble) e = absurd (calm (h.serves.trouble e).0)
      by zones is more calm (Err Memory) e = inr refl

  pub says_fetched : IsWhole result → FetchesEnough t.kept t.asks u.asks t.fetched u.fetched
  says_fetched w = kept_enough t.room t.kept t.fetched h.asked u.kept u.fetched t.asks u.asks (h.kept w) h.asks

  pub says_missing : WhereTold t.zones (λ zones. OnOk result (FetchesMissing (graph_of c zones) keys t.room t.kept u.kept t.fetched u.fetched))
  says_missing = where_told t.zones (λ zones. OnOk result (FetchesMissing (graph_of c zones) keys t.room t.kept u.kept t.fetched u.fetched))
      (λ zones is. by zones is result refl)
    where
      by : (zones : List Zone) → t.zones ≡ Some zones → (r : Result Report WalkFault) → result ≡ r
          → OnOk r (FetchesMissing (graph_of c zones) keys t.room t.kept u.kept t.fetched u.fetched)
      by zones is (Ok report) e =
          let all : AreNeeded (graph_of c zones) keys h.asked = subst (λ v. OnOk v (AreNeeded (graph_of c zones) keys h.asked)) e (h.told zones is).2 in
          let k : HasKept t.room t.kept t.fetched h.asked u.kept u.fetched = h.kept (subst IsWhole (sym e) tt) in
          kept_missing (graph_of c zones) keys t.room t.kept t.fetched h.asked u.kept u.fetched k all
      by zones is (Err fault) e = tt
