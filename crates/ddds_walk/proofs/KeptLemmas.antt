-- What a source has kept and fetched, over the asks of a walk one after another, and what follows for the walk.
use Rattle.std.proofs.Common.{◌≡◌, ℕ, suc, ◌+◌, ◌<◌, ◌≤◌, ◌⊎◌, List, [], ◌∷◌, ◌++◌, length, take, drop, refl, sym, ◌∙◌}
use Rattle.std.proofs.Common.{ap, subst, inl, inr, arith, length-append}
use Rattle.std.specs.Prelude.{◌↔◌, Contains}
use Rattle.std.proofs.lemmas.List.{length_push, take_all, take-append-drop}
use Rattle.std.proofs.lemmas.List.Elements.{Contains-append_left, Contains-append_right, Contains-append_cases, Contains-push, Contains-push_cases}
use Rattle.enum_base.specs.Causes.{one_more}
use Rattle.naptr_data.specs.Sources.{AreDistinct, BringsToFront, Fetches, AreKept}
use Rattle.naptr_data.specs.Zones.{Labels}
use Rattle.ddds_walk.specs.Asking.{more, FetchesEnough, FetchesMissing}
use Rattle.ddds_walk.specs.Graph.{Graph}
use Rattle.ddds_walk.specs.Kept.{HasRoom, HasKept}
use Rattle.ddds_walk.specs.Report.{IsNeeded, AreNeeded}
use Rattle.ddds_walk.proofs.CountLemmas.{distinct_fits}
use Rattle.ddds_walk.proofs.ElementLemmas.{has_none, has_cons, has_head, has_tail, has_same}

module _ {X : Type 0} where
  has_in : (xs ys : List X) (x : X) → xs ≡ ys → Contains xs x → Contains ys x
  has_in xs ys x e h = let P : List X → Type 0 = λ w. Contains w x in subst P e h

  has_taken : (n : ℕ) (xs : List X) (x : X) → Contains (take n xs) x → Contains xs x
  has_taken n xs x h =
      has_in (take n xs ++ drop n xs) xs x (take-append-drop n xs) (Contains-append_left (take n xs) (drop n xs) x h)

  -- elements of a list and of the same list without one at some place
  has_middle : (a b : List X) (x y : X) → Contains (a ++ x ∷ b) y → (x ≡ y) ⊎ Contains (a ++ b) y
  has_middle a b x y h = by (Contains-append_cases a (x ∷ b) y h)
    where
      on : (x ≡ y) ⊎ Contains b y → (x ≡ y) ⊎ Contains (a ++ b) y
      on (inl e) = inl e
      on (inr k) = inr (Contains-append_right a b y k)

      by : Contains a y ⊎ Contains (x ∷ b) y → (x ≡ y) ⊎ Contains (a ++ b) y
      by (inl k) = inr (Contains-append_left a b y k)
      by (inr k) = on (has_cons b x y k)

  has_wider : (a b : List X) (x y : X) → Contains (a ++ b) y → Contains (a ++ x ∷ b) y
  has_wider a b x y h = by (Contains-append_cases a b y h)
    where
      by : Contains a y ⊎ Contains b y → Contains (a ++ x ∷ b) y
      by (inl k) = Contains-append_left a (x ∷ b) y k
      by (inr k) = Contains-append_right a (x ∷ b) y (has_tail b x y k)

  -- an element is brought to the front of a list that has it, or has it not
  fronts_was : (x : X) (old new : List X) → BringsToFront x old new → Contains old x ⊎ ¬ Contains old x
  fronts_was x old new (inl (a, b, e, f)) =
      inl (has_in (a ++ x ∷ b) old x (sym e) (Contains-append_right a (x ∷ b) x (has_head b x)))
  fronts_was x old new (inr (n, f)) = inr n

  fronts_first : (x : X) (old new : List X) → BringsToFront x old new → Contains new x
  fronts_first x old new (inl (a, b, e, f)) = has_in (x ∷ (a ++ b)) new x (sym f) (has_head (a ++ b) x)
  fronts_first x old new (inr (n, f)) = has_in (x ∷ old) new x (sym f) (has_head old x)

  fronts_stay : (x : X) (old new : List X) (d : X) → BringsToFront x old new → Contains old d → Contains new d
  fronts_stay x old new d (inl (a, b, e, f)) h =
      has_in (x ∷ (a ++ b)) new d (sym f) (by (has_middle a b x d (has_in old (a ++ x ∷ b) d e h)))
    where
      by : (x ≡ d) ⊎ Contains (a ++ b) d → Contains (x ∷ (a ++ b)) d
      by (inl k) = has_same (x ∷ (a ++ b)) x d k (has_head (a ++ b) x)
      by (inr k) = has_tail (a ++ b) x d k
  fronts_stay x old new d (inr (n, f)) h = has_in (x ∷ old) new d (sym f) (has_tail old x d h)

  fronts_only : (x : X) (old new : List X) (d : X) → BringsToFront x old new → Contains new d → (x ≡ d) ⊎ Contains old d
  fronts_only x old new d (inl (a, b, e, f)) h = by (has_cons (a ++ b) x d (has_in new (x ∷ (a ++ b)) d f h))
    where
      by : (x ≡ d) ⊎ Contains (a ++ b) d → (x ≡ d) ⊎ Contains old d
      by (inl k) = inl k
      by (inr k) = inr (has_in (a ++ x ∷ b) old d (sym e) (has_wider a b x d k))
  fronts_only x old new d (inr (n, f)) h = has_cons old x d (has_in new (x ∷ old) d f h)

  -- where some list has all these elements, there are no more of them than it has
  fronts_fit : (x : X) (old new all : List X) → BringsToFront x old new → AreDistinct old
      → ((d : X) → Contains old d → Contains all d) → Contains all x → length new ≤ length all
  fronts_fit x old new all (inl (a, b, e, f)) once h k =
      let i : length old ≤ length all = distinct_fits old all once h in
      let u : length old ≡ length (a ++ x ∷ b) = ap length e in
      let v : length new ≡ length (x ∷ (a ++ b)) = ap length f in
      omega (arith, length-append a b, length-append a (x ∷ b))
  fronts_fit x old new all (inr (n, f)) once h k =
      let i : length (x ∷ old) ≤ length all = distinct_fits (x ∷ old) all (n, once) (λ d j. by d (has_cons old x d j)) in
      let v : length new ≡ length (x ∷ old) = ap length f in
      omega arith
    where
      by : (d : X) → (x ≡ d) ⊎ Contains old d → Contains all d
      by d (inl j) = has_same all x d j k
      by d (inr j) = h d j

  -- more of the domains are told than were asked: not where each of them was asked
  pub past_limit : (ds asked : List X) → AreDistinct ds → ((d : X) → Contains ds d → Contains asked d)
      → length asked < length ds → ⊥
  past_limit ds asked once all l =
      let h : length ds ≤ length asked = distinct_fits ds asked once all in omega arith

-- one more ask
pub asks_more : (asked : List Labels) (name : Labels) (asks asks' asks'' : ℕ) → asks' ≡ more (length asked) asks
    → asks'' ≡ one_more asks' → asks'' ≡ more (length (asked ++ name ∷ [])) asks
asks_more asked name asks asks' asks'' e f =
    let l : suc (length asked) ≡ length (asked ++ name ∷ []) = omega (arith, length_push asked name) in
    f ∙ ap one_more e ∙ ap (λ n. more n asks) l

pub kept_start : (room : ℕ) (kept : List Labels) (fetched : ℕ) → HasKept room kept fetched [] kept fetched
kept_start room kept fetched = record {
  hits = [];
  misses = [];
  each = λ d. ((λ h. inl h), (λ h. by d h));
  count = omega arith;
  hits_once = tt;
  misses_once = tt;
  before = λ d h. absurd (has_none d h);
  fetches = refl;
  only = λ d h. inl h;
  stay = λ r d h. were d h;
  lacking = λ r d h. absurd (has_none d h);
}
  where
    by : (d : Labels) → Contains {X = Labels} [] d ⊎ Contains {X = Labels} [] d → Contains {X = Labels} [] d
    by d (inl h) = h
    by d (inr h) = h

    were : (d : Labels) → Contains kept d ⊎ Contains {X = Labels} [] d → Contains kept d
    were d (inl h) = h
    were d (inr h) = absurd (has_none d h)

swapped : {A B C : Type 0} → (A ↔ (B ⊎ C)) → A ↔ (C ⊎ B)
swapped {A} {B} {C} (f, g) = ((λ a. to (f a)), (λ k. from k))
  where
    to : B ⊎ C → C ⊎ B
    to (inl b) = inr b
    to (inr c) = inl c

    from : C ⊎ B → A
    from (inl c) = g (inr c)
    from (inr b) = g (inl b)

-- where two lists have the elements of one, they have them with one more
part_more : (asked some others : List Labels) → ((d : Labels) → Contains asked d ↔ (Contains some d ⊎ Contains others d))
    → (name d : Labels) → Contains (asked ++ name ∷ []) d ↔ (Contains (name ∷ some) d ⊎ Contains others d)
part_more asked some others each name d = ((λ k. to (Contains-push_cases asked name d k)), (λ k. from k))
  where
    longer : Contains some d ⊎ Contains others d → Contains (name ∷ some) d ⊎ Contains others d
    longer (inl k) = inl (has_tail some name d k)
    longer (inr k) = inr k

    to : Contains asked d ⊎ (name ≡ d) → Contains (name ∷ some) d ⊎ Contains others d
    to (inl k) = longer ((each d).0 k)
    to (inr e) = inl (has_same (name ∷ some) name d e (has_head some name))

    whole : Contains some d ⊎ Contains others d → Contains (asked ++ name ∷ []) d
    whole k = Contains-append_left asked (name ∷ []) d ((each d).1 k)

    back : (name ≡ d) ⊎ Contains some d → Contains (asked ++ name ∷ []) d
    back (inl e) = has_same (asked ++ name ∷ []) name d e (Contains-push asked name)
    back (inr k) = whole (inl k)

    from : Contains (name ∷ some) d ⊎ Contains others d → Contains (asked ++ name ∷ []) d
    from (inl k) = back (has_cons some name d k)
    from (inr k) = whole (inr k)

-- a further ask, of a name that was not asked before, at a source that keeps `all` then, as many as there is room for
module _ (room : ℕ) (kept : List Labels) (fetched : ℕ) (asked kept' : List Labels) (fetched' : ℕ)
    (h : HasKept room kept fetched asked kept' fetched') (name : Labels) (new : ¬ Contains asked name)
    (all : List Labels) (fronts : BringsToFront name kept' all) where
  less_has : (some : List Labels) → ((d : Labels) → Contains kept d ⊎ Contains (asked ++ name ∷ []) d → Contains some d)
      → (d : Labels) → Contains kept d ⊎ Contains asked d → Contains some d
  less_has some has d (inl k) = has d (inl k)
  less_has some has d (inr k) = has d (inr (Contains-append_left asked (name ∷ []) d k))

  less_room : HasRoom room kept (asked ++ name ∷ []) → HasRoom room kept asked
  less_room (some, l, has) = (some, l, less_has some has)

  -- where there is room nothing is dropped
  all_fit : AreDistinct kept' → HasRoom room kept (asked ++ name ∷ []) → take room all ≡ all
  all_fit once (some, l, has) =
      let i : length all ≤ length some = fronts_fit name kept' all some fronts once
      (λ d k. less_has some has d (h.only d k)) (has name (inr (Contains-push asked name))) in
      take_all room all (omega arith)

  only_more : (d : Labels) → Contains (take room all) d → Contains kept d ⊎ Contains (asked ++ name ∷ []) d
  only_more d k = by (fronts_only name kept' all d fronts (has_taken room all d k))
    where
      was : Contains kept d ⊎ Contains asked d → Contains kept d ⊎ Contains (asked ++ name ∷ []) d
      was (inl j) = inl j
      was (inr j) = inr (Contains-append_left asked (name ∷ []) d j)

      by : (name ≡ d) ⊎ Contains kept' d → Contains kept d ⊎ Contains (asked ++ name ∷ []) d
      by (inl e) = inr (has_same (asked ++ name ∷ []) name d e (Contains-push asked name))
      by (inr j) = was (h.only d j)

  stay_more : AreDistinct kept' → HasRoom room kept (asked ++ name ∷ [])
      → (d : Labels) → Contains kept d ⊎ Contains (asked ++ name ∷ []) d → Contains (take room all) d
  stay_more once room' d k = has_in all (take room all) d (sym (all_fit once room')) (by k)
    where
      were : Contains kept d ⊎ Contains asked d → Contains all d
      were j = fronts_stay name kept' all d fronts (h.stay (less_room room') d j)

      on : Contains asked d ⊎ (name ≡ d) → Contains all d
      on (inl j) = were (inr j)
      on (inr e) = has_same all name d e (fronts_first name kept' all fronts)

      by : Contains kept d ⊎ Contains (asked ++ name ∷ []) d → Contains all d
      by (inl j) = were (inl j)
      by (inr j) = on (Contains-push_cases asked name d j)

  -- a name that is kept was kept before, for it was not asked before
  hit_before : Contains kept' name → Contains kept name
  hit_before k = by (h.only name k)
    where
      by : Contains kept name ⊎ Contains asked name → Contains kept name
      by (inl j) = j
      by (inr j) = absurd (new j)

  kept_hit : (fetched'' : ℕ) → AreDistinct kept' → Contains kept' name → fetched'' ≡ fetched'
      → HasKept room kept fetched (asked ++ name ∷ []) (take room all) fetched''
  kept_hit fetched'' once was same = record {
    hits = name ∷ h.hits;
    misses = h.misses;
    each = part_more asked h.hits h.misses h.each name;
    count = let c : length asked ≡ length h.hits + length h.misses = h.count in omega (arith, length_push asked name);
    hits_once = ((λ k. new ((h.each name).1 (inl k))), h.hits_once);
    misses_once = h.misses_once;
    before = λ d k. by d (has_cons h.hits name d k);
    fetches = same ∙ h.fetches;
    only = only_more;
    stay = stay_more once;
    lacking = λ r. h.lacking (less_room r);
  }
    where
      by : (d : Labels) → (name ≡ d) ⊎ Contains h.hits d → Contains kept d
      by d (inl e) = has_same kept name d e (hit_before was)
      by d (inr k) = h.before d k

  kept_miss : (fetched'' : ℕ) → AreDistinct kept' → ¬ Contains kept' name → fetched'' ≡ one_more fetched'
      → HasKept room kept fetched (asked ++ name ∷ []) (take room all) fetched''
  kept_miss fetched'' once was rose = record {
    hits = h.hits;
    misses = name ∷ h.misses;
    each = λ d. swapped (part_more asked h.misses h.hits (λ x. swapped (h.each x)) name d);
    count = let c : length asked ≡ length h.hits + length h.misses = h.count in omega (arith, length_push asked name);
    hits_once = h.hits_once;
    misses_once = ((λ k. new ((h.each name).1 (inr k))), h.misses_once);
    before = h.before;
    fetches = rose ∙ ap one_more h.fetches;
    only = only_more;
    stay = stay_more once;
    lacking = λ r d k j. by r d j (has_cons h.misses name d k);
  }
    where
      by : HasRoom room kept (asked ++ name ∷ []) → (d : Labels) → Contains kept d → (name ≡ d) ⊎ Contains h.misses d → ⊥
      by r d j (inl e) = was (h.stay (less_room r) name (inl (has_same kept d name (sym e) j)))
      by r d j (inr k) = h.lacking (less_room r) d k j

-- a further ask that is answered: the product is what `KeepsNames` says of an answer
pub kept_more : (room : ℕ) (kept : List Labels) (fetched : ℕ) (asked kept' : List Labels) (fetched' : ℕ)
    → HasKept room kept fetched asked kept' fetched' → (name : Labels) → ¬ Contains asked name
    → (kept'' : List Labels) (fetched'' : ℕ) → (all : List Labels) × BringsToFront name kept' all × (kept'' ≡ take room all)
    → Fetches name kept' fetched' fetched'' → AreKept kept' fetched'
    → HasKept room kept fetched (asked ++ name ∷ []) kept'' fetched''
kept_more room kept fetched asked kept' fetched' h name new kept'' fetched'' (all, fronts, e) fetch are =
    let P : List Labels → Type 0 = λ w. HasKept room kept fetched (asked ++ name ∷ []) w fetched'' in
    subst P (sym e) (by (fronts_was name kept' all fronts))
  where
    by : Contains kept' name ⊎ ¬ Contains kept' name → HasKept room kept fetched (asked ++ name ∷ []) (take room all) fetched''
    by (inl k) = kept_hit room kept fetched asked kept' fetched' h name new all fronts fetched'' are.once k (fetch.kept k)
    by (inr k) = kept_miss room kept fetched asked kept' fetched' h name new all fronts fetched'' are.once k (fetch.missing k)

-- what follows for the walk: fetched were at least as many names as asked, less those that had been kept
pub kept_enough : (room : ℕ) (kept : List Labels) (fetched : ℕ) (asked kept' : List Labels) (fetched' : ℕ) (asks asks' : ℕ)
    → HasKept room kept fetched asked kept' fetched' → asks' ≡ more (length asked) asks
    → FetchesEnough kept asks asks' fetched fetched'
kept_enough room kept fetched asked kept' fetched' asks asks' h e =
    let l : length h.hits ≤ length kept = distinct_fits h.hits kept h.hits_once h.before in
    let c : length asked ≡ length h.hits + length h.misses = h.count in
    (length asked, length h.misses, e, h.fetches, omega arith)

-- where the needed domains were asked, and there is room for them and for what was kept before
pub kept_missing : (g : Graph Labels) (keys : List Labels) (room : ℕ) (kept : List Labels) (fetched : ℕ) (asked kept' : List Labels)
    (fetched' : ℕ) → HasKept room kept fetched asked kept' fetched' → AreNeeded g keys asked
    → FetchesMissing g keys room kept kept' fetched fetched'
kept_missing g keys room kept fetched asked kept' fetched' h needed all (once, has) l = (
  (λ d. ((λ k. (has d).1 (these d (h.only d k))), (λ k. h.stay fits d (those d ((has d).0 k))))),
  (h.misses, (h.misses_once, (λ d. ((λ k. missed d k), (λ k. wanted d k)))), h.fetches),
)
  where
    these : (d : Labels) → Contains kept d ⊎ Contains asked d → Contains kept d ⊎ IsNeeded g keys d
    these d (inl k) = inl k
    these d (inr k) = inr (needed.some.only d k)

    those : (d : Labels) → Contains kept d ⊎ IsNeeded g keys d → Contains kept d ⊎ Contains asked d
    those d (inl k) = inl k
    those d (inr k) = inr (needed.all d k)

    fits : HasRoom room kept asked
    fits = (all, l, (λ d k. (has d).1 (these d k)))

    missed : (d : Labels) → Contains h.misses d → IsNeeded g keys d × ¬ Contains kept d
    missed d k = (needed.some.only d ((h.each d).1 (inr k)), h.lacking fits d k)

    either : (d : Labels) → ¬ Contains kept d → Contains h.hits d ⊎ Contains h.misses d → Contains h.misses d
    either d n (inl k) = absurd (n (h.before d k))
    either d n (inr k) = k

    wanted : (d : Labels) → IsNeeded g keys d × ¬ Contains kept d → Contains h.misses d
    wanted d (k, n) = either d n ((h.each d).0 (needed.all d k))
