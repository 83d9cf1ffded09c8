-- The names that are kept after one more ask.
use Rattle.std.proofs.Common.{◌≡◌, ℕ, zero, suc, ◌+◌, ◌-◌, ◌≤◌, drop, get_or, ◌⊎◌, List, [], ◌∷◌, ◌++◌, length, take}
use Rattle.std.proofs.Common.{refl, sym, ◌∙◌, ap, subst, inl, inr, arith, length-append}
use Rattle.std.specs.Prelude.{◌↔◌, Contains, Bool, IsTrue}
use Rattle.std.proofs.lemmas.List.Elements.{Contains-append_left, Contains-append_right, Contains-append_cases}
use Rattle.std.proofs.lemmas.Str.Ascii.{lowercase-lowercase}
use Rattle.enum_base.specs.Folding.{folded}
use Rattle.dns_name.specs.Name.{folded_labels}
use Rattle.naptr_data.specs.Sources.{AreDistinct, BringsToFront, Fetches, AreKept}
use Rattle.naptr_data.specs.Zones.{Labels, IsRising}
use Rattle.naptr_rule.specs.Rank.{rank_of}
use Rattle.naptr_rule.specs.declared.rule.Naptr.{Naptr}
use Rattle.std.specs.List.{AllByRecursion}
use Rattle.std.specs.declared.cmp.Ordering.TheVariants.{Less}
use Rattle.std.proofs.lemmas.List.{take_rest}
use Rattle.cases_rules.specs.Names.{names_of}
use Rattle.cases_rules.specs.declared.kept.Kept.{Kept}
use Rattle.cases_rules.specs.declared.kept.Kept.TheVariants.{One, Two}
use Rattle.ddds_walk.proofs.ElementLemmas.{has_none, has_cons, has_head, has_tail, has_same}

-- a folded name is folded again to itself
folded_twice : (bytes : List ℕ) → folded (folded bytes) ≡ folded bytes
folded_twice [] = refl
folded_twice (b ∷ bytes) = let h : folded (folded bytes) ≡ folded bytes = folded_twice bytes in
    ap (λ v. v ∷ folded (folded bytes)) (lowercase-lowercase b) ∙ ap (λ v. folded (b ∷ []) ++ v) h

folds_twice : (labels : Labels) → folded_labels (folded_labels labels) ≡ folded_labels labels
folds_twice [] = refl
folds_twice (l ∷ labels) = ap (λ v. v ∷ folded_labels (folded_labels labels)) (folded_twice l) ∙ ap (λ v. folded l ∷ v) (folds_twice labels)

-- which names are among none, one and two
pub has_nothing : (x : Labels) → Contains [] x → ⊥
has_nothing x h = has_none x h

pub has_one : (y x : Labels) → Contains (y ∷ []) x ↔ (y ≡ x)
has_one y x = ((λ h. by (has_cons [] y x h)), (λ e. has_same (y ∷ []) y x e (has_head [] y)))
  where
    by : (y ≡ x) ⊎ Contains [] x → y ≡ x
    by (inl e) = e
    by (inr h) = absurd (has_none x h)

pub has_two : (y z x : Labels) → Contains (y ∷ z ∷ []) x ↔ ((y ≡ x) ⊎ (z ≡ x))
has_two y z x = ((λ h. by (has_cons (z ∷ []) y x h)), from)
  where
    by : (y ≡ x) ⊎ Contains (z ∷ []) x → (y ≡ x) ⊎ (z ≡ x)
    by (inl e) = inl e
    by (inr h) = inr ((has_one z x).0 h)

    from : (y ≡ x) ⊎ (z ≡ x) → Contains (y ∷ z ∷ []) x
    from (inl e) = has_same (y ∷ z ∷ []) y x e (has_head (z ∷ []) y)
    from (inr e) = has_tail (z ∷ []) y x ((has_one z x).1 e)

module _ {X : Type 0} where
  -- the first of two names is this one, or the second, or none
  pub front_first : (x y : X) (rest : List X) → y ≡ x → BringsToFront x (y ∷ rest) (x ∷ rest)
  front_first x y rest e = inl ([], rest, ap (λ v. v ∷ rest) e, refl)

  pub front_second : (x y z : X) → z ≡ x → BringsToFront x (y ∷ z ∷ []) (x ∷ y ∷ [])
  front_second x y z e = inl (y ∷ [], [], ap (λ v. y ∷ v ∷ []) e, refl)

  pub front_none : (x : X) → BringsToFront x [] (x ∷ [])
  front_none x = inr ((λ h. has_none x h), refl)

  pub front_new_one : (x y : X) → (y ≡ x → ⊥) → BringsToFront x (y ∷ []) (x ∷ y ∷ [])
  front_new_one x y n = inr ((λ h. by (has_cons [] y x h)), refl)
    where
      by : (y ≡ x) ⊎ Contains [] x → ⊥
      by (inl e) = n e
      by (inr h) = has_none x h

  pub front_new_two : (x y z : X) → (y ≡ x → ⊥) → (z ≡ x → ⊥) → BringsToFront x (y ∷ z ∷ []) (x ∷ y ∷ z ∷ [])
  front_new_two x y z n m = inr ((λ h. by (has_cons (z ∷ []) y x h)), refl)
    where
      on : (z ≡ x) ⊎ Contains [] x → ⊥
      on (inl e) = m e
      on (inr h) = has_none x h

      by : (y ≡ x) ⊎ Contains (z ∷ []) x → ⊥
      by (inl e) = n e
      by (inr h) = on (has_cons [] z x h)

  -- names with one at another place are the same names
  has_wider : (a b : List X) (x y : X) → Contains (a ++ b) y → Contains (a ++ x ∷ b) y
  has_wider a b x y h = by (Contains-append_cases a b y h)
    where
      by : Contains a y ⊎ Contains b y → Contains (a ++ x ∷ b) y
      by (inl k) = Contains-append_left a (x ∷ b) y k
      by (inr k) = Contains-append_right a (x ∷ b) y (has_tail b x y k)

  once_less : (a b : List X) (x : X) → AreDistinct (a ++ x ∷ b) → AreDistinct (a ++ b)
  once_less [] b x h = h.1
  once_less (y ∷ a) b x h = ((λ k. h.0 (has_wider a b x y k)), once_less a b x h.1)

  once_front : (a b : List X) (x : X) → AreDistinct (a ++ x ∷ b) → ¬ Contains (a ++ b) x
  once_front [] b x h k = h.0 k
  once_front (y ∷ a) b x h k = by (λ i. once_front a b x h.1 i) (has_cons (a ++ b) y x k)
    where
      by : (Contains (a ++ b) x → ⊥) → (y ≡ x) ⊎ Contains (a ++ b) x → ⊥
      by f (inl e) = h.0 (has_same (a ++ x ∷ b) x y (sym e) (Contains-append_right a (x ∷ b) x (has_head b x)))
      by f (inr i) = f i

  fronts_once : (x : X) (old all : List X) → BringsToFront x old all → AreDistinct old → AreDistinct all
  fronts_once x old all (inl (a, b, e, f)) h =
      let P : List X → Type 0 = λ v. AreDistinct v in
      let i : AreDistinct (a ++ x ∷ b) = subst P e h in
      subst P (sym f) (once_front a b x i, once_less a b x i)
  fronts_once x old all (inr (n, f)) h = let P : List X → Type 0 = λ v. AreDistinct v in subst P (sym f) (n, h)

  fronts_only : (x : X) (old all : List X) (d : X) → BringsToFront x old all → Contains all d → (x ≡ d) ⊎ Contains old d
  fronts_only x old all d (inl (a, b, e, f)) h =
      let P : List X → Type 0 = λ v. Contains v d in
      by (λ k. subst P (sym e) (has_wider a b x d k)) (has_cons (a ++ b) x d (subst P f h))
    where
      by : (Contains (a ++ b) d → Contains old d) → (x ≡ d) ⊎ Contains (a ++ b) d → (x ≡ d) ⊎ Contains old d
      by g (inl i) = inl i
      by g (inr k) = inr (g k)
  fronts_only x old all d (inr (n, f)) h = let P : List X → Type 0 = λ v. Contains v d in has_cons old x d (subst P f h)

  has_taken : (n : ℕ) (xs : List X) (x : X) → Contains (take n xs) x → Contains xs x
  has_taken zero xs x h = absurd (has_none x h)
  has_taken (suc n) [] x h = h
  has_taken (suc n) (y ∷ xs) x h = by (λ k. has_taken n xs x k) (has_cons (take n xs) y x h)
    where
      by : (Contains (take n xs) x → Contains xs x) → (y ≡ x) ⊎ Contains (take n xs) x → Contains (y ∷ xs) x
      by f (inl e) = has_same (y ∷ xs) y x e (has_head xs y)
      by f (inr k) = has_tail xs y x (f k)

  once_taken : (n : ℕ) (xs : List X) → AreDistinct xs → AreDistinct (take n xs)
  once_taken zero xs h = tt
  once_taken (suc n) [] h = tt
  once_taken (suc n) (y ∷ xs) h = ((λ k. h.0 (has_taken n xs y k)), once_taken n xs h.1)

  fewer_taken : (n : ℕ) (xs : List X) → (length (take n xs) ≤ length xs) × (length (take n xs) ≤ n)
  fewer_taken zero xs = (omega arith, omega arith)
  fewer_taken (suc n) [] = (omega arith, omega arith)
  fewer_taken (suc n) (y ∷ xs) = let h = fewer_taken n xs in (omega (arith, h.0), omega (arith, h.1))

  fronts_length : (x : X) (old all : List X) → BringsToFront x old all
      → (Contains old x × (length all ≡ length old)) ⊎ (¬ Contains old x × (length all ≡ length old + 1))
  fronts_length x old all (inl (a, b, e, f)) =
      let P : List X → Type 0 = λ v. Contains v x in
      let i : length old ≡ length (a ++ x ∷ b) = ap length e in
      let j : length all ≡ length (x ∷ (a ++ b)) = ap length f in
      inl (subst P (sym e) (Contains-append_right a (x ∷ b) x (has_head b x)), omega (arith, length-append a b, length-append a (x ∷ b)))
  fronts_length x old all (inr (n, f)) = let j : length all ≡ length (x ∷ old) = ap length f in inr (n, omega arith)

-- what is kept after an ask for a name, which is folded
pub kept_after : (name folded : Labels) → folded ≡ folded_labels name → (old all new : List Labels) (fetched fetched' : ℕ) → AreKept old fetched
    → BringsToFront folded old all → new ≡ take 2 all → Fetches folded old fetched fetched' → AreKept new fetched'
kept_after name folded e old all new fetched fetched' are fronts is fetch =
    record { folded = folds; once = once; few = few (fronts_length folded old all fronts) }
  where
    taken : (d : Labels) → Contains new d → Contains all d
    taken d h = let P : List Labels → Type 0 = λ v. Contains v d in has_taken 2 all d (subst P is h)

    folds : (d : Labels) → Contains new d → folded_labels d ≡ d
    folds d h = by (fronts_only folded old all d fronts (taken d h))
      where
        by : (folded ≡ d) ⊎ Contains old d → folded_labels d ≡ d
        by (inl f) = ap folded_labels (sym f) ∙ ap folded_labels e ∙ folds_twice name ∙ sym e ∙ f
        by (inr k) = are.folded d k

    once : AreDistinct new
    once = let P : List Labels → Type 0 = λ v. AreDistinct v in subst P (sym is) (once_taken 2 all (fronts_once folded old all fronts are.once))

    few : (Contains old folded × (length all ≡ length old)) ⊎ (¬ Contains old folded × (length all ≡ length old + 1)) → length new ≤ fetched'
    few (inl (h, l)) = let t = fewer_taken 2 all in let i : length new ≡ length (take 2 all) = ap length is in
        let f = fetch.kept h in let k = are.few in omega (arith, t.0)
    few (inr (n, l)) = let t = fewer_taken 2 all in let i : length new ≡ length (take 2 all) = ap length is in
        let f = fetch.missing n in let k = are.few in grind (arith, t.0, t.1)

pub keeps : (name folded : Labels) → folded ≡ folded_labels name → (old old' : List Labels) → old ≡ old' → (all new : List Labels)
    → BringsToFront folded old all → new ≡ take 2 all → (x : List Labels) × BringsToFront (folded_labels name) old' x × (new ≡ take 2 x)
keeps name folded e old old' f all new fronts is =
    (all, subst (λ v. BringsToFront v old' all) e (let P : List Labels → Type 0 = λ v. BringsToFront folded v all in subst P f fronts), is)

-- a name that is counted and not kept
pub kept_same : (name : Labels) (old : List Labels) (fetched fetched' : ℕ) → AreKept old fetched → fetched ≤ fetched' → AreKept old fetched'
kept_same name old fetched fetched' are l = record { folded = are.folded; once = are.once; few = let k = are.few in omega arith }

-- the same of what is kept, by its case
pub has_second : (kept : Kept) (first second name : Labels) → kept ≡ Two first second → (first ≡ name → ⊥) → (t : Bool) → (IsTrue t ↔ (second ≡ name))
    → IsTrue t ↔ Contains (names_of kept) name
has_second kept first second name is n t e = subst (λ k. IsTrue t ↔ Contains (names_of k) name) (sym is)
    ((λ h. (has_two first second name).1 (inr (e.0 h))), (λ h. e.1 (by ((has_two first second name).0 h))))
  where
    by : (first ≡ name) ⊎ (second ≡ name) → second ≡ name
    by (inl f) = absurd (n f)
    by (inr f) = f

pub without_one : (kept : Kept) (first name : Labels) → kept ≡ One first → first ≡ name → BringsToFront name (names_of kept) (name ∷ [])
without_one kept first name is e = subst (λ k. BringsToFront name (names_of k) (name ∷ [])) (sym is) (front_first name first [] e)

pub without_first : (kept : Kept) (first second name : Labels) → kept ≡ Two first second → first ≡ name
    → BringsToFront name (names_of kept) (name ∷ second ∷ [])
without_first kept first second name is e =
    subst (λ k. BringsToFront name (names_of k) (name ∷ second ∷ [])) (sym is) (front_first name first (second ∷ []) e)

pub without_second : (kept : Kept) (first second name : Labels) → kept ≡ Two first second → second ≡ name
    → BringsToFront name (names_of kept) (name ∷ first ∷ [])
without_second kept first second name is e =
    subst (λ k. BringsToFront name (names_of k) (name ∷ first ∷ [])) (sym is) (front_second name first second e)

-- rules rise where the first ranks before the others, and these rise
pub rising_by : (rules : List Naptr) (one : Naptr) → 1 ≤ length rules → one ≡ get_or rules 0 one
    → AllByRecursion (λ next. rank_of one next ≡ Less) (take (length rules - 1) (drop 1 rules))
    → IsRising (take (length rules - 1) (drop 1 rules)) → IsRising rules
rising_by [] one some is after rising = absurd (omega (arith, some))
rising_by (r ∷ rules) one some is after rising =
    let same : take (length (r ∷ rules) - 1) (drop 1 (r ∷ rules)) ≡ rules = take_rest (r ∷ rules) 1 in
    let P : List Naptr → Type 0 = λ v. AllByRecursion (λ next. rank_of one next ≡ Less) v in
    let Q : Naptr → Type 0 = λ o. AllByRecursion (λ next. rank_of o next ≡ Less) rules in
    (subst Q is (subst P same after), subst IsRising same rising)
