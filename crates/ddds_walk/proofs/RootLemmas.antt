-- The graph with the root: what is true of ranks from the root is true of derivations, whose place is the first rank.
use Rattle.std.proofs.Common.{◌≡◌, ℕ, ◌⊎◌, List, [], ◌∷◌, map, Option, Some, None, refl, sym, ◌∙◌, ap, subst, inl, inr}
use Rattle.std.specs.Prelude.{Contains}
use Rattle.naptr_data.specs.Sources.{AreDistinct}
use Rattle.naptr_data.specs.Zones.{Labels}
use Rattle.ddds_walk.specs.Graph.{Graph, Leads, LeadsFrom, Passes, PassesFrom}
use Rattle.ddds_walk.specs.Order.{Less}
use Rattle.ddds_walk.specs.Report.{IsLoop, IsLeastLoop, HasNoLoop, IsNeeded}
use Rattle.ddds_walk.specs.Ways.{RootedSteps, RootedStops, rooted, IsRound, IsLeastRound, HasNoRound, IsMet}
use Rattle.ddds_walk.specs.declared.derivation.Derivation.{Derivation}
use Rattle.ddds_walk.proofs.ElementLemmas.{has_none, has_cons, has_tail, has_same, has_map, has_unmap}
use Rattle.ddds_walk.specs.Ways.{IsGraph}

some_same : (d e : Labels) → Some d ≡ Some e → d ≡ e
some_same d e s = cc

none_some : (d : Labels) → None ≡ Some d → ⊥
none_some d s = cc

-- domains as they stand beside the root
abbrev pub somes : List Labels → List (Option Labels)
somes es = map (λ d. Some d) es

pub some_has : (es : List Labels) (e : Labels) → Contains es e → Contains (somes es) (Some e)
some_has es e h = has_map (λ (d : Labels). Some d) es e h

pub has_some : (es : List Labels) (e : Labels) → Contains (somes es) (Some e) → Contains es e
has_some es e h = let (x, k, s) = has_unmap (λ (d : Labels). Some d) es (Some e) h in has_same es x e (some_same x e s) k

pub has_no_root : (es : List Labels) → Contains (somes es) None → ⊥
has_no_root es h = let (x, k, s) = has_unmap (λ (d : Labels). Some d) es None h in none_some x (sym s)

pub some_distinct : (es : List Labels) → AreDistinct es → AreDistinct (somes es)
some_distinct [] d = tt
some_distinct (e ∷ es) d = ((λ h. d.0 (has_some es e h)), some_distinct es d.1)

pub distinct_some : (es : List Labels) → AreDistinct (somes es) → AreDistinct es
distinct_some [] d = tt
distinct_some (e ∷ es) d = ((λ h. d.0 (some_has es e h)), distinct_some es d.1)

module _ (g : Graph Labels) (keys : List Labels) where
  pub rooted_is : IsGraph g → IsGraph (rooted g keys)
  rooted_is laws = record { one = one; either = either }
    where
      one : (k : Option Labels) (r : ℕ) (m n : Option Labels)
          → RootedSteps g keys k r m → RootedSteps g keys k r n → m ≡ n
      one None r None n s t = absurd s
      one None r (Some a) None s t = absurd t
      one None r (Some a) (Some b) s t = sym s ∙ t
      one (Some d) r None n s t = absurd s
      one (Some d) r (Some a) None s t = absurd t
      one (Some d) r (Some a) (Some b) s t = ap (λ v. Some v) (laws.one d r a b s t)

      either : (k : Option Labels) (r : ℕ) (m : Option Labels) → RootedSteps g keys k r m → RootedStops g k r → ⊥
      either None r m s t = t
      either (Some d) r None s t = s
      either (Some d) r (Some a) s t = laws.either d r a s t

  -- no step leads to the root
  pub leads_root : (rs : List ℕ) (k : Option Labels) → Leads (rooted g keys) k rs None → (rs ≡ []) × (k ≡ None)
  leads_root [] k l = (refl, l)
  leads_root (r ∷ rs) k (m, s, l) = by k m s (leads_root rs m l)
    where
      by : (k m : Option Labels) → RootedSteps g keys k r m → (rs ≡ []) × (m ≡ None) → (r ∷ rs ≡ []) × (k ≡ None)
      by None None s e = absurd s
      by None (Some a) s e = absurd (none_some a (sym e.1))
      by (Some d) None s e = absurd s
      by (Some d) (Some a) s e = absurd (none_some a (sym e.1))

  -- from a domain the way leads as it does without the root
  pub leads_some : (rs : List ℕ) (a d : Labels) → Leads (rooted g keys) (Some a) rs (Some d) → Leads g a rs d
  leads_some [] a d l = some_same a d l
  leads_some (r ∷ rs) a d (None, s, l) = absurd s
  leads_some (r ∷ rs) a d (Some b, s, l) = (b, s, leads_some rs b d l)

  pub some_leads : (rs : List ℕ) (a d : Labels) → Leads g a rs d → Leads (rooted g keys) (Some a) rs (Some d)
  some_leads [] a d l = ap (λ v. Some v) l
  some_leads (r ∷ rs) a d (b, s, l) = (Some b, s, some_leads rs b d l)

  pub passes_some : (rs : List ℕ) (a : Labels) (ds : List (Option Labels)) → Passes (rooted g keys) (Some a) rs ds
      → (es : List Labels) × (ds ≡ somes es) × Passes g a rs es
  passes_some [] a ds p = ([], p, refl)
  passes_some (r ∷ rs) a ds (None, rest, s, p, e) = absurd s
  passes_some (r ∷ rs) a ds (Some b, rest, s, p, e) =
      let (es, f, q) = passes_some rs b rest p in
      (a ∷ es, e ∙ ap (λ v. Some a ∷ v) f, (b, es, s, q, refl))

  pub some_passes : (rs : List ℕ) (a : Labels) (es : List Labels) → Passes g a rs es
      → Passes (rooted g keys) (Some a) rs (somes es)
  some_passes [] a es p = ap somes p
  some_passes (r ∷ rs) a es (b, rest, s, p, e) = (Some b, somes rest, s, some_passes rs b rest p, ap somes e)

module _ (g : Graph Labels) (keys : List Labels) where
  -- ranks from the root to a domain are a derivation: the first is the place of its key
  pub leads_in : (rs : List ℕ) (d : Labels) → Leads (rooted g keys) None rs (Some d)
      → (way : Derivation) × (rs ≡ way.place ∷ way.ranks) × LeadsFrom g keys way d
  leads_in [] d l = absurd (none_some d l)
  leads_in (r ∷ rs) d (None, s, l) = absurd s
  leads_in (r ∷ rs) d (Some k, s, l) = (record { place = r; ranks = rs }, refl, (k, s, leads_some g keys rs k d l))

  pub leads_out : (way : Derivation) (d : Labels) → LeadsFrom g keys way d
      → Leads (rooted g keys) None (way.place ∷ way.ranks) (Some d)
  leads_out way d (k, s, l) = (Some k, s, some_leads g keys way.ranks k d l)

  pub passes_in : (way : Derivation) (ds : List (Option Labels)) → Passes (rooted g keys) None (way.place ∷ way.ranks) ds
      → (es : List Labels) × (ds ≡ None ∷ somes es) × PassesFrom g keys way es
  passes_in way ds (None, rest, s, p, e) = absurd s
  passes_in way ds (Some k, rest, s, p, e) =
      let (es, f, q) = passes_some g keys way.ranks k rest p in
      (es, e ∙ ap (λ v. None ∷ v) f, (k, s, q))

  pub passes_out : (way : Derivation) (es : List Labels) → PassesFrom g keys way es
      → Passes (rooted g keys) None (way.place ∷ way.ranks) (None ∷ somes es)
  passes_out way es (k, s, p) = (Some k, somes es, s, some_passes g keys way.ranks k es p, refl)

  -- what leads round from the root is a loop
  pub loop_in : (rs : List ℕ) (ds : List (Option Labels)) (d : Option Labels) → IsRound (rooted g keys) None rs ds d
      → (way : Derivation) × (es : List Labels) × (e : Labels) × (rs ≡ way.place ∷ way.ranks) × (ds ≡ None ∷ somes es)
      × (d ≡ Some e) × IsLoop g keys way es e
  loop_in rs ds None l =
      let e = leads_root g keys rs None l.leads in
      let p : ds ≡ [] = subst (λ v. Passes (rooted g keys) None v ds) e.0 l.passes in
      let P : List (Option Labels) → Type 0 = λ v. Contains v None in
      absurd (has_none None (subst P p l.again))
  loop_in rs ds (Some e) l =
      let (way, f, h) = leads_in rs e l.leads in
      let (es, i, p) = passes_in way ds (subst (λ v. Passes (rooted g keys) None v ds) f l.passes) in (
        way,
        es,
        e,
        f,
        i,
        refl,
        record {
          leads = h;
          passes = p;
          again = again es i (subst (λ v. Contains v (Some e)) i l.again);
          others = others es (subst (λ v. AreDistinct v) i l.others);
        },
      )
    where
      again : (es : List Labels) → ds ≡ None ∷ somes es → Contains (None ∷ somes es) (Some e) → Contains es e
      again es i h = by (has_cons (somes es) None (Some e) h)
        where
          by : (None ≡ Some e) ⊎ Contains (somes es) (Some e) → Contains es e
          by (inl n) = absurd (none_some e n)
          by (inr k) = has_some es e k

      others : (es : List Labels) → AreDistinct (None ∷ somes es) → AreDistinct es
      others es a = distinct_some es a.1

  pub loop_out : (way : Derivation) (es : List Labels) (e : Labels) → IsLoop g keys way es e
      → IsRound (rooted g keys) None (way.place ∷ way.ranks) (None ∷ somes es) (Some e)
  loop_out way es e l = record {
    leads = leads_out way e l.leads;
    passes = passes_out way es l.passes;
    again = has_tail (somes es) None (Some e) (some_has es e l.again);
    others = ((λ h. has_no_root es h), some_distinct es l.others);
  }

  -- the least way round from the root is the least loop
  pub least_in : (rs : List ℕ) (ds : List (Option Labels)) (d : Option Labels) → IsLeastRound (rooted g keys) None rs ds d
      → (way : Derivation) × (es : List Labels) × (e : Labels) × (rs ≡ way.place ∷ way.ranks) × (ds ≡ None ∷ somes es)
      × (d ≡ Some e) × IsLeastLoop g keys way es e
  least_in rs ds d l =
      let (way, es, e, f, i, j, h) = loop_in rs ds d l.loop in (
        way,
        es,
        e,
        f,
        i,
        j,
        record {
          loop = h;
          least = λ other xs x m b. l.least (other.place ∷ other.ranks) (None ∷ somes xs) (Some x) (loop_out other xs x m)
              (subst (λ v. Less (other.place ∷ other.ranks) v) (sym f) b);
        },
      )

  pub least_out : (way : Derivation) (es : List Labels) (e : Labels) → IsLeastLoop g keys way es e
      → IsLeastRound (rooted g keys) None (way.place ∷ way.ranks) (None ∷ somes es) (Some e)
  least_out way es e l = record { loop = loop_out way es e l.loop; least = least }
    where
      least : (ls : List ℕ) (ds : List (Option Labels)) (d : Option Labels)
          → IsRound (rooted g keys) None ls ds d → Less ls (way.place ∷ way.ranks) → ⊥
      least ls ds d m b =
          let (other, xs, x, f, i, j, h) = loop_in ls ds d m in
          l.least other xs x h (subst (λ v. Less v (way.place ∷ way.ranks)) f b)

  pub no_loop_in : HasNoRound (rooted g keys) None → HasNoLoop g keys
  no_loop_in n way ds d l = n (way.place ∷ way.ranks) (None ∷ somes ds) (Some d) (loop_out way ds d l)

  -- what a walk from the root has to open is needed
  pub needed_in : (d : Labels) → IsMet (rooted g keys) None (Some d) → IsNeeded g keys d
  needed_in d (rs, l, b) =
      let (way, f, h) = leads_in rs d l in (
        way,
        h,
        λ other ds x i. subst (λ v. Less v (other.place ∷ other.ranks)) f
            (b (other.place ∷ other.ranks) (None ∷ somes ds) (Some x) (least_out other ds x i)),
      )

  pub needed_out : (d : Labels) → IsNeeded g keys d → IsMet (rooted g keys) None (Some d)
  needed_out d (way, l, b) = (way.place ∷ way.ranks, leads_out way d l, below)
    where
      below : (ls : List ℕ) (ds : List (Option Labels)) (x : Option Labels)
          → IsLeastRound (rooted g keys) None ls ds x → Less (way.place ∷ way.ranks) ls
      below ls ds x i =
          let (other, es, e, f, j, k, h) = least_in ls ds x i in
          let P : List ℕ → Type 0 = λ v. Less (way.place ∷ way.ranks) v in
          subst P (sym f) (b other es e h)
