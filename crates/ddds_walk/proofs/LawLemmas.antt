-- Laws of reports, loops and needed domains.
use Rattle.std.proofs.Common.{◌≡◌, ℕ, ◌⊎◌, List, ◌∷◌, Some, refl, sym, ◌∙◌, subst, inl, inr}
use Rattle.std.specs.Prelude.{Contains, slice_get}
use Rattle.ddds_walk.specs.Graph.{Graph, Passes, LeadsFrom, PassesFrom}
use Rattle.ddds_walk.specs.Order.{Less, Before}
use Rattle.ddds_walk.specs.Report.{IsLeastLoop, HasNoLoop, IsNeeded}
use Rattle.ddds_walk.specs.declared.derivation.Derivation.{Derivation}
use Rattle.ddds_walk.proofs.OrderLemmas.{less_cases, less_longer}
use Rattle.ddds_walk.proofs.GraphLemmas.{leads_one, leads_from, passes_one, passes_at}
use Rattle.ddds_walk.specs.Ways.{IsGraph}

module _ {V : Type 0} (g : Graph V) (keys : List V) where
  -- where there is no loop, each domain to which a derivation leads is needed
  pub all_needed : HasNoLoop g keys → (way : Derivation) (d : V) → LeadsFrom g keys way d → IsNeeded g keys d
  all_needed n way d l = (way, l, λ other ds x i. absurd (n other ds x i.loop))

-- derivations of equal ranks, with the place in front, are equal
pub same_way : (one other : Derivation) → one.place ∷ one.ranks ≡ other.place ∷ other.ranks → one ≡ other
same_way one other e =
    let place : one.place ≡ other.place = cc in
    let ranks : one.ranks ≡ other.ranks = cc in
    λ i. record { place = place i; ranks = ranks i }

module _ {V : Type 0} (g : Graph V) (laws : IsGraph g) (keys : List V) where
  -- one key stands at a place
  one_key : (n : ℕ) (k j : V) → slice_get keys n ≡ Some k → slice_get keys n ≡ Some j → k ≡ j
  one_key n k j a b = let e : Some k ≡ Some j = sym a ∙ b in cc

  -- a derivation leads to one domain, and passes the same ones
  way_leads : (way : Derivation) (d e : V) → LeadsFrom g keys way d → LeadsFrom g keys way e → d ≡ e
  way_leads way d e (k, a, l) (j, b, m) = leads_one g laws way.ranks j d e (leads_from g way.ranks k j d (one_key way.place k j a b) l) m

  way_passes : (way : Derivation) (ds es : List V) → PassesFrom g keys way ds → PassesFrom g keys way es → ds ≡ es
  way_passes way ds es (k, a, l) (j, b, m) =
      passes_one g laws way.ranks j ds es (subst (λ v. Passes g v way.ranks ds) (one_key way.place k j a b) l) m

  -- there is at most one least loop
  pub one_loop : (one other : Derivation) (ds es : List V) (d e : V)
      → IsLeastLoop g keys one ds d → IsLeastLoop g keys other es e → (one ≡ other) × (ds ≡ es) × (d ≡ e)
  one_loop one other ds es d e a b = by (less_cases (one.place ∷ one.ranks) (other.place ∷ other.ranks))
    where
      same : one ≡ other → (one ≡ other) × (ds ≡ es) × (d ≡ e)
      same s = (
        s,
        way_passes other ds es (subst (λ w. PassesFrom g keys w ds) s a.loop.passes) b.loop.passes,
        way_leads other d e (subst (λ w. LeadsFrom g keys w d) s a.loop.leads) b.loop.leads,
      )

      by : Less (one.place ∷ one.ranks) (other.place ∷ other.ranks)
          ⊎ ((one.place ∷ one.ranks ≡ other.place ∷ other.ranks)
          ⊎ Less (other.place ∷ other.ranks) (one.place ∷ one.ranks))
          → (one ≡ other) × (ds ≡ es) × (d ≡ e)
      by (inl h) = absurd (b.least one ds d a.loop h)
      by (inr (inl s)) = same (same_way one other s)
      by (inr (inr h)) = absurd (a.least other es e b.loop h)

  -- each domain on the least loop is needed
  pub loop_needed : (way : Derivation) (ds : List V) (d x : V) → IsLeastLoop g keys way ds d → Contains ds x → IsNeeded g keys x
  loop_needed way ds d x l i =
      let (k, at, p) = l.loop.passes in
      let (a, r, b, e, h) = passes_at g laws way.ranks k x ds p i in
      let front : Derivation = record { place = way.place; ranks = a } in
      let short : Before front way = inr (refl, subst (λ w. Less a w) (sym e) (less_longer a r b)) in
      (front, (k, at, h), λ other es y m. subst (λ w. Before front w) (one_loop way other ds es d y l m).0 short)
