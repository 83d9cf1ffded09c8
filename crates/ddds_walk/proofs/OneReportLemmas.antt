-- There is at most one report.
use Rattle.std.proofs.Common.{◌≡◌, ℕ, ◌⊎◌, List, [], ◌∷◌, map, Option, Some, None, refl, sym, ◌∙◌, ap, subst, inl, inr}
use Rattle.std.specs.Prelude.{Contains}
use Rattle.naptr_data.specs.Laws.{ZonesMakeOneOffer}
use Rattle.naptr_data.specs.Zones.{Labels, Zone}
use Rattle.naptr_rule.specs.declared.rule.Naptr.{Naptr}
use Rattle.subst_expr.specs.Laws.{OneOutput}
use Rattle.ddds_walk.specs.declared.derivation.Derivation.{Derivation}
use Rattle.ddds_walk.specs.declared.edge.Edge.TheVariants.{Stop}
use Rattle.ddds_walk.specs.declared.report.End.{End}
use Rattle.ddds_walk.specs.declared.report.Outcome.{Outcome}
use Rattle.ddds_walk.specs.Order.{Less, Before, AreRising}
use Rattle.ddds_walk.specs.Rules.{Client, IsEdge}
use Rattle.ddds_walk.specs.Report.{EndsAt, IsEnd, EndName, name_of, way_of, IsReport}
use Rattle.ddds_walk.specs.Ways.{last_rank}
use Rattle.ddds_walk.proofs.ElementLemmas.{has_none, has_cons, has_head, has_tail, has_same, has_map, has_unmap}
use Rattle.ddds_walk.proofs.OrderLemmas.{less_irrefl, less_trans, less_cases}
use Rattle.ddds_walk.proofs.ReportLemmas.{last_edge}
use Rattle.ddds_walk.proofs.LawLemmas.{same_way}
use Rattle.ddds_walk.proofs.ToldLemmas.{one_edge}

-- the order of derivations is that of their ranks with the place in front
before_irrefl : (way : Derivation) → Before way way → ⊥
before_irrefl way h = less_irrefl (way.place ∷ way.ranks) h

before_trans : (a b c : Derivation) → Before a b → Before b c → Before a c
before_trans a b c h k = less_trans (a.place ∷ a.ranks) (b.place ∷ b.ranks) (c.place ∷ c.ranks) h k

-- two lists that rise and have the same elements are equal
same_rising : {X : Type 0} (way : X → Derivation) (xs ys : List X) → AreRising Before (map way xs) → AreRising Before (map way ys)
    → ((e : X) → Contains xs e → Contains ys e) → ((e : X) → Contains ys e → Contains xs e) → xs ≡ ys
same_rising way [] [] a b h k = refl
same_rising way [] (y ∷ ys) a b h k = absurd (has_none y (k y (has_head ys y)))
same_rising way (x ∷ xs) [] a b h k = absurd (has_none x (h x (has_head xs x)))
same_rising {X} way (x ∷ xs) (y ∷ ys) a b h k =
    let e : x ≡ y = heads (has_cons ys y x (h x (has_head xs x))) (has_cons xs x y (k y (has_head ys y))) in
    let t : xs ≡ ys = same_rising way xs ys a.1 b.1 (λ v m. to e v m (has_cons ys y v (h v (has_tail xs x v m))))
    (λ v m. back e v m (has_cons xs x v (k v (has_tail ys y v m)))) in
    cc
  where
    before_x : (v : X) → Contains xs v → Before (way x) (way v)
    before_x v m = a.0 (way v) (has_map way xs v m)

    before_y : (v : X) → Contains ys v → Before (way y) (way v)
    before_y v m = b.0 (way v) (has_map way ys v m)

    heads : (y ≡ x) ⊎ Contains ys x → (x ≡ y) ⊎ Contains xs y → x ≡ y
    heads (inl e) j = sym e
    heads (inr i) (inl e) = e
    heads (inr i) (inr j) = absurd (before_irrefl (way x) (before_trans (way x) (way y) (way x) (before_x y j) (before_y x i)))

    to : x ≡ y → (v : X) → Contains xs v → (y ≡ v) ⊎ Contains ys v → Contains ys v
    to e v m (inl f) = absurd (before_irrefl (way v) (subst (λ w. Before (way w) (way v)) (e ∙ f) (before_x v m)))
    to e v m (inr i) = i

    back : x ≡ y → (v : X) → Contains ys v → (x ≡ v) ⊎ Contains xs v → Contains xs v
    back e v m (inl f) = absurd (before_irrefl (way v) (subst (λ w. Before (way w) (way v)) (sym e ∙ f) (before_y v m)))
    back e v m (inr i) = i

module _ (offers : ZonesMakeOneOffer) (out : OneOutput) (c : Client) (zones : List Zone) (keys : List Labels) where
  -- a derivation ends a way for one rule with one outcome
  one_outcome : (rs qs : Derivation) (d e : Labels) (r s : Option Naptr) (x y : Outcome)
      → EndsAt c zones keys rs d r x → EndsAt c zones keys qs e s y → rs ≡ qs → d ≡ e → r ≡ s → x ≡ y
  one_outcome rs qs d e None None x y a b p q t = a.2 ∙ sym b.2
  one_outcome rs qs d e None (Some s) x y a b p q t = cc
  one_outcome rs qs d e (Some r) None x y a b p q t = cc
  one_outcome rs qs d e (Some r) (Some s) x y a b p q t =
      let rule : r ≡ s = cc in
      let rank : last_rank rs.ranks ≡ last_rank qs.ranks = ap (λ (v : Derivation). last_rank v.ranks) p in
      let P : Labels → ℕ → Naptr → Type 0 = λ v w u. IsEdge c zones v w (Stop u x) in
      let i : P e (last_rank qs.ranks) s =
      subst (λ v. P v (last_rank qs.ranks) s) q
      (subst (λ w. P d w s) rank (subst (λ u. P d (last_rank rs.ranks) u) rule (last_edge c zones keys rs d r x a))) in
      let edge : Stop s x ≡ Stop s y =
      one_edge offers out c zones e (last_rank qs.ranks) (Stop s x) (Stop s y) i (last_edge c zones keys qs e s y b) in
      cc

  -- ends of one name and one derivation are equal
  one_end : (e f : End) → IsEnd c zones keys e → IsEnd c zones keys f → way_of e ≡ way_of f → name_of e ≡ name_of f → e ≡ f
  one_end e f a b p n =
      let domain : e.domain ≡ f.domain = ap (λ (v : EndName). v.domain) n in
      let rule : e.rule ≡ f.rule = ap (λ (v : EndName). v.rule) n in
      let outcome : e.outcome ≡ f.outcome =
      one_outcome (way_of e) (way_of f) e.domain f.domain e.rule f.rule e.outcome f.outcome a b p domain rule in
      λ i. record { place = (p i).place; ranks = (p i).ranks; domain = domain i; rule = rule i; outcome = outcome i }

  -- an end of one report stands in each other one
  in_other : (xs ys : List End) → IsReport c zones keys xs → IsReport c zones keys ys
      → (e : End) → Contains xs e → Contains ys e
  in_other xs ys a b e k =
      let (f, i, n) = has_unmap name_of ys (name_of e) (b.all e (a.each e k)) in
      by f i n (a.least e f k (b.each f i) n) (b.least f e i (a.each e k) (sym n)) (less_cases (e.place ∷ e.ranks) (f.place ∷ f.ranks))
    where
      by : (f : End) → Contains ys f → name_of f ≡ name_of e → (Before (way_of f) (way_of e) → ⊥) → (Before (way_of e) (way_of f) → ⊥)
          → Less (e.place ∷ e.ranks) (f.place ∷ f.ranks)
          ⊎ ((e.place ∷ e.ranks ≡ f.place ∷ f.ranks) ⊎ Less (f.place ∷ f.ranks) (e.place ∷ e.ranks)) → Contains ys e
      by f i n p q (inl l) = absurd (q l)
      by f i n p q (inr (inl s)) = has_same ys f e (one_end f e (b.each f i) (a.each e k) (same_way (way_of f) (way_of e) (sym s)) n) i
      by f i n p q (inr (inr l)) = absurd (p l)

  pub one_report : (xs ys : List End) → IsReport c zones keys xs → IsReport c zones keys ys → xs ≡ ys
  one_report xs ys a b = same_rising way_of xs ys a.rising b.rising (in_other xs ys a b) (in_other ys xs b a)
