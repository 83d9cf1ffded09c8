-- The rules that are followed exist, and so do the edges of what is offered for a name.
use Rattle.std.proofs.Common.{◌≡◌, ◌⊎◌, inl, inr, ℕ, zero, suc, ◌≤◌, List, [], ◌∷◌, Some, refl, sym, ap, subst, arith}
use Rattle.std.specs.Prelude.{Contains, ◌↔◌, slice_get}
use Rattle.std.specs.List.{AllByRecursion}
use Rattle.std.specs.declared.cmp.Ordering.TheVariants.{Less}
use Rattle.dns_name.specs.Name.{folded_labels}
use Rattle.naptr_data.proofs.DecideLemmas.{Either}
use Rattle.naptr_data.proofs.RisingLemmas.{All-contained}
use Rattle.naptr_data.proofs.SomeLemmas.{all_of}
use Rattle.naptr_rule.specs.Rank.{rank_of}
use Rattle.naptr_data.specs.Zones.{Labels, Zone, IsOffer, IsRising}
use Rattle.naptr_data.specs.declared.offer.Offer.{Offer}
use Rattle.naptr_data.specs.declared.offer.Offer.TheVariants as offer
use Rattle.naptr_rule.specs.declared.rule.Naptr.{Naptr}
use Rattle.subst_expr.specs.Laws.{OneOutput, OutputOrNone}
use Rattle.ddds_walk.specs.Rules.{Client, IsAdmissible, Gives, AreFollowed, IsEdgeOf}
use Rattle.ddds_walk.specs.declared.edge.Edge.{Edge}
use Rattle.ddds_walk.specs.declared.edge.Edge.TheVariants.{Step}
use Rattle.ddds_walk.proofs.EdgeLemmas.{admissible_or_not}
use Rattle.rule_check.proofs.DecideLemmas.{at_most_or_not}
use Rattle.ddds_walk.proofs.ElementLemmas.{has_none, has_cons, has_head, has_tail}
use Rattle.ddds_walk.proofs.ToldLemmas.{one_gift, one_chosen}

-- the rules of which a fact holds, in their order
module _ (P : Naptr → Type 0) (each : (r : Naptr) → Either (P r)) where
  abbrev Kept : List Naptr → Type 0
  Kept rules = (chosen : List Naptr) × ((r : Naptr) → Contains chosen r ↔ (Contains rules r × P r)) × IsRising chosen

  kept : (rules : List Naptr) → IsRising rules → Kept rules
  kept [] rising = ([], (λ r. ((λ h. absurd (has_none r h)), (λ h. h.0))), tt)
  kept (x ∷ rules) rising = by (each x) (kept rules rising.1)
    where
      more : P x → (chosen : List Naptr) → ((r : Naptr) → Contains chosen r ↔ (Contains rules r × P r)) → IsRising chosen → Kept (x ∷ rules)
      more p chosen is up = (x ∷ chosen, (λ r. ((λ h. to r (has_cons chosen x r h)), (λ h. from r (has_cons rules x r h.0) h.1))), (before, up))
        where
          to : (r : Naptr) → (x ≡ r) ⊎ Contains chosen r → Contains (x ∷ rules) r × P r
          to r (inl e) = (subst (λ v. Contains (x ∷ rules) v) e (has_head rules x), subst P e p)
          to r (inr k) = let h = (is r).0 k in (has_tail rules x r h.0, h.1)

          from : (r : Naptr) → (x ≡ r) ⊎ Contains rules r → P r → Contains (x ∷ chosen) r
          from r (inl e) q = subst (λ v. Contains (x ∷ chosen) v) e (has_head chosen x)
          from r (inr k) q = has_tail chosen x r ((is r).1 (k, q))

          before : AllByRecursion (λ o. rank_of x o ≡ Less) chosen
          before = all_of (λ o. rank_of x o ≡ Less) chosen
              (λ o k. All-contained (λ o. rank_of x o ≡ Less) rules o rising.0 ((is o).0 k).0)

      fewer : (P x → ⊥) → (chosen : List Naptr) → ((r : Naptr) → Contains chosen r ↔ (Contains rules r × P r)) → IsRising chosen → Kept (x ∷ rules)
      fewer none chosen is up = (chosen, (λ r. ((λ h. let k = (is r).0 h in (has_tail rules x r k.0, k.1)), (λ h. from r (has_cons rules x r h.0) h.1))), up)
        where
          from : (r : Naptr) → (x ≡ r) ⊎ Contains rules r → P r → Contains chosen r
          from r (inl e) q = absurd (none (subst P (sym e) q))
          from r (inr k) q = (is r).1 (k, q)

      by : Either (P x) → Kept rules → Kept (x ∷ rules)
      by (inl p) (chosen, is, up) = more p chosen is up
      by (inr none) (chosen, is, up) = fewer none chosen is up

compared : (n m : ℕ) → (n ≤ m) ⊎ (m ≤ n)
compared n m = grind arith

module _ (one : OneOutput) (some : OutputOrNone) (c : Client) where
  -- an admissible rule of the least ORDER among these
  abbrev IsLeast : List Naptr → Naptr → Type 0
  IsLeast rules m = Contains rules m × IsAdmissible c m × ((r : Naptr) → Contains rules r → IsAdmissible c r → m.order ≤ r.order)

  abbrev HasLeast : List Naptr → Type 0
  HasLeast rules = ((r : Naptr) → Contains rules r → IsAdmissible c r → ⊥) ⊎ ((m : Naptr) × IsLeast rules m)

  has_least : (rules : List Naptr) → HasLeast rules
  has_least [] = inl (λ r h. absurd (has_none r h))
  has_least (x ∷ rules) = by (admissible_or_not one some c x) (has_least rules)
    where
      none : (IsAdmissible c x → ⊥) → ((r : Naptr) → Contains rules r → IsAdmissible c r → ⊥)
          → (r : Naptr) → (x ≡ r) ⊎ Contains rules r → IsAdmissible c r → ⊥
      none fails others r (inl e) a = fails (subst (λ v. IsAdmissible c v) (sym e) a)
      none fails others r (inr k) a = others r k a

      -- the head is the least, where it is at most the others
      at_head : IsAdmissible c x → ((r : Naptr) → Contains rules r → IsAdmissible c r → x.order ≤ r.order) → HasLeast (x ∷ rules)
      at_head a low = inr (x, (has_head rules x, a, (λ r h b. to r (has_cons rules x r h) b)))
        where
          to : (r : Naptr) → (x ≡ r) ⊎ Contains rules r → IsAdmissible c r → x.order ≤ r.order
          to r (inl e) b = subst (λ (v : Naptr). x.order ≤ v.order) e (omega arith)
          to r (inr k) b = low r k b

      -- the least of the others is, where the head is no less
      after : (m : Naptr) → IsLeast rules m → (IsAdmissible c x → m.order ≤ x.order) → HasLeast (x ∷ rules)
      after m (k, a, low) above = inr (m, (has_tail rules x m k, a, (λ r h b. to r (has_cons rules x r h) b)))
        where
          to : (r : Naptr) → (x ≡ r) ⊎ Contains rules r → IsAdmissible c r → m.order ≤ r.order
          to r (inl e) b = subst (λ (v : Naptr). m.order ≤ v.order) e (above (subst (λ v. IsAdmissible c v) (sym e) b))
          to r (inr k) b = low r k b

      both : IsAdmissible c x → (m : Naptr) → IsLeast rules m → (x.order ≤ m.order) ⊎ (m.order ≤ x.order) → HasLeast (x ∷ rules)
      both a m is (inl less) = at_head a (λ r k b. let l = is.2 r k b in omega (arith, less, l))
      both a m is (inr less) = after m is (λ b. less)

      by : Either (IsAdmissible c x) → HasLeast rules → HasLeast (x ∷ rules)
      by (inl a) (inl others) = at_head a (λ r k b. absurd (others r k b))
      by (inl a) (inr (m, is)) = both a m is (compared x.order m.order)
      by (inr fails) (inl others) = inl (λ r h a. none fails others r (has_cons rules x r h) a)
      by (inr fails) (inr (m, is)) = after m is (λ a. absurd (fails a))

  -- an admissible rule that none of these has a lesser ORDER than
  abbrev IsFollowed : List Naptr → Naptr → Type 0
  IsFollowed rules r =
      IsAdmissible c r × ((other : Naptr) → Contains rules other → IsAdmissible c other → r.order ≤ other.order)

  followed_or_not : (rules : List Naptr) (m : Naptr) → IsLeast rules m → (r : Naptr) → Either (IsFollowed rules r)
  followed_or_not rules m is r = by (admissible_or_not one some c r) (at_most_or_not r.order m.order)
    where
      by : Either (IsAdmissible c r) → Either (r.order ≤ m.order) → Either (IsFollowed rules r)
      by (inr fails) l = inr (λ h. fails h.0)
      by (inl a) (inl less) = inl (a, (λ other k b. let l = is.2 other k b in omega (arith, less, l)))
      by (inl a) (inr fails) = inr (λ h. fails (h.1 m is.0 is.1))

  -- the rules that are followed
  pub some_followed : (rules : List Naptr) → IsRising rules → (chosen : List Naptr) × AreFollowed c rules chosen
  some_followed rules rising = by (has_least rules)
    where
      by : HasLeast rules → (chosen : List Naptr) × AreFollowed c rules chosen
      by (inl none) = ([], record { each = λ r. ((λ h. absurd (has_none r h)), (λ h. absurd (none r h.0 h.1))); rising = tt })
      by (inr (m, is)) =
          let k = kept (IsFollowed rules) (followed_or_not rules m is) rules rising in
          (k.0, record { each = λ r. ((λ h. let x = (k.1 r).0 h in (x.0, x.1.0, x.1.1)), (λ h. (k.1 r).1 (h.0, (h.1, h.2)))); rising = k.2 })

  -- the edges of admissible rules, in their order
  abbrev AreGifts : List Naptr → List Edge → Type 0
  AreGifts rules edges =
      (rank : ℕ) (edge : Edge) → (slice_get edges rank ≡ Some edge) ↔ ((x : Naptr) × (slice_get rules rank ≡ Some x) × Gives c x edge)

  some_gifts : (rules : List Naptr) → ((r : Naptr) → Contains rules r → IsAdmissible c r) → (edges : List Edge) × AreGifts rules edges
  some_gifts [] all = ([], (λ rank edge. ((λ h. absurd (nothing rank edge h)), (λ h. absurd (no_rule rank h.0 h.1)))))
    where
      nothing : (rank : ℕ) (edge : Edge) → slice_get [] rank ≡ Some edge → ⊥
      nothing rank edge e = cc

      no_rule : (rank : ℕ) (x : Naptr) → slice_get [] rank ≡ Some x → ⊥
      no_rule rank x e = cc
  some_gifts (x ∷ rules) all = next (all x (has_head rules x)) (some_gifts rules (λ r k. all r (has_tail rules x r k)))
    where
      next : IsAdmissible c x → (edges : List Edge) × AreGifts rules edges → (edges : List Edge) × AreGifts (x ∷ rules) edges
      next (gift, g) (edges, are) = (gift ∷ edges, (λ rank edge. (to rank edge, from rank edge)))
        where
          to : (rank : ℕ) (edge : Edge) → slice_get (gift ∷ edges) rank ≡ Some edge
              → (y : Naptr) × (slice_get (x ∷ rules) rank ≡ Some y) × Gives c y edge
          to zero edge h = let same : gift ≡ edge = cc in (x, refl, subst (λ v. Gives c x v) same g)
          to (suc rank) edge h = (are rank edge).0 h

          from : (rank : ℕ) (edge : Edge) → (y : Naptr) × (slice_get (x ∷ rules) rank ≡ Some y) × Gives c y edge
              → slice_get (gift ∷ edges) rank ≡ Some edge
          from zero edge (y, at, h) =
              let same : x ≡ y = cc in
              ap (λ v. Some v) (one_gift one c y gift edge (subst (λ v. Gives c v gift) same g) h)
          from (suc rank) edge h = (are rank edge).1 h

  -- the edges of what is offered for a name
  abbrev HasEdges : Offer → Type 0
  HasEdges o = (edges : List Edge) × ((rank : ℕ) (edge : Edge) → (slice_get edges rank ≡ Some edge) ↔ IsEdgeOf c o rank edge)

  edges_of_rules : (rules : List Naptr) → (chosen : List Naptr) × AreFollowed c rules chosen → HasEdges (offer.Rules rules)
  edges_of_rules rules (chosen, followed) =
      let g = some_gifts chosen (λ r k. ((followed.each r).0 k).1) in
      (g.0, (λ rank edge. ((λ h. let x = (g.1 rank edge).0 h in (chosen, x.0, followed, x.1, x.2)), (λ h. (g.1 rank edge).1 (from rank edge h)))))
    where
      from : (rank : ℕ) (edge : Edge) → IsEdgeOf c (offer.Rules rules) rank edge
          → (x : Naptr) × (slice_get chosen rank ≡ Some x) × Gives c x edge
      from rank edge (others, x, again, at, g) =
          (x, subst (λ v. slice_get v rank ≡ Some x) (one_chosen c rules others chosen again followed) at, g)

  pub some_edges : (zones : List Zone) (name : Labels) (o : Offer) → IsOffer zones name o → HasEdges o
  some_edges zones name (offer.Rules rules) (zone, source, served, are) = edges_of_rules rules (some_followed rules are.rising)
  some_edges zones name (offer.Alias target) is = (Step (folded_labels target) ∷ [], (λ rank edge. (to rank edge, from rank edge)))
    where
      to : (rank : ℕ) (edge : Edge) → slice_get (Step (folded_labels target) ∷ []) rank ≡ Some edge → (rank ≡ 0) × (edge ≡ Step (folded_labels target))
      to zero edge h = let same : Step (folded_labels target) ≡ edge = cc in (refl, sym same)
      to (suc rank) edge h = cc

      from : (rank : ℕ) (edge : Edge) → (rank ≡ 0) × (edge ≡ Step (folded_labels target)) → slice_get (Step (folded_labels target) ∷ []) rank ≡ Some edge
      from zero edge h = ap (λ v. Some v) (sym h.1)
      from (suc rank) edge h = cc
  some_edges zones name offer.Unserved is = ([], (λ rank edge. ((λ h. nothing rank edge h), (λ h. absurd h))))
    where
      nothing : (rank : ℕ) (edge : Edge) → slice_get [] rank ≡ Some edge → ⊥
      nothing rank edge e = cc
