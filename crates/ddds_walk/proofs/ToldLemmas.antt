-- The edges that zones make for a client are a graph: what a rule gives, the rules that are followed, and the edge of each
-- rank are one.
use Rattle.std.proofs.Common.{◌≡◌, ℕ, zero, suc, ◌⊎◌, List, [], ◌∷◌, Some, refl, sym, ◌∙◌, ap, subst, inl, inr}
use Rattle.std.specs.Prelude.{slice_get}
use Rattle.std.specs.List.{AllByRecursion}
use Rattle.std.specs.declared.cmp.Ordering.TheVariants.{Less}
use Rattle.std.proofs.lemmas.Cmp.{tied_itself}
use Rattle.dns_name.specs.Name.{folded_labels}
use Rattle.naptr_data.specs.Laws.{ZonesMakeOneOffer}
use Rattle.naptr_rule.specs.Rank.{rank_of}
use Rattle.naptr_data.specs.Zones.{Labels, Zone, IsOffer, IsRising}
use Rattle.naptr_data.specs.declared.offer.Offer.{Offer}
use Rattle.naptr_data.specs.declared.offer.Offer.TheVariants as offer
use Rattle.naptr_rule.specs.declared.rule.Naptr.{Naptr}
use Rattle.naptr_data.proofs.RisingLemmas.{rising_same}
use Rattle.naptr_rule.proofs.RuleLemmas.{rank_of-total}
use Rattle.service_field.specs.declared.kind.Kind.{Kind}
use Rattle.service_field.specs.declared.kind.Kind.TheVariants as kind
use Rattle.subst_expr.specs.Laws.{OneOutput}
use Rattle.ddds_walk.specs.declared.edge.Edge.{Edge}
use Rattle.ddds_walk.specs.declared.edge.Edge.TheVariants.{Step, Stop}
use Rattle.ddds_walk.specs.declared.report.Outcome.{Outcome}
use Rattle.ddds_walk.specs.declared.report.Outcome.TheVariants.{Uri, Target, Unserved}
use Rattle.ddds_walk.specs.Graph.{graph_of}
use Rattle.ddds_walk.specs.Rules.{Client, GivesName, Yields, Gives, AreFollowed, IsEdgeOf, IsEdge}
use Rattle.rule_check.specs.Fields.{HasRegexp, HasReplacement}
use Rattle.ddds_walk.specs.Ways.{IsGraph}

-- REGEXP and REPLACEMENT exclude each other
one_field : (rule : Naptr) → HasRegexp rule → HasReplacement rule → ⊥
one_field rule a b = a.0 b.0

one_name : OneOutput → (rule : Naptr) (string : List ℕ) (d e : Labels) → GivesName rule string d → GivesName rule string e → d ≡ e
one_name out rule string d e (bs, ls, o, n, is) (cs, ms, p, m, js) =
    let same : bs ≡ cs = out rule.regexp string bs cs o.output p.output in
    let labels : ls ≡ ms = cc in
    is ∙ ap folded_labels labels ∙ sym js

-- under one meaning of its flags a rule gives one thing
one_yield : OneOutput → (k : Kind) (c : Client) (rule : Naptr) (e f : Edge) → Yields k c rule e → Yields k c rule f → e ≡ f
one_yield out kind.Step c rule (Step d) (Step e) g h = ap (λ v. Step v) (by g h)
  where
    by : (HasReplacement rule × (d ≡ folded_labels rule.replacement)) ⊎ (HasRegexp rule × GivesName rule c.string d)
        → (HasReplacement rule × (e ≡ folded_labels rule.replacement)) ⊎ (HasRegexp rule × GivesName rule c.string e)
        → d ≡ e
    by (inl a) (inl b) = a.1 ∙ sym b.1
    by (inl a) (inr b) = absurd (one_field rule b.0 a.0)
    by (inr a) (inl b) = absurd (one_field rule a.0 b.0)
    by (inr a) (inr b) = one_name out rule c.string d e a.1 b.1
one_yield out kind.Step c rule (Step d) (Stop r o) g h = absurd h
one_yield out kind.Step c rule (Stop r o) f g h = absurd g
one_yield out kind.TerminalUri c rule (Stop r (Uri xs)) (Stop s (Uri ys)) g h =
    let rules : r ≡ s = g.0 ∙ sym h.0 in
    let bytes : xs ≡ ys = out rule.regexp c.string xs ys g.1.output h.1.output in
    ap (λ v. Stop v (Uri xs)) rules ∙ ap (λ v. Stop s (Uri v)) bytes
one_yield out kind.TerminalUri c rule (Stop r (Uri xs)) (Step e) g h = absurd h
one_yield out kind.TerminalUri c rule (Stop r (Uri xs)) (Stop s (Target l n)) g h = absurd h
one_yield out kind.TerminalUri c rule (Stop r (Uri xs)) (Stop s Unserved) g h = absurd h
one_yield out kind.TerminalUri c rule (Stop r (Target l n)) f g h = absurd g
one_yield out kind.TerminalUri c rule (Stop r Unserved) f g h = absurd g
one_yield out kind.TerminalUri c rule (Step d) f g h = absurd g
one_yield out (kind.TerminalName l) c rule (Stop r (Target m n)) (Stop s (Target i o)) g h =
    let rules : r ≡ s = g.0 ∙ sym h.0 in
    let letters : m ≡ i = g.1 ∙ sym h.1 in
    let names : n ≡ o = g.2 ∙ sym h.2 in
    ap (λ v. Stop v (Target m n)) rules ∙ ap (λ v. Stop s (Target v n)) letters ∙ ap (λ v. Stop s (Target i v)) names
one_yield out (kind.TerminalName l) c rule (Stop r (Target m n)) (Step e) g h = absurd h
one_yield out (kind.TerminalName l) c rule (Stop r (Target m n)) (Stop s (Uri ys)) g h = absurd h
one_yield out (kind.TerminalName l) c rule (Stop r (Target m n)) (Stop s Unserved) g h = absurd h
one_yield out (kind.TerminalName l) c rule (Stop r (Uri xs)) f g h = absurd g
one_yield out (kind.TerminalName l) c rule (Stop r Unserved) f g h = absurd g
one_yield out (kind.TerminalName l) c rule (Step d) f g h = absurd g
one_yield out kind.Unknown c rule (Step d) f g h = absurd g
one_yield out kind.Unknown c rule (Stop r o) f g h = absurd g

-- a rule gives one thing
pub one_gift : OneOutput → (c : Client) (rule : Naptr) (e f : Edge) → Gives c rule e → Gives c rule f → e ≡ f
one_gift out c rule e f g h = one_yield out (c.kind rule.flags) c rule e f g.yields h.yields

-- a terminal edge is that of the rule that gives it
own_rule : (k : Kind) (c : Client) (rule r : Naptr) (o : Outcome) → Yields k c rule (Stop r o) → r ≡ rule
own_rule kind.Step c rule r o g = absurd g
own_rule kind.TerminalUri c rule r (Uri xs) g = g.0
own_rule kind.TerminalUri c rule r (Target m n) g = absurd g
own_rule kind.TerminalUri c rule r Unserved g = absurd g
own_rule (kind.TerminalName l) c rule r (Uri xs) g = absurd g
own_rule (kind.TerminalName l) c rule r (Target m n) g = g.0
own_rule (kind.TerminalName l) c rule r Unserved g = absurd g
own_rule kind.Unknown c rule r o g = absurd g

-- the followed rules are one list
pub one_chosen : (c : Client) (rules xs ys : List Naptr) → AreFollowed c rules xs → AreFollowed c rules ys → xs ≡ ys
one_chosen c rules xs ys a b =
    rising_same xs ys a.rising b.rising (λ r h. (b.each r).1 ((a.each r).0 h)) (λ r h. (a.each r).1 ((b.each r).0 h))

one_place : (xs : List Naptr) (n : ℕ) (x y : Naptr) → slice_get xs n ≡ Some x → slice_get xs n ≡ Some y → x ≡ y
one_place xs n x y e f = let s : Some x ≡ Some y = sym e ∙ f in cc

all_get : (P : Naptr → Type 0) (xs : List Naptr) (n : ℕ) (x : Naptr) → AllByRecursion P xs → slice_get xs n ≡ Some x → P x
all_get P [] n x a e = cc
all_get P (y ∷ xs) zero x a e = let f : y ≡ x = cc in subst P f a.0
all_get P (y ∷ xs) (suc n) x a e = all_get P xs n x a.1 e

not_before : (x y : Naptr) → x ≡ y → rank_of x y ≡ Less → ⊥
not_before x y e l =
    let s : rank_of x x ≡ Less = subst (λ v. rank_of x v ≡ Less) (sym e) l in
    absurd (cc (sym s ∙ tied_itself rank_of-total x))

-- in a rising list each rule stands once
rising_once : (xs : List Naptr) (n m : ℕ) (x y : Naptr) → IsRising xs → slice_get xs n ≡ Some x → slice_get xs m ≡ Some y → x ≡ y → n ≡ m
rising_once [] n m x y r e f s = cc
rising_once (z ∷ xs) zero zero x y r e f s = refl
rising_once (z ∷ xs) zero (suc m) x y r e f s =
    let z-is : z ≡ x = cc in
    absurd (not_before z y (z-is ∙ s) (all_get (λ v. rank_of z v ≡ Less) xs m y r.0 f))
rising_once (z ∷ xs) (suc n) zero x y r e f s =
    let z-is : z ≡ y = cc in
    absurd (not_before z x (z-is ∙ sym s) (all_get (λ v. rank_of z v ≡ Less) xs n x r.0 e))
rising_once (z ∷ xs) (suc n) (suc m) x y r e f s = ap (λ v. suc v) (rising_once xs n m x y r.1 e f s)

-- out of what is offered the edge of each rank is one
pub one_edge_of : OneOutput → (c : Client) (o : Offer) (r : ℕ) (e f : Edge) → IsEdgeOf c o r e → IsEdgeOf c o r f → e ≡ f
one_edge_of out c (offer.Rules rules) r e f (xs, x, a, g, is) (ys, y, b, h, js) =
    let lists : xs ≡ ys = one_chosen c rules xs ys a b in
    let same : x ≡ y = one_place ys r x y (subst (λ v. slice_get v r ≡ Some x) lists g) h in
    one_gift out c y e f (subst (λ v. Gives c v e) same is) js
one_edge_of out c (offer.Alias target) r e f a b = a.1 ∙ sym b.1
one_edge_of out c offer.Unserved r e f a b = absurd a

-- a terminal rule has one rank
pub one_rank_of : (c : Client) (o : Offer) (r s : ℕ) (rule : Naptr) (x y : Outcome)
    → IsEdgeOf c o r (Stop rule x) → IsEdgeOf c o s (Stop rule y) → r ≡ s
one_rank_of c (offer.Rules rules) r s rule x y (xs, a, p, g, is) (ys, b, q, h, js) =
    let lists : xs ≡ ys = one_chosen c rules xs ys p q in
    let same : a ≡ b = sym (own_rule (c.kind a.flags) c a rule x is.yields) ∙ own_rule (c.kind b.flags) c b rule y js.yields in
    rising_once ys r s a b q.rising (subst (λ v. slice_get v r ≡ Some a) lists g) h same
one_rank_of c (offer.Alias target) r s rule x y a b = let e : Stop rule x ≡ Step (folded_labels target) = a.1 in cc
one_rank_of c offer.Unserved r s rule x y a b = absurd a

module _ (offers : ZonesMakeOneOffer) (out : OneOutput) (c : Client) (zones : List Zone) where
  same_offer : (d : Labels) (r : ℕ) (e : Edge) (o p : Offer) → IsOffer zones d o → IsOffer zones d p → IsEdgeOf c o r e → IsEdgeOf c p r e
  same_offer d r e o p a b i = let P : Offer → Type 0 = λ v. IsEdgeOf c v r e in subst P (offers zones d o p a b) i

  pub one_edge : (d : Labels) (r : ℕ) (e f : Edge) → IsEdge c zones d r e → IsEdge c zones d r f → e ≡ f
  one_edge d r e f (o, a, i) (p, b, j) = one_edge_of out c p r e f (same_offer d r e o p a b i) j

  pub one_rank : (d : Labels) (r s : ℕ) (rule : Naptr) (x y : Outcome)
      → IsEdge c zones d r (Stop rule x) → IsEdge c zones d s (Stop rule y) → r ≡ s
  one_rank d r s rule x y (o, a, i) (p, b, j) = one_rank_of c p r s rule x y (same_offer d r (Stop rule x) o p a b i) j

  pub graph_is : IsGraph (graph_of c zones)
  graph_is = record {
    one = λ d r m n x y. let e : Step m ≡ Step n = one_edge d r (Step m) (Step n) x y in cc;
    either = λ d r m x y. let e : Step m ≡ Stop y.0 y.1 = one_edge d r (Step m) (Stop y.0 y.1) x y.2 in cc;
  }
