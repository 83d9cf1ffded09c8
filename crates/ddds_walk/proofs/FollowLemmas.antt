-- Which rules are followed, as one pass over rising rules finds them.
use Rattle.std.proofs.Common.{◌≡◌, ◌⊎◌, inl, inr, ℕ, zero, suc, ◌+◌, ◌<◌, ◌≤◌, List, [], ◌∷◌, ◌++◌, length, drop}
use Rattle.std.proofs.Common.{get_or, Bool, true, false, IsTrue, MatchOption, Option, Some, None, refl, sym, ap, subst}
use Rattle.std.proofs.Common.{◌∙◌, arith}
use Rattle.std.specs.Prelude.{Contains, slice_get, ◌↔◌}
use Rattle.std.specs.List.{AllByRecursion}
use Rattle.std.specs.Ordering.{MatchOrdering, nat_cmp, ordering_then}
use Rattle.std.specs.declared.cmp.Ordering.{Ordering}
use Rattle.std.specs.declared.cmp.Ordering.TheVariants.{Less, Equal, Greater}
use Rattle.std.specs.Cmp.Lexicographic.{slice_cmp}
use Rattle.std.proofs.lemmas.Cmp.{ranked}
use Rattle.std.proofs.lemmas.List.{append-nil, append_assoc, drop_all, drop_more}
use Rattle.naptr_rule.specs.Rank.{rank_of}
use Rattle.naptr_rule.specs.Rdata.{rdata}
use Rattle.naptr_data.specs.Zones.{IsRising}
use Rattle.naptr_data.specs.declared.offer.Offer.TheVariants as offer
use Rattle.naptr_rule.specs.declared.rule.Naptr.{Naptr}
use Rattle.subst_expr.specs.Laws.{OneOutput}
use Rattle.ddds_walk.specs.Rules.{Client, Gives, IsAdmissible, AreFollowed, IsEdgeOf}
use Rattle.ddds_walk.specs.declared.edge.Edge.{Edge}
use Rattle.ddds_walk.proofs.ElementLemmas.{has_none, has_cons, has_head, has_tail, has_same}
use Rattle.ddds_walk.proofs.ToldLemmas.{one_gift, one_chosen}

-- a rule that ranks before another has no greater ORDER
rank_order : (x y : Naptr) → rank_of x y ≡ Less → x.order ≤ y.order
rank_order x y e = by (nat_cmp x.order y.order) (ranked x.order y.order (nat_cmp x.order y.order) refl) e
  where
    by : (o : Ordering) → MatchOrdering o (x.order < y.order) (x.order ≡ y.order) (y.order < x.order)
        → ordering_then o (ordering_then (nat_cmp x.preference y.preference) (slice_cmp nat_cmp (rdata x) (rdata y))) ≡ Less → x.order ≤ y.order
    by Less m e = omega arith
    by Equal m e = omega arith
    by Greater m e = cc

-- what holds of each element holds of those of a list with some of them
all_has : {X : Type 0} (P : X → Type 0) (xs : List X) (x : X) → AllByRecursion P xs → Contains xs x → P x
all_has P [] x all h = absurd (has_none x h)
all_has P (y ∷ xs) x all h =
    elim (has_cons xs y x h) [ inl e ↦ subst P e all.0 | inr k ↦ all_has P xs x all.1 k ]

all_some : {X : Type 0} (P : X → Type 0) (xs ys : List X) → AllByRecursion P ys → ((x : X) → Contains xs x → Contains ys x) → AllByRecursion P xs
all_some P [] ys all f = tt
all_some P (x ∷ xs) ys all f =
    (all_has P ys x all (f x (has_head xs x)), all_some P xs ys all (λ y h. f y (has_tail xs x y h)))

-- in a rising list the first ORDER is the least
least_first : (rule : Naptr) (rest : List Naptr) → IsRising (rule ∷ rest) → (r : Naptr) → Contains (rule ∷ rest) r → rule.order ≤ r.order
least_first rule rest rises r h =
    elim (has_cons rest rule r h) [
      | inl e ↦ subst (λ (v : Naptr). rule.order ≤ v.order) e (omega arith)
      | inr k ↦ rank_order rule r (all_has (λ next. rank_of rule next ≡ Less) rest r rises.0 k)
    ]

-- an ORDER greater than that of an admissible rule before, if there was one; or one that is not
abbrev pub IsPast : Option ℕ → ℕ → Type 0
IsPast None order = ⊥
IsPast (Some least) order = least < order

abbrev pub IsWithin : Option ℕ → ℕ → Type 0
IsWithin None order = Unit {0}
IsWithin (Some least) order = order ≤ least

-- the edges that rules give after an admissible rule of that ORDER, if there was one
abbrev pub Follows : Client → Option ℕ → List Naptr → List Edge → Type 0
Follows c least [] edges = edges ≡ []
Follows c least (rule ∷ rest) edges =
    (IsPast least rule.order × (edges ≡ []))
    ⊎ (((IsAdmissible c rule → ⊥) × Follows c least rest edges)
    ⊎ ((edge : Edge) × (more : List Edge) × IsWithin least rule.order × Gives c rule edge × (edges ≡ edge ∷ more)
    × Follows c (Some rule.order) rest more))

-- each rule gives the edge at its place
abbrev pub Paired : Client → List Naptr → List Edge → Type 0
Paired c [] [] = Unit {0}
Paired c [] (e ∷ es) = ⊥
Paired c (r ∷ rs) [] = ⊥
Paired c (r ∷ rs) (e ∷ es) = Gives c r e × Paired c rs es

paired_nil : (c : Client) (es : List Edge) → es ≡ [] → Paired c [] es
paired_nil c [] e = tt
paired_nil c (x ∷ es) e = cc

paired_cons : (c : Client) (r : Naptr) (rs : List Naptr) (e : Edge) (es all : List Edge) → all ≡ e ∷ es → Gives c r e → Paired c rs es → Paired c (r ∷ rs) all
paired_cons c r rs e es all is g p = subst (λ v. Paired c (r ∷ rs) v) (sym is) (g, p)

paired_get : (c : Client) (rs : List Naptr) (es : List Edge) (n : ℕ) (e : Edge) → Paired c rs es → slice_get es n ≡ Some e
    → (r : Naptr) × (slice_get rs n ≡ Some r) × Gives c r e
paired_get c [] [] n e p h = cc
paired_get c [] (x ∷ es) n e p h = absurd p
paired_get c (r ∷ rs) [] n e p h = absurd p
paired_get c (r ∷ rs) (x ∷ es) zero e p h = let same : x ≡ e = cc in (r, refl, subst (λ v. Gives c r v) same p.0)
paired_get c (r ∷ rs) (x ∷ es) (suc n) e p h = paired_get c rs es n e p.1 h

paired_has : (c : Client) (rs : List Naptr) (es : List Edge) (n : ℕ) (r : Naptr) → Paired c rs es → slice_get rs n ≡ Some r
    → (e : Edge) × (slice_get es n ≡ Some e) × Gives c r e
paired_has c [] [] n r p h = cc
paired_has c [] (x ∷ es) n r p h = absurd p
paired_has c (x ∷ rs) [] n r p h = absurd p
paired_has c (x ∷ rs) (e ∷ es) zero r p h = let same : x ≡ r = cc in (e, refl, subst (λ v. Gives c v e) same p.0)
paired_has c (x ∷ rs) (e ∷ es) (suc n) r p h = paired_has c rs es n r p.1 h

-- those of the rules that are admissible and of at most that ORDER, and their edges
record Taken (c : Client) (least : ℕ) (rules : List Naptr) (edges : List Edge) : Type 0 where
  chosen : List Naptr
  pairs : Paired c chosen edges
  each : (r : Naptr) → Contains chosen r ↔ (Contains rules r × IsAdmissible c r × (r.order ≤ least))
  rising : IsRising chosen

take_none : (c : Client) (least : ℕ) (rules : List Naptr) (edges : List Edge) → edges ≡ []
    → ((r : Naptr) → Contains rules r → least < r.order) → Taken c least rules edges
take_none c least rules edges none past = record {
  chosen = [];
  pairs = paired_nil c edges none;
  each = λ r. (λ h. absurd (has_none r h), λ h. let p : least < r.order = past r h.0 in let q : r.order ≤ least = h.2 in absurd (omega arith));
  rising = tt;
}

skip_one : (c : Client) (least : ℕ) (rule : Naptr) (rest : List Naptr) (edges : List Edge) → (IsAdmissible c rule → ⊥)
    → Taken c least rest edges → Taken c least (rule ∷ rest) edges
skip_one c least rule rest edges n t = record {
  chosen = t.chosen;
  pairs = t.pairs;
  each = λ r. (
    λ h. let p : Contains rest r × IsAdmissible c r × (r.order ≤ least) = (t.each r).0 h in (has_tail rest rule r p.0, p.1, p.2),
    λ h. by r h (has_cons rest rule r h.0),
  );
  rising = t.rising;
}
  where
    by : (r : Naptr) → Contains (rule ∷ rest) r × IsAdmissible c r × (r.order ≤ least) → (rule ≡ r) ⊎ Contains rest r → Contains t.chosen r
    by r h (inl e) = absurd (n (subst (λ v. IsAdmissible c v) (sym e) h.1))
    by r h (inr k) = (t.each r).1 (k, h.1, h.2)

take_one : (c : Client) (rule : Naptr) (rest : List Naptr) (edge : Edge) (more edges : List Edge) → IsRising (rule ∷ rest)
    → Gives c rule edge → edges ≡ edge ∷ more → Taken c rule.order rest more → Taken c rule.order (rule ∷ rest) edges
take_one c rule rest edge more edges rises gives is t = record {
  chosen = rule ∷ t.chosen;
  pairs = paired_cons c rule t.chosen edge more edges is gives t.pairs;
  each = λ r. (λ h. to r (has_cons t.chosen rule r h), λ h. back r h (has_cons rest rule r h.0));
  rising = (all_some (λ next. rank_of rule next ≡ Less) t.chosen rest rises.0 (λ x h. ((t.each x).0 h).0), t.rising);
}
  where
    to : (r : Naptr) → (rule ≡ r) ⊎ Contains t.chosen r → Contains (rule ∷ rest) r × IsAdmissible c r × (r.order ≤ rule.order)
    to r (inl e) =
        let P : Naptr → Type 0 = λ v. Contains (rule ∷ rest) v × IsAdmissible c v × (v.order ≤ rule.order) in
        subst P e (has_head rest rule, (edge, gives), omega arith)
    to r (inr k) =
        let p : Contains rest r × IsAdmissible c r × (r.order ≤ rule.order) = (t.each r).0 k in (has_tail rest rule r p.0, p.1, p.2)

    back : (r : Naptr) → Contains (rule ∷ rest) r × IsAdmissible c r × (r.order ≤ rule.order) → (rule ≡ r) ⊎ Contains rest r → Contains (rule ∷ t.chosen) r
    back r h (inl e) = has_same (rule ∷ t.chosen) rule r e (has_head t.chosen rule)
    back r h (inr k) = has_tail t.chosen rule r ((t.each r).1 (k, h.1, h.2))

-- after an admissible rule those of its ORDER are taken
taken : (c : Client) (least : ℕ) (rules : List Naptr) (edges : List Edge) → IsRising rules
    → ((r : Naptr) → Contains rules r → least ≤ r.order) → Follows c (Some least) rules edges → Taken c least rules edges
taken c least [] edges rises above f = take_none c least [] edges f (λ r h. absurd (has_none r h))
taken c least (rule ∷ rest) edges rises above (inl (past, none)) =
    take_none c least (rule ∷ rest) edges none (λ r h. let l : rule.order ≤ r.order = least_first rule rest rises r h in omega arith)
taken c least (rule ∷ rest) edges rises above (inr (inl (n, f))) =
    skip_one c least rule rest edges n (taken c least rest edges rises.1 (λ r h. above r (has_tail rest rule r h)) f)
taken c least (rule ∷ rest) edges rises above (inr (inr (edge, more, within, gives, is, f))) =
    let l : least ≤ rule.order = above rule (has_head rest rule) in
    let same : rule.order ≡ least = omega arith in
    subst (λ n. Taken c n (rule ∷ rest) edges) same
    (take_one c rule rest edge more edges rises gives is
    (taken c rule.order rest more rises.1 (λ r h. least_first rule rest rises r (has_tail rest rule r h)) f))

-- the followed rules, and their edges
record Chosen (c : Client) (rules : List Naptr) (edges : List Edge) : Type 0 where
  chosen : List Naptr
  pairs : Paired c chosen edges
  followed : AreFollowed c rules chosen

chosen_none : (c : Client) (edges : List Edge) → edges ≡ [] → Chosen c [] edges
chosen_none c edges none = record {
  chosen = [];
  pairs = paired_nil c edges none;
  followed = record { each = λ r. (λ h. absurd (has_none r h), λ h. absurd (has_none r h.0)); rising = tt };
}

chosen_after : (c : Client) (rule : Naptr) (rest : List Naptr) (edges : List Edge) → (IsAdmissible c rule → ⊥)
    → Chosen c rest edges → Chosen c (rule ∷ rest) edges
chosen_after c rule rest edges n t = record {
  chosen = t.chosen;
  pairs = t.pairs;
  followed = record { each = λ r. (to r, λ h. back r h (has_cons rest rule r h.0)); rising = t.followed.rising };
}
  where
    least : (r : Naptr) → ((other : Naptr) → Contains rest other → IsAdmissible c other → r.order ≤ other.order)
        → (other : Naptr) → IsAdmissible c other → (rule ≡ other) ⊎ Contains rest other → r.order ≤ other.order
    least r m other a (inl e) = absurd (n (subst (λ v. IsAdmissible c v) (sym e) a))
    least r m other a (inr k) = m other k a

    to : (r : Naptr) → Contains t.chosen r
        → Contains (rule ∷ rest) r × IsAdmissible c r × ((other : Naptr) → Contains (rule ∷ rest) other → IsAdmissible c other → r.order ≤ other.order)
    to r h =
        let p = (t.followed.each r).0 h in
        (has_tail rest rule r p.0, p.1, λ other k a. least r p.2 other a (has_cons rest rule other k))

    back : (r : Naptr) → Contains (rule ∷ rest) r × IsAdmissible c r
        × ((other : Naptr) → Contains (rule ∷ rest) other → IsAdmissible c other → r.order ≤ other.order)
        → (rule ≡ r) ⊎ Contains rest r → Contains t.chosen r
    back r h (inl e) = absurd (n (subst (λ v. IsAdmissible c v) (sym e) h.1))
    back r h (inr k) = (t.followed.each r).1 (k, h.1, λ other j a. h.2 other (has_tail rest rule other j) a)

chosen_from : (c : Client) (rule : Naptr) (rest : List Naptr) (edges : List Edge) → IsRising (rule ∷ rest) → IsAdmissible c rule
    → Taken c rule.order (rule ∷ rest) edges → Chosen c (rule ∷ rest) edges
chosen_from c rule rest edges rises a t = record {
  chosen = t.chosen;
  pairs = t.pairs;
  followed = record { each = λ r. (to r, λ h. (t.each r).1 (h.0, h.1, h.2 rule (has_head rest rule) a)); rising = t.rising };
}
  where
    to : (r : Naptr) → Contains t.chosen r
        → Contains (rule ∷ rest) r × IsAdmissible c r × ((other : Naptr) → Contains (rule ∷ rest) other → IsAdmissible c other → r.order ≤ other.order)
    to r h =
        let p : Contains (rule ∷ rest) r × IsAdmissible c r × (r.order ≤ rule.order) = (t.each r).0 h in
        let q : r.order ≤ rule.order = p.2 in
        (p.0, p.1, λ other k b. let l : rule.order ≤ other.order = least_first rule rest rises other k in omega arith)

chosen_of : (c : Client) (rules : List Naptr) (edges : List Edge) → IsRising rules → Follows c None rules edges → Chosen c rules edges
chosen_of c [] edges rises f = chosen_none c edges f
chosen_of c (rule ∷ rest) edges rises (inl (past, none)) = absurd past
chosen_of c (rule ∷ rest) edges rises (inr (inl (n, f))) = chosen_after c rule rest edges n (chosen_of c rest edges rises.1 f)
chosen_of c (rule ∷ rest) edges rises (inr (inr (edge, more, within, gives, is, f))) =
    chosen_from c rule rest edges rises (edge, gives)
    (take_one c rule rest edge more edges rises gives is
    (taken c rule.order rest more rises.1 (λ r h. least_first rule rest rises r (has_tail rest rule r h)) f))

-- what one pass finds are the edges of the rules
pub edges_told : OneOutput → (c : Client) (rules : List Naptr) (edges : List Edge) → IsRising rules → Follows c None rules edges
    → (rank : ℕ) (edge : Edge) → (slice_get edges rank ≡ Some edge) ↔ IsEdgeOf c (offer.Rules rules) rank edge
edges_told one c rules edges rises f rank edge = (to, back)
  where
    t : Chosen c rules edges
    t = chosen_of c rules edges rises f

    to : slice_get (edges) rank ≡ Some edge → IsEdgeOf c (offer.Rules rules) rank edge
    to h = let p = paired_get c t.chosen edges rank edge t.pairs h in (t.chosen, p.0, t.followed, p.1, p.2)

    back : IsEdgeOf c (offer.Rules rules) rank edge → slice_get edges rank ≡ Some edge
    back (xs, rule, followed, at, gives) =
        let lists : xs ≡ t.chosen = one_chosen c rules xs t.chosen followed t.followed in
        let p = paired_has c t.chosen edges rank rule t.pairs (subst (λ v. slice_get v rank ≡ Some rule) lists at) in
        let same : p.0 ≡ edge = one_gift one c rule p.0 edge p.2 gives in
        p.1 ∙ ap (λ v. Some v) same

-- whether an ORDER is past
pub is_past : (least : Option ℕ) (order : ℕ) (r : Bool) → MatchOption least (r ≡ false) (λ l. IsTrue r ↔ (l < order)) → r ≡ true → IsPast least order
is_past None order r m e = cc
is_past (Some l) order r m e = m.0 e

pub is_within : (least : Option ℕ) (order : ℕ) (r : Bool) → MatchOption least (r ≡ false) (λ l. IsTrue r ↔ (l < order)) → r ≡ false → IsWithin least order
is_within None order r m e = tt
is_within (Some l) order r m e =
    let n : l < order → ⊥ = λ h. let t : r ≡ true = m.1 h in cc in
    omega arith

-- one pass, step by step: with what is left, the edges are those of all rules
module _ (c : Client) (least : Option ℕ) (rules : List Naptr) (index : ℕ) (edges : List Edge)
    (whole : (more : List Edge) → Follows c least (drop index rules) more → Follows c None rules (edges ++ more)) where
  pub at_end : length rules ≤ index → Follows c None rules edges
  at_end past =
      let left : drop index rules ≡ [] = drop_all index rules past in
      let none : Follows c least (drop index rules) [] = subst (λ v. Follows c least v []) (sym left) refl in
      subst (λ v. Follows c None rules v) (append-nil edges) (whole [] none)

  module _ (rule : Naptr) (within : index < length rules) (item : rule ≡ get_or rules index rule) where
    left : drop index rules ≡ rule ∷ drop (index + 1) rules
    left = drop_more rules index rule within ∙ ap (λ v. v ∷ drop (index + 1) rules) (sym item)

    on : (more : List Edge) → Follows c least (rule ∷ drop (index + 1) rules) more → Follows c None rules (edges ++ more)
    on more f = whole more (subst (λ v. Follows c least v more) (sym left) f)

    pub at_past : IsPast least rule.order → Follows c None rules edges
    at_past past = subst (λ v. Follows c None rules v) (append-nil edges) (on [] (inl (past, refl)))

    pub passed_over : (edges' : List Edge) (least' : Option ℕ) → edges' ≡ edges → least' ≡ least → (IsAdmissible c rule → ⊥)
        → (more : List Edge) → Follows c least' (drop (index + 1) rules) more → Follows c None rules (edges' ++ more)
    passed_over edges' least' es ls n more f =
        let left_over : Follows c least (drop (index + 1) rules) more = subst (λ v. Follows c v (drop (index + 1) rules) more) ls f in
        subst (λ v. Follows c None rules (v ++ more)) (sym es) (on more (inr (inl (n, left_over))))

    pub taken_up : (edges' : List Edge) (least' : Option ℕ) (edge : Edge) → edges' ≡ edges ++ edge ∷ [] → least' ≡ Some rule.order
        → IsWithin least rule.order → Gives c rule edge → (more : List Edge) → Follows c least' (drop (index + 1) rules) more
        → Follows c None rules (edges' ++ more)
    taken_up edges' least' edge es ls order gives more f =
        let left_over : Follows c (Some rule.order) (drop (index + 1) rules) more = subst (λ v. Follows c v (drop (index + 1) rules) more) ls f in
        let whole' : Follows c None rules (edges ++ edge ∷ more) = on (edge ∷ more) (inr (inr (edge, more, order, gives, refl, left_over))) in
        subst (λ v. Follows c None rules v) (sym (append_assoc edges (edge ∷ []) more) ∙ ap (λ v. v ++ more) (sym es)) whole'
