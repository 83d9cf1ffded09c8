-- At most so many domains are needed as there are rules, aliases and keys: each is a key, or what one of these gives.
use Rattle.std.proofs.Common.{◌≡◌, ℕ, zero, suc, ◌+◌, ◌≤◌, ◌⊎◌, List, [], ◌∷◌, ◌++◌, length, map, Some}
use Rattle.std.proofs.Common.{refl, sym, ◌∙◌, ap, subst, inl, inr, arith}
use Rattle.std.specs.Prelude.{Contains, slice_get}
use Rattle.std.proofs.lemmas.List.Elements.{Contains-append_left, Contains-append_right, Contains-append_cases}
use Rattle.dns_name.specs.Name.{folded_labels}
use Rattle.naptr_data.specs.Sources.{AreDistinct}
use Rattle.naptr_data.specs.Zones.{Labels, Item, Owned, Zone, IsOffer, holds_one, rules_and_aliases_in, rules_and_aliases}
use Rattle.naptr_data.specs.Zones.Item.{rule, alias, delegation, other}
use Rattle.naptr_data.specs.declared.offer.Offer.{Offer}
use Rattle.naptr_data.specs.declared.offer.Offer.TheVariants as offer
use Rattle.naptr_data.proofs.OfferLemmas.{decides_among, alias_stands}
use Rattle.subst_expr.specs.Laws.{OneOutput}
use Rattle.ddds_walk.specs.declared.edge.Edge.TheVariants.{Step}
use Rattle.ddds_walk.specs.Graph.{Graph, graph_of, Leads}
use Rattle.ddds_walk.specs.Rules.{Client, Gives, IsEdgeOf}
use Rattle.ddds_walk.specs.Asking.{Holds}
use Rattle.ddds_walk.specs.Report.{AreSomeNeeded}
use Rattle.ddds_walk.proofs.ElementLemmas.{has_none, has_cons, has_head, has_tail, has_same, has_cut, has_map}
use Rattle.ddds_walk.proofs.ToldLemmas.{one_gift}

-- where each of a list brings one thing at most, distinct things that they bring are no more than those that bring one
module _ {X D : Type 0} (Brings : X → D → Type 0) (count : X → ℕ)
    (one : (x : X) (d e : D) → Brings x d → Brings x e → d ≡ e) (counts : (x : X) (d : D) → Brings x d → 1 ≤ count x) where
  abbrev total : List X → ℕ
  total [] = 0
  total (x ∷ xs) = count x + total xs

  total_append : (xs ys : List X) → total (xs ++ ys) ≡ total xs + total ys
  total_append [] ys = omega arith
  total_append (x ∷ xs) ys = let h : total (xs ++ ys) ≡ total xs + total ys = total_append xs ys in omega arith

  pub brought_fit : (ds : List D) (xs : List X) → AreDistinct ds
      → ((d : D) → Contains ds d → (x : X) × Contains xs x × Brings x d) → length ds ≤ total xs
  brought_fit [] xs a h = omega arith
  brought_fit (d ∷ ds) xs a h =
      let (x, k, b) = h d (has_head ds d) in
      cut x b (has_cut xs x k) (λ p q e. brought_fit ds (p ++ q) a.1 (rest x b p q e))
    where
      rest : (x : X) → Brings x d → (p q : List X) → xs ≡ p ++ x ∷ q
          → (e : D) → Contains ds e → (y : X) × Contains (p ++ q) y × Brings y e
      rest x b p q is e i = let (y, k, c) = h e (has_tail ds d e i) in
          by y c (Contains-append_cases p (x ∷ q) y (subst (λ v. Contains v y) is k))
        where
          on : (y : X) → Brings y e → (x ≡ y) ⊎ Contains q y → (y : X) × Contains (p ++ q) y × Brings y e
          on y c (inl s) =
              let same : d ≡ e = one x d e b (subst (λ v. Brings v e) (sym s) c) in
              absurd (a.0 (has_same ds e d (sym same) i))
          on y c (inr j) = (y, Contains-append_right p q y j, c)

          by : (y : X) → Brings y e → Contains p y ⊎ Contains (x ∷ q) y → (y : X) × Contains (p ++ q) y × Brings y e
          by y c (inl j) = (y, Contains-append_left p q y j, c)
          by y c (inr j) = on y c (has_cons q x y j)

      cut : (x : X) → Brings x d → (p : List X) × (q : List X) × (xs ≡ p ++ x ∷ q)
          → ((p q : List X) → xs ≡ p ++ x ∷ q → length ds ≤ total (p ++ q)) → suc (length ds) ≤ total xs
      cut x b (p, q, e) f =
          let h : length ds ≤ total (p ++ q) = f p q e in
          let i : total (p ++ q) ≡ total p + total q = total_append p q in
          let j : total xs ≡ total p + (count x + total q) = ap total e ∙ total_append p (x ∷ q) in
          let k : 1 ≤ count x = counts x d b in
          omega arith

-- the domain that an item gives: a rule the next one, an alias what it stands for
abbrev BringsDomain : Client → Item → Labels → Type 0
BringsDomain c (rule r) d = Gives c r (Step d)
BringsDomain c (alias target) d = d ≡ folded_labels target
BringsDomain c delegation d = ⊥
BringsDomain c other d = ⊥

-- a key, or what an item gives
abbrev Brings : Client → Labels ⊎ Owned → Labels → Type 0
Brings c (inl key) d = key ≡ d
Brings c (inr o) d = BringsDomain c o.item d

abbrev count : Labels ⊎ Owned → ℕ
count (inl key) = 1
count (inr o) = holds_one o.item

one_domain : OneOutput → (c : Client) (i : Item) (d e : Labels) → BringsDomain c i d → BringsDomain c i e → d ≡ e
one_domain out c (rule r) d e a b = let s : Step d ≡ Step e = one_gift out c r (Step d) (Step e) a b in cc
one_domain out c (alias target) d e a b = a ∙ sym b
one_domain out c delegation d e a b = absurd a
one_domain out c other d e a b = absurd a

one_brought : OneOutput → (c : Client) (x : Labels ⊎ Owned) (d e : Labels) → Brings c x d → Brings c x e → d ≡ e
one_brought out c (inl key) d e a b = sym a ∙ b
one_brought out c (inr o) d e a b = one_domain out c o.item d e a b

holds_some : (c : Client) (i : Item) (d : Labels) → BringsDomain c i d → 1 ≤ holds_one i
holds_some c (rule r) d a = omega arith
holds_some c (alias target) d a = omega arith
holds_some c delegation d a = absurd a
holds_some c other d a = absurd a

counted : (c : Client) (x : Labels ⊎ Owned) (d : Labels) → Brings c x d → 1 ≤ count x
counted c (inl key) d a = omega arith
counted c (inr o) d a = holds_some c o.item d a

abbrev items_of : List Zone → List Owned
items_of [] = []
items_of (zone ∷ zones) = zone.items ++ items_of zones

has_items : (zones : List Zone) (zone : Zone) (o : Owned) → Contains zones zone → Contains zone.items o → Contains (items_of zones) o
has_items [] zone o h i = absurd (has_none zone h)
has_items (z ∷ zones) zone o h i = by (λ k. has_items zones zone o k i) (has_cons zones z zone h)
  where
    by : (Contains zones zone → Contains (items_of zones) o) → (z ≡ zone) ⊎ Contains zones zone → Contains (z.items ++ items_of zones) o
    by f (inl e) = Contains-append_left z.items (items_of zones) o (subst (λ (v : Zone). Contains v.items o) (sym e) i)
    by f (inr k) = Contains-append_right z.items (items_of zones) o (f k)

has_get : {X : Type 0} (xs : List X) (n : ℕ) (x : X) → slice_get xs n ≡ Some x → Contains xs x
has_get [] n x e = cc
has_get (y ∷ xs) zero x e = let f : y ≡ x = cc in has_same (y ∷ xs) y x f (has_head xs y)
has_get (y ∷ xs) (suc n) x e = has_tail xs y x (has_get xs n x e)

-- a step goes to what an item of the zones gives
step_from : (c : Client) (zones : List Zone) (name : Labels) (r : ℕ) (m : Labels) (o : Offer)
    → IsOffer zones name o → IsEdgeOf c o r (Step m) → (x : Owned) × Contains (items_of zones) x × BringsDomain c x.item m
step_from c zones name r m (offer.Rules rules) (zone, source, served, are) (chosen, one, followed, at, gives) =
    let stands = (are.each one).0 ((followed.each one).0 (has_get chosen r one at)).0 in (
      record { owner = stands.0; item = rule one },
      has_items zones zone (record { owner = stands.0; item = rule one })
          (decides_among zones name zone served.0) stands.1,
      gives,
    )
step_from c zones name r m (offer.Alias target) (zone, source, served, first) (zeroth, is) =
    let stands = alias_stands zone.items source target first in
    let same : m ≡ folded_labels target = cc in (
      record { owner = stands.0; item = alias target },
      has_items zones zone (record { owner = stands.0; item = alias target })
          (decides_among zones name zone served.0) stands.1,
      same,
    )
step_from c zones name r m offer.Unserved a b = absurd b

-- a derivation leads to its beginning, or to what some step goes to
leads_from_step : {V : Type 0} (g : Graph V) (Goes : V → Type 0) → ((d : V) (r : ℕ) (m : V) → g.Steps d r m → Goes m)
    → (rs : List ℕ) (k d : V) → Leads g k rs d → (k ≡ d) ⊎ Goes d
leads_from_step g Goes all [] k d l = inl l
leads_from_step {V} g Goes all (r ∷ rs) k d (m, s, l) = inr (by (leads_from_step g Goes all rs m d l))
  where
    by : (m ≡ d) ⊎ Goes d → Goes d
    by (inl e) = subst Goes e (all k r m s)
    by (inr h) = h

abbrev sources : List Labels → List Zone → List (Labels ⊎ Owned)
sources names zones = map (λ name. inl name) names ++ map (λ o. inr o) (items_of zones)

module _ (out : OneOutput) (c : Client) where
  total_keys : (names : List Labels) → total (Brings c) count (one_brought out c) (counted c) (map (λ name. inl name) names) ≡ length names
  total_keys [] = refl
  total_keys (name ∷ names) = let h = total_keys names in omega arith

  total_items : (os : List Owned) → total (Brings c) count (one_brought out c) (counted c) (map (λ o. inr o) os) ≡ rules_and_aliases_in os
  total_items [] = refl
  total_items (o ∷ os) = ap (λ v. holds_one o.item + v) (total_items os)

items_append : (xs ys : List Owned) → rules_and_aliases_in (xs ++ ys) ≡ rules_and_aliases_in xs + rules_and_aliases_in ys
items_append [] ys = omega arith
items_append (x ∷ xs) ys =
    let h : rules_and_aliases_in (xs ++ ys) ≡ rules_and_aliases_in xs + rules_and_aliases_in ys = items_append xs ys in omega arith

all_items : (zones : List Zone) → rules_and_aliases_in (items_of zones) ≡ rules_and_aliases zones
all_items [] = refl
all_items (zone ∷ zones) = items_append zone.items (items_of zones) ∙ ap (λ v. rules_and_aliases_in zone.items + v) (all_items zones)

pub needed_bound : OneOutput → (c : Client) (zones : List Zone) (keys names ds : List Labels) → Holds names keys
    → AreSomeNeeded (graph_of c zones) keys ds → length ds ≤ rules_and_aliases zones + length names
needed_bound out c zones keys names ds held n =
    let fit : length ds ≤ total (Brings c) count (one_brought out c) (counted c) (sources names zones) =
    brought_fit (Brings c) count (one_brought out c) (counted c) ds (sources names zones) n.once from in
    let both : total (Brings c) count (one_brought out c) (counted c) (sources names zones)
    ≡ total (Brings c) count (one_brought out c) (counted c) (map (λ name. inl name) names)
    + total (Brings c) count (one_brought out c) (counted c) (map (λ o. inr o) (items_of zones)) =
    total_append (Brings c) count (one_brought out c) (counted c) (map (λ name. inl name) names) (map (λ o. inr o) (items_of zones)) in
    let some : total (Brings c) count (one_brought out c) (counted c) (map (λ name. inl name) names) ≡ length names = total_keys out c names in
    let all : total (Brings c) count (one_brought out c) (counted c) (map (λ o. inr o) (items_of zones)) ≡ rules_and_aliases zones =
    total_items out c (items_of zones) ∙ all_items zones in
    omega arith
  where
    from : (d : Labels) → Contains ds d → (x : Labels ⊎ Owned) × Contains (sources names zones) x × Brings c x d
    from d h = let (way, (key, at, l), rest) = n.only d h in
        by key at (leads_from_step (graph_of c zones) (λ m. (x : Owned) × Contains (items_of zones) x × BringsDomain c x.item m)
        (λ a r m s. step_from c zones a r m s.0 s.1 s.2) way.ranks key d l)
      where
        by : (key : Labels) → slice_get keys (n.only d h).0.place ≡ Some key
            → (key ≡ d) ⊎ ((x : Owned) × Contains (items_of zones) x × BringsDomain c x.item d)
            → (x : Labels ⊎ Owned) × Contains (sources names zones) x × Brings c x d
        by key at (inl e) = (
          inl key,
          Contains-append_left (map (λ name. inl name) names) (map (λ o. inr o) (items_of zones)) (inl key)
              (has_map (λ (name : Labels). inl name) names key (held key (has_get keys (n.only d h).0.place key at))),
          e,
        )
        by key at (inr (x, k, b)) = (
          inr x,
          Contains-append_right (map (λ name. inl name) names) (map (λ o. inr o) (items_of zones)) (inr x)
              (has_map (λ (o : Owned). inr o) (items_of zones) x k),
          b,
        )
