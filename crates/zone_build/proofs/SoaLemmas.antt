-- The first record of a list of which something holds.
use Rattle.std.proofs.Common.{◌≡◌, inl, inr, ℕ, ◌+◌, ◌<◌, List, [], ◌∷◌, ◌++◌, length, take, drop, get_or, refl, sym}
use Rattle.std.proofs.Common.{ap, subst, ◌∙◌, arith, append_assoc, length-take}
use Rattle.std.specs.Prelude.{Contains, IsTrue, Bool, true, false, ◌==◌, ◌&&◌}
use Rattle.std.proofs.lemmas.Bool.Decides.{nat_tests}
use Rattle.dns_name.specs.Name.{IsName, wire_of}
use Rattle.naptr_data.specs.Zones.{star}
use Rattle.zone_build.specs.Zone.{IsWildcard}
use Rattle.zone_build.specs.Building.{begins_wildcard}
use Rattle.std.proofs.lemmas.List.{take_more, take-append-drop}
use Rattle.naptr_data.proofs.CutLemmas.{Contains-middle}
use Rattle.std.proofs.lemmas.List.Elements.{Contains-append_left}
use Rattle.dns_wire.specs.declared.record.Record.{Record}
use Rattle.zone_build.specs.Faults.{IsFirst}
use Rattle.zone_build.proofs.ListLemmas.{turn_of, AllByRecursion-made, AllByRecursion-contains}

-- the first one that is met
pub first_found : (P : Record → Type 0) (xs : List Record) (at : ℕ) (x : Record) → at < length xs → x ≡ get_or xs at x
    → ((y : Record) → Contains (take at xs) y → ¬ P y) → P x → IsFirst P xs at x
first_found P xs at x within is none here = record {
  before = take at xs;
  after = drop (at + 1) xs;
  parts = sym (take-append-drop (at + 1) xs)
      ∙ ap (λ l. l ++ drop (at + 1) xs) (take_more xs at x within ∙ ap (λ y. take at xs ++ y ∷ []) (sym is))
      ∙ append_assoc (take at xs) (x ∷ []) (drop (at + 1) xs);
  at = omega (arith, length-take at xs);
  here = here;
  first = AllByRecursion-made (λ (y : Record). ¬ P y) (take at xs) none;
}

pub first_in : (P : Record → Type 0) (xs : List Record) (place : ℕ) (one : Record) → IsFirst P xs place one → Contains xs one
first_in P xs place one f = subst (λ l. Contains l one) (sym f.parts) (Contains-middle f.before one f.after)

-- none so far, and not the next one
pub none_more : (P : Record → Type 0) (xs : List Record) (at : ℕ) (x : Record) → at < length xs → x ≡ get_or xs at x
    → ((y : Record) → Contains (take at xs) y → ¬ P y) → ¬ P x → (y : Record) → Contains (take (at + 1) xs) y → ¬ P y
none_more P xs at x within is none not y c p = elim (turn_of xs at x y within is c) [
  | inl old ↦ none y old p
  | inr new ↦ not (subst P new p)
]

-- the first by one property is the first by another that means the same
pub first_same : (P Q : Record → Type 0) (xs : List Record) (at : ℕ) (x : Record)
    → ((y : Record) → Contains xs y → P y → Q y) → ((y : Record) → Contains xs y → Q y → P y) → IsFirst P xs at x
    → IsFirst Q xs at x
first_same P Q xs at x to back f = record {
  before = f.before;
  after = f.after;
  parts = f.parts;
  at = f.at;
  here = to x (subst (λ l. Contains l x) (sym f.parts) (Contains-middle f.before x f.after)) f.here;
  first = AllByRecursion-made (λ (y : Record). ¬ Q y) f.before
      (λ y c q. AllByRecursion-contains (λ (z : Record). ¬ P z) f.before y f.first c
      (back y (subst (λ l. Contains l y) (sym f.parts) (Contains-append_left f.before (x ∷ f.after) y c)) q));
}

both_true : (p q : Bool) → IsTrue (p && q) → IsTrue p × IsTrue q
both_true true q t = (refl, t)
both_true false q t = absurd (cc)

wild_label : (label : List ℕ) (first : ℕ) (more : List ℕ) → label ≡ first ∷ more → IsTrue (length label == 1 && first == 42) → label ≡ star
wild_label label first more is t =
    let b = both_true (length label == 1) (first == 42) t in
    let one : length label ≡ 1 = true_eq (length label) 1 b.0 in
    let byte : first ≡ 42 = true_eq first 42 b.1 in
    is ∙ ap (λ x. x ∷ more) byte ∙ ap (λ l. 42 ∷ l) (none_left more (omega (arith, ap length is, one)))
  where
    true_eq : (n m : ℕ) → IsTrue (n == m) → n ≡ m
    true_eq n m t = grind (arith, nat_tests)

    none_left : (xs : List ℕ) → length xs ≡ 0 → xs ≡ []
    none_left [] e = refl
    none_left (x ∷ xs) e = absurd (omega (arith, e))

-- the wire form of a name begins with that label where the name is a wildcard
pub wildcard_of : (name : List (List ℕ)) → IsName name → IsTrue (begins_wildcard (wire_of name)) → IsWildcard name
wildcard_of [] h t = absurd (cc)
wildcard_of ([] ∷ rest) h t = let some = h.each.0.some in absurd (omega arith)
wildcard_of ((b ∷ label) ∷ rest) h t = (rest, ap (λ l. l ∷ rest) (wild_label (b ∷ label) b label refl t))

pub wildcard_begins : (name : List (List ℕ)) → IsWildcard name → IsTrue (begins_wildcard (wire_of name))
wildcard_begins name (rest, is) = subst (λ n. IsTrue (begins_wildcard (wire_of n))) (sym is) refl
