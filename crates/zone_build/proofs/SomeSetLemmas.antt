-- Each owner and kind has a set among the records of a valid zone.
use Rattle.std.proofs.Common.{◌≡◌, ◌⊎◌, inl, inr, ℕ, suc, ◌+◌, ◌<◌, List, [], ◌∷◌, ◌++◌, length, refl, sym, ap, subst, ◌∙◌, arith, append_assoc, length-append}
use Rattle.std.specs.Prelude.{Contains}
use Rattle.std.specs.List.{AllByRecursion, flat_map}
use Rattle.std.specs.declared.cmp.Ordering.TheVariants.{Less, Equal, Greater}
use Rattle.std.specs.Ordering.{nat_cmp}
use Rattle.std.proofs.lemmas.List.Elements.{Contains-append_right}
use Rattle.naptr_data.specs.Zones.{Labels}
use Rattle.naptr_data.proofs.CutLemmas.{Contains-head}
use Rattle.naptr_data.proofs.DecideLemmas.{Either, numbers, same_or_not}
use Rattle.dns_name.specs.Name.{AreSame, folded_labels, label_wire, wire_of}
use Rattle.dns_name.proofs.NameLemmas.{AllByRecursion-append}
use Rattle.dns_wire.specs.Kinds.{soa}
use Rattle.dns_wire.specs.declared.record.Record.{Record}
use Rattle.zone_build.specs.Zone.{AreOneSet, IsIn, IsSet, IsRising, IsCanonical, owner_order, order_of}
use Rattle.zone_build.specs.Building.{key_order}
use Rattle.zone_build.specs.declared.entry.Key.TheVariants.{Set}
use Rattle.zone_build.proofs.ListLemmas.{AllByRecursion-contains, AllByRecursion-made}
use Rattle.zone_build.proofs.OrderLemmas.{three, key_not_after, alike_equal, key_order-total, less_not_after}
use Rattle.zone_build.proofs.OrderLemmas.{then_equal, equal_then, nat_cmp-equal, bytes_cmp-equal}

-- labels are told by their wire form
pub length-wire : (label : List ℕ) (labels : Labels) → length (wire_of (label ∷ labels)) ≡ suc (length label + length (wire_of labels))
length-wire label labels =
    ap (λ l. suc (length l)) (append_assoc label (flat_map label_wire labels) (0 ∷ [])) ∙ ap suc (length-append label (wire_of labels))

wire_some : (labels : Labels) → 0 < length (wire_of labels)
wire_some [] = omega arith
wire_some (label ∷ labels) = let l = length-wire label labels in omega (arith, l)

same_front : (xs ys us vs : List ℕ) → length xs ≡ length ys → xs ++ us ≡ ys ++ vs → (xs ≡ ys) × (us ≡ vs)
same_front [] [] us vs l e = (refl, e)
same_front [] (y ∷ ys) us vs l e = absurd (omega (arith, l))
same_front (x ∷ xs) [] us vs l e = absurd (omega (arith, l))
same_front (x ∷ xs) (y ∷ ys) us vs l e =
    let head : x ≡ y = cc in
    let tail : xs ++ us ≡ ys ++ vs = cc in
    let f = same_front xs ys us vs (omega (arith, l)) tail in
    (ap (λ b. b ∷ xs) head ∙ ap (λ bs. y ∷ bs) f.0, f.1)

labels_told : (one other : Labels) → wire_of one ≡ wire_of other → one ≡ other
labels_told [] [] e = refl
labels_told [] (label ∷ other) e =
    let whole = length-wire label other in
    let some = wire_some other in
    let same = ap length e in
    absurd (omega (arith, whole, some, same))
labels_told (label ∷ one) [] e =
    let whole = length-wire label one in
    let some = wire_some one in
    let same = ap length e in
    absurd (omega (arith, whole, some, same))
labels_told (label ∷ one) (label' ∷ other) e =
    let sizes : length label ≡ length label' = cc in
    let rest : (label ++ flat_map label_wire one) ++ 0 ∷ [] ≡ (label' ++ flat_map label_wire other) ++ 0 ∷ [] = cc in
    let f =
    same_front label label' (wire_of one) (wire_of other) sizes
    (sym (append_assoc label (flat_map label_wire one) (0 ∷ [])) ∙ rest
    ∙ append_assoc label' (flat_map label_wire other) (0 ∷ [])) in
    ap (λ l. l ∷ one) f.0 ∙ ap (λ ls. label' ∷ ls) (labels_told one other f.1)

-- what stands in order between two records of a set is of the set
alike_set : (one other : Record) → key_order Set one other ≡ Equal → AreOneSet one other
alike_set one other e = (
  labels_told (folded_labels one.owner) (folded_labels other.owner)
      (bytes_cmp-equal (wire_of (folded_labels one.owner)) (wire_of (folded_labels other.owner))
      (equal_then (owner_order one other) (nat_cmp one.kind other.kind) e)),
  nat_cmp-equal one.kind other.kind (then_equal (owner_order one other) (nat_cmp one.kind other.kind) e),
)

between : (x y z : Record) → order_of x y ≡ Less → order_of y z ≡ Less → AreOneSet x z → AreOneSet x y
between x y z l m a = alike_set x y (middle (three (key_order Set x y)))
  where
    middle : (key_order Set x y ≡ Less) ⊎ ((key_order Set x y ≡ Equal) ⊎ (key_order Set x y ≡ Greater)) → key_order Set x y ≡ Equal
    middle (inl less) =
        let far = less_not_after (key_order Set) (key_order-total Set) x y z less (key_not_after Set y z (λ g. cc (sym m, g))) in
        let same = alike_equal Set x z a in
        absurd (cc (sym far, same))
    middle (inr (inl equal)) = equal
    middle (inr (inr after)) = absurd (key_not_after Set x y (λ g. cc (sym l, g)) after)

-- a set is there
abbrev pub HasSet : List Record → Labels → ℕ → Type 0
HasSet records owner kind = (set : List Record) × IsSet records owner kind set

pub in_or_not : (owner : Labels) (kind : ℕ) (one : Record) → Either (IsIn owner kind one)
in_or_not owner kind one = both (same_or_not one.owner owner) (numbers one.kind kind)
  where
    both : Either (AreSame one.owner owner) → Either (one.kind ≡ kind) → Either (IsIn owner kind one)
    both (inl same) (inl is) = inl (same, is)
    both (inl same) (inr not) = inr (λ i. not i.1)
    both (inr not) h = inr (λ i. not i.0)

abbrev Lacks : Labels → ℕ → List Record → Type 0
Lacks owner kind records = AllByRecursion (λ one. ¬ IsIn owner kind one) records

set_passed : (owner : Labels) (kind : ℕ) (x : Record) (xs : List Record) → ¬ IsIn owner kind x → HasSet xs owner kind → HasSet (x ∷ xs) owner kind
set_passed owner kind x xs not (set, s) = (
  set,
  record {
    before = x ∷ s.before;
    after = s.after;
    parts = ap (λ l. x ∷ l) s.parts;
    each = s.each;
    none_before = (not, s.none_before);
    none_after = s.none_after;
  },
)

set_joined : (owner : Labels) (kind : ℕ) (x : Record) (xs before set after : List Record) → IsIn owner kind x
    → xs ≡ before ++ (set ++ after) → AllByRecursion (IsIn owner kind) set → Lacks owner kind before
    → Lacks owner kind after → AllByRecursion (λ next. order_of x next ≡ Less) xs → IsRising xs
    → HasSet (x ∷ xs) owner kind
set_joined owner kind x xs [] set after here parts each front back less rising = (
  x ∷ set,
  record {
    before = [];
    after = after;
    parts = ap (λ l. x ∷ l) parts;
    each = (here, each);
    none_before = tt;
    none_after = back;
  },
)
set_joined owner kind x xs (y ∷ before) [] after here parts each front back less rising = (
  x ∷ [],
  record {
    before = [];
    after = xs;
    parts = refl;
    each = (here, tt);
    none_before = tt;
    none_after = subst (Lacks owner kind) (sym parts) (AllByRecursion-append (λ one. ¬ IsIn owner kind one) (y ∷ before) after front back);
  },
)
set_joined owner kind x xs (y ∷ before) (z ∷ set) after here parts each front back less rising =
    let rest : List Record = before ++ (z ∷ set ++ after) in
    let first : order_of x y ≡ Less =
    AllByRecursion-contains (λ (next : Record). order_of x next ≡ Less) xs y less
    (subst (λ l. Contains l y) (sym parts) (Contains-head y rest)) in
    let second : order_of y z ≡ Less =
    AllByRecursion-contains (λ (next : Record). order_of y next ≡ Less) rest z (subst IsRising parts rising).0
    (Contains-append_right before (z ∷ set ++ after) z (Contains-head z (set ++ after))) in
    let a = between x y z first second (here.0 ∙ sym each.0.0, here.1 ∙ sym each.0.1) in
    absurd (front.0 (sym a.0 ∙ here.0, sym a.1 ∙ here.1))

set_in_rising : (owner : Labels) (kind : ℕ) (xs : List Record) → IsRising xs → HasSet xs owner kind
set_in_rising owner kind [] r = ([], record { before = []; after = []; parts = refl; each = tt; none_before = tt; none_after = tt })
set_in_rising owner kind (x ∷ xs) r = next (in_or_not owner kind x) (set_in_rising owner kind xs r.1)
  where
    next : Either (IsIn owner kind x) → HasSet xs owner kind → HasSet (x ∷ xs) owner kind
    next (inr not) h = set_passed owner kind x xs not h
    next (inl here) (set, s) = set_joined owner kind x xs s.before set s.after here s.parts s.each s.none_before s.none_after r.0 r.1

pub has_set : (records : List Record) (owner : Labels) (kind : ℕ) → IsCanonical records → HasSet records owner kind
has_set [] owner kind c = absurd c
has_set (x ∷ rest) owner kind c = next (in_or_not owner kind x)
  where
    next : Either (IsIn owner kind x) → HasSet (x ∷ rest) owner kind
    next (inr not) = set_passed owner kind x rest not (set_in_rising owner kind rest c.2)
    next (inl here) = (
      x ∷ [],
      record {
        before = [];
        after = rest;
        parts = refl;
        each = (here, tt);
        none_before = tt;
        none_after = AllByRecursion-made (λ one. ¬ IsIn owner kind one) rest
            (λ one d i. AllByRecursion-contains (λ (other : Record). ¬ (other.kind ≡ soa)) rest one c.1 d (i.1 ∙ sym here.1 ∙ c.0));
      },
    )

-- an SOA is there
pub has_soa : (records : List Record) → IsCanonical records → (one : Record) × Contains records one × (one.kind ≡ soa)
has_soa [] c = absurd c
has_soa (x ∷ rest) c = (x, Contains-head x rest, c.0)
