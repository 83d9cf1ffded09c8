-- The order of records, and of entries by their records.
use Rattle.std.proofs.Common.{◌≡◌, ◌≢◌, ◌⊎◌, inl, inr, ℕ, List, [], ◌∷◌, refl, sym, ap, ◌∙◌}
use Rattle.std.specs.declared.cmp.Ordering.{Ordering}
use Rattle.std.specs.declared.cmp.Ordering.TheVariants.{Less, Equal, Greater}
use Rattle.std.specs.Ordering.{nat_cmp, ordering_then, ordering_reverse}
use Rattle.std.specs.Cmp.{IsTotalOrder}
use Rattle.std.specs.Cmp.Lexicographic.{slice_cmp}
use Rattle.std.proofs.lemmas.Cmp.{ranked, nat_cmp_total, nat_list_cmp_total, on_total, then_total, tied_itself}
use Rattle.enum_base.specs.Folding.{folded}
use Rattle.dns_name.specs.Name.{AreSame, IsName, wire_of, labels_of, folded_labels}
use Rattle.dns_name.proofs.NameLemmas.{labels_of-wire_of, folded-wire_of, IsName-folded}
use Rattle.dns_wire.specs.Rdata.{rdata_of}
use Rattle.dns_wire.specs.declared.record.Record.{Record}
use Rattle.zone_build.specs.Zone.{AreRepeats, owner_order, order_of}
use Rattle.zone_build.specs.Building.{Given, AreKeys, key_order, entry_order, front_of, AreAlike}
use Rattle.zone_build.specs.declared.entry.Key.{Key}
use Rattle.zone_build.specs.declared.entry.Key.TheVariants.{Owner, Set, Whole}
use Rattle.zone_build.proofs.FrontLemmas.{fronts_apart}

abbrev pub bytes_cmp : List ℕ → List ℕ → Ordering
bytes_cmp = slice_cmp nat_cmp

pub then_equal : (x y : Ordering) → ordering_then x y ≡ Equal → y ≡ Equal
then_equal Less y e = cc
then_equal Equal y e = e
then_equal Greater y e = cc

pub equal_then : (x y : Ordering) → ordering_then x y ≡ Equal → x ≡ Equal
equal_then Less y e = cc
equal_then Equal y e = refl
equal_then Greater y e = cc

pub nat_cmp-equal : (x y : ℕ) → nat_cmp x y ≡ Equal → x ≡ y
nat_cmp-equal x y is = ranked x y Equal (sym is)

pub bytes_cmp-equal : (xs ys : List ℕ) → bytes_cmp xs ys ≡ Equal → xs ≡ ys
bytes_cmp-equal [] [] e = refl
bytes_cmp-equal [] (y ∷ ys) e = cc
bytes_cmp-equal (x ∷ xs) [] e = cc
bytes_cmp-equal (x ∷ xs) (y ∷ ys) e =
    let rest = bytes_cmp-equal xs ys (then_equal (nat_cmp x y) (bytes_cmp xs ys) e) in
    let head = nat_cmp-equal x y (equal_then (nat_cmp x y) (bytes_cmp xs ys) e) in
    ap (λ k. k ∷ xs) head ∙ ap (λ l. y ∷ l) rest

-- the order of folded wire forms is that of the wire forms of folded names
pub wires_cmp : (one other : List (List ℕ)) → IsName one → IsName other
    → bytes_cmp (folded (wire_of one)) (folded (wire_of other))
    ≡ bytes_cmp (wire_of (folded_labels one)) (wire_of (folded_labels other))
wires_cmp one other n m =
    ap (λ x. bytes_cmp x (folded (wire_of other))) (folded-wire_of one n.each) ∙ ap (bytes_cmp (wire_of (folded_labels one))) (folded-wire_of other m.each)

-- names that are equal in order are the same
pub same_names : (one other : List (List ℕ)) → IsName one → IsName other
    → bytes_cmp (wire_of (folded_labels one)) (wire_of (folded_labels other)) ≡ Equal → AreSame one other
same_names one other n m e =
    let is = bytes_cmp-equal (wire_of (folded_labels one)) (wire_of (folded_labels other)) e in
    sym (labels_of-wire_of (folded_labels one) (IsName-folded one n).each) ∙ ap labels_of is
    ∙ labels_of-wire_of (folded_labels other) (IsName-folded other m).each

pub owner_order-total : IsTotalOrder owner_order
owner_order-total = on_total (λ (one : Record). wire_of (folded_labels one.owner)) nat_list_cmp_total

pub order_of-total : IsTotalOrder order_of
order_of-total = then_total owner_order-total
    (then_total (on_total (λ (one : Record). one.kind) nat_cmp_total)
    (on_total (λ (one : Record). rdata_of one.content) nat_list_cmp_total))

pub entry_order-total : IsTotalOrder entry_order
entry_order-total = then_total (on_total (λ (one : Given). one.given) order_of-total) (on_total (λ (one : Given). one.place) nat_cmp_total)

pub key_order-total : (key : Key) → IsTotalOrder (key_order key)
key_order-total Owner = owner_order-total
key_order-total Set = then_total owner_order-total (on_total (λ (one : Record). one.kind) nat_cmp_total)
key_order-total Whole = order_of-total

-- what is not after is not after by a part of the order
pub then_front : (x y : Ordering) → ordering_then x y ≢ Greater → x ≢ Greater
then_front Less y not e = cc
then_front Equal y not e = cc
then_front Greater y not e = not refl

then_two : (x y z : Ordering) → ordering_then x (ordering_then y z) ≢ Greater → ordering_then x y ≢ Greater
then_two Less y z not e = cc
then_two Equal y z not e = then_front y z not e
then_two Greater y z not e = not refl

pub key_not_after : (key : Key) (one other : Record) → order_of one other ≢ Greater → key_order key one other ≢ Greater
key_not_after Owner one other not = then_front (owner_order one other) _ not
key_not_after Set one other not = then_two (owner_order one other) (nat_cmp one.kind other.kind) _ not
key_not_after Whole one other not = not

then_less : (x y z : Ordering) → ordering_then x y ≡ Less → ordering_then x (ordering_then y z) ≡ Less
then_less Less y z e = refl
then_less Equal Less z e = refl
then_less Equal Equal z e = cc
then_less Equal Greater z e = cc
then_less Greater y z e = cc

front_less : (x y : Ordering) → x ≡ Less → ordering_then x y ≡ Less
front_less x y e = ap (λ o. ordering_then o y) e

-- what comes later by a part of the order comes later
pub key_later : (key : Key) (one other : Record) → key_order key one other ≡ Less → order_of one other ≡ Less
key_later Owner one other e = front_less (owner_order one other) _ e
key_later Set one other e = then_less (owner_order one other) (nat_cmp one.kind other.kind) _ e
key_later Whole one other e = e

same_owners : (one other : Record) → AreAlike Owner one other → owner_order one other ≡ Equal
same_owners one other a =
    ap (λ x. bytes_cmp (wire_of (folded_labels one.owner)) (wire_of x)) (sym a) ∙ tied_itself owner_order-total one

-- alike records are equal in order
pub repeats_equal : (one other : Record) → AreRepeats one other → order_of one other ≡ Equal
repeats_equal one other a =
    ap (λ o. ordering_then o (ordering_then (nat_cmp one.kind other.kind)
    (bytes_cmp (rdata_of one.content) (rdata_of other.content)))) (same_owners one other a.0.0)
    ∙ ap (λ o. ordering_then o (bytes_cmp (rdata_of one.content) (rdata_of other.content)))
    (ap (nat_cmp one.kind) (sym a.0.1) ∙ tied_itself nat_cmp_total one.kind)
    ∙ ap (bytes_cmp (rdata_of one.content)) (sym a.1) ∙ tied_itself nat_list_cmp_total (rdata_of one.content)

pub alike_equal : (key : Key) (one other : Record) → AreAlike key one other → key_order key one other ≡ Equal
alike_equal Owner one other a = same_owners one other a
alike_equal Set one other a =
    ap (λ o. ordering_then o (nat_cmp one.kind other.kind)) (same_owners one other a.0) ∙ ap (nat_cmp one.kind) (sym a.1) ∙ tied_itself nat_cmp_total one.kind
alike_equal Whole one other a = repeats_equal one other a

pub alike_itself : (key : Key) (one : Record) → AreAlike key one one
alike_itself Owner one = refl
alike_itself Set one = (refl, refl)
alike_itself Whole one = ((refl, refl), refl)

pub alike_sym : (key : Key) (one other : Record) → AreAlike key one other → AreAlike key other one
alike_sym Owner one other a = sym a
alike_sym Set one other a = (sym a.0, sym a.1)
alike_sym Whole one other a = ((sym a.0.0, sym a.0.1), sym a.1)

pub alike_trans : (key : Key) (one middle other : Record) → AreAlike key one middle → AreAlike key middle other → AreAlike key one other
alike_trans Owner one middle other a b = a ∙ b
alike_trans Set one middle other a b = (a.0 ∙ b.0, a.1 ∙ b.1)
alike_trans Whole one middle other a b = ((a.0.0 ∙ b.0.0, a.0.1 ∙ b.0.1), a.1 ∙ b.1)

pub three : (o : Ordering) → (o ≡ Less) ⊎ ((o ≡ Equal) ⊎ (o ≡ Greater))
three Less = inl refl
three Equal = inr (inl refl)
three Greater = inr (inr refl)

pub turned_equal : {K : Type 0} (R : K → K → Ordering) (total : IsTotalOrder R) (x y : K) → R x y ≡ Equal → R y x ≡ Equal
turned_equal R total x y e = total.antisymm y x ∙ ap ordering_reverse e

-- an order goes on from equals
pub equal_less : {K : Type 0} (R : K → K → Ordering) (total : IsTotalOrder R) (x y z : K) → R x y ≡ Equal → R y z ≡ Less → R x z ≡ Less
equal_less R total x y z e l = total.congr x y z e ∙ l

pub less_equal : {K : Type 0} (R : K → K → Ordering) (total : IsTotalOrder R) (x y z : K) → R x y ≡ Less → R y z ≡ Equal → R x z ≡ Less
less_equal R total x y z l e =
    total.antisymm x z ∙ ap ordering_reverse (total.congr z y x (turned_equal R total y z e) ∙ total.antisymm y x ∙ ap ordering_reverse l)

pub less_not_after : {K : Type 0} (R : K → K → Ordering) (total : IsTotalOrder R) (x y z : K) → R x y ≡ Less → R y z ≢ Greater → R x z ≡ Less
less_not_after R total x y z l not =
    elim (three (R y z)) [
      | inl less ↦ total.trans x y z l less
      | inr (inl equal) ↦ less_equal R total x y z l equal
      | inr (inr after) ↦ absurd (not after)
    ]

-- neither equal nor after
pub then_before : (o : Ordering) → o ≢ Equal → o ≢ Greater → o ≡ Less
then_before Less a b = refl
then_before Equal a b = absurd (a refl)
then_before Greater a b = absurd (b refl)

-- what comes later is not alike
pub later_apart : (key : Key) (one other : Record) → key_order key one other ≡ Less → ¬ AreAlike key one other
later_apart key one other l a = cc (sym l, alike_equal key one other a)

-- numbers that differ tell the order of the owners
pub keys_apart : (one other : Record) (kind ttl front kind' ttl' front' : ℕ) (rdata rdata' : List ℕ) (o : Ordering)
    → AreKeys one kind ttl front rdata → AreKeys other kind' ttl' front' rdata' → o ≡ nat_cmp front front' → o ≢ Equal
    → o ≡ owner_order one other
keys_apart one other kind ttl front kind' ttl' front' rdata rdata' o keys keys' is not =
    fronts_apart 16 (folded (wire_of one.owner)) (folded (wire_of other.owner)) o keys.bytes keys'.bytes
    (is ∙ ap (λ n. nat_cmp n front') keys.of_owner
    ∙ ap (nat_cmp (front_of 16 (folded (wire_of one.owner)))) keys'.of_owner) not
    ∙ wires_cmp one.owner other.owner keys.name keys'.name

-- records that are equal in order are alike
pub equal_alike : (key : Key) (one other : Record) → IsName one.owner → IsName other.owner → key_order key one other ≡ Equal → AreAlike key one other
equal_alike Owner one other n m e = same_names one.owner other.owner n m e
equal_alike Set one other n m e = (
  same_names one.owner other.owner n m (equal_then (owner_order one other) (nat_cmp one.kind other.kind) e),
  nat_cmp-equal one.kind other.kind (then_equal (owner_order one other) (nat_cmp one.kind other.kind) e),
)
equal_alike Whole one other n m e =
    let kinds = nat_cmp one.kind other.kind in
    let rest = bytes_cmp (rdata_of one.content) (rdata_of other.content) in
    let both = then_equal (owner_order one other) (ordering_then kinds rest) e in (
      (
        same_names one.owner other.owner n m (equal_then (owner_order one other) (ordering_then kinds rest) e),
        nat_cmp-equal one.kind other.kind (equal_then kinds rest both),
      ),
      bytes_cmp-equal (rdata_of one.content) (rdata_of other.content) (then_equal kinds rest both),
    )
