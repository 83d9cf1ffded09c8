-- Records make a valid zone or have a fault: first the tests before a zone is made.
use Rattle.std.proofs.Common.{◌≡◌, ◌⊎◌, inl, inr, ℕ, suc, List, [], ◌∷◌, refl, sym, ap, subst}
use Rattle.std.specs.Prelude.{Contains}
use Rattle.naptr_data.specs.Zones.{Labels}
use Rattle.naptr_data.proofs.CutLemmas.{Contains-none, head_or_after}
use Rattle.naptr_data.proofs.BelowLemmas.{below_same_top}
use Rattle.naptr_data.proofs.DecideLemmas.{Either, numbers, same_or_not, below_or_not}
use Rattle.dns_name.specs.Name.{AreSame, IsBelow}
use Rattle.dns_wire.specs.Kinds.{soa, cname}
use Rattle.dns_wire.specs.declared.record.Record.{Record}
use Rattle.zone_build.specs.Zone.{AreRepeats}
use Rattle.zone_build.specs.Built.{IsFirst}
use Rattle.zone_build.specs.Faults.{HasSoa, HasOneSoa, IsInside, Clashes, AreInside, AreUnmixed}
use Rattle.zone_build.specs.declared.entry.Key.TheVariants.{Whole}
use Rattle.zone_build.proofs.OrderLemmas.{alike_sym, alike_trans}
use Rattle.zone_build.proofs.SoaLemmas.{first_in}
use Rattle.zone_build.proofs.DecideLemmas.{repeats_or_not}

-- the first of some records has a property
abbrev pub HasFirst : (Record → Type 0) → List Record → Type 0
HasFirst P xs = (place : ℕ) × (one : Record) × IsFirst P xs place one

-- no record has it
abbrev pub HasNone : (Record → Type 0) → List Record → Type 0
HasNone P xs = (one : Record) → Contains xs one → ¬ P one

pub first_or_none : (P : Record → Type 0) → ((r : Record) → Either (P r)) → (xs : List Record) → HasFirst P xs ⊎ HasNone P xs
first_or_none P each [] = inr (λ one c p. Contains-none one c)
first_or_none P each (x ∷ xs) = both (each x) (first_or_none P each xs)
  where
    neither : (P x → ⊥) → HasNone P xs → HasNone P (x ∷ xs)
    neither not none one c p = elim (head_or_after x xs one c) [
      | inl here ↦ not (subst P here p)
      | inr after ↦ none one after p
    ]

    both : Either (P x) → HasFirst P xs ⊎ HasNone P xs → HasFirst P (x ∷ xs) ⊎ HasNone P (x ∷ xs)
    both (inl p) h = inl (0, x, record { before = []; after = xs; parts = refl; at = refl; here = p; first = tt })
    both (inr not) (inl (place, one, f)) = inl (
      suc place,
      one,
      record {
        before = x ∷ f.before;
        after = f.after;
        parts = ap (λ l. x ∷ l) f.parts;
        at = ap suc f.at;
        here = f.here;
        first = (not, f.first);
      },
    )
    both (inr not) (inr none) = inr (neither not none)

-- one of some records has a property, or none has it
abbrev pub HasSome : (Record → Type 0) → List Record → Type 0
HasSome P xs = (one : Record) × Contains xs one × P one

pub some_or_none : (P : Record → Type 0) → ((r : Record) → Either (P r)) → (xs : List Record) → Either (HasSome P xs)
some_or_none P each xs = made (first_or_none P each xs)
  where
    made : HasFirst P xs ⊎ HasNone P xs → Either (HasSome P xs)
    made (inl (place, one, f)) = inl (one, first_in P xs place one f, f.here)
    made (inr none) = inr (λ (one, c, p). none one c p)

pub is_soa : (r : Record) → Either (r.kind ≡ soa)
is_soa r = numbers r.kind soa

-- an SOA, the first of all
pub soa_or_none : (given : List Record) → HasFirst (λ r. r.kind ≡ soa) given ⊎ ¬ HasSoa given
soa_or_none given = made (first_or_none (λ r. r.kind ≡ soa) is_soa given)
  where
    made : HasFirst (λ r. r.kind ≡ soa) given ⊎ HasNone (λ r. r.kind ≡ soa) given → HasFirst (λ r. r.kind ≡ soa) given ⊎ ¬ HasSoa given
    made (inl f) = inl f
    made (inr none) = inr (λ (one, c, k). none one c k)

-- all SOA records are repeats of one, or not
abbrev DiffersFrom : Record → Record → Type 0
DiffersFrom the_soa r = (r.kind ≡ soa) × ¬ AreRepeats the_soa r

differs_or_not : (the_soa r : Record) → Either (DiffersFrom the_soa r)
differs_or_not the_soa r = both (is_soa r) (repeats_or_not the_soa r)
  where
    both : Either (r.kind ≡ soa) → Either (AreRepeats the_soa r) → Either (DiffersFrom the_soa r)
    both (inl k) (inr not) = inl (k, not)
    both (inl k) (inl same) = inr (λ d. d.1 same)
    both (inr not) h = inr (λ d. not d.0)

pub one_soa_or_not : (given : List Record) (the_soa : Record) → Contains given the_soa → the_soa.kind ≡ soa → Either (HasOneSoa given)
one_soa_or_not given the_soa c k = made (some_or_none (DiffersFrom the_soa) (differs_or_not the_soa) given)
  where
    repeats : ¬ HasSome (DiffersFrom the_soa) given → (one : Record) → Contains given one → one.kind ≡ soa → AreRepeats the_soa one
    repeats none one d l = elim (repeats_or_not the_soa one) [
      | inl same ↦ same
      | inr not ↦ absurd (none (one, d, (l, not)))
    ]

    made : Either (HasSome (DiffersFrom the_soa) given) → Either (HasOneSoa given)
    made (inl (one, d, (l, not))) = inr (λ all. not (all the_soa one c d k l))
    made (inr none) = inl (λ one other d e l m.
        alike_trans Whole one the_soa other (alike_sym Whole the_soa one (repeats none one d l)) (repeats none other e m))

-- a record is inside where it is at or below the owner of one SOA
pub inside_made : (given : List Record) (the_soa r : Record) → Contains given the_soa → the_soa.kind ≡ soa
    → HasOneSoa given → IsBelow r.owner the_soa.owner → IsInside given r
inside_made given the_soa r c k all b other d l = below_same_top r.owner the_soa.owner other.owner (all the_soa other c d k l).0.0 b

inside_or_not : (given : List Record) (the_soa r : Record) → Contains given the_soa → the_soa.kind ≡ soa → HasOneSoa given → Either (IsInside given r)
inside_or_not given the_soa r c k all = elim (below_or_not r.owner the_soa.owner) [
  | inl b ↦ inl (inside_made given the_soa r c k all b)
  | inr not ↦ inr (λ i. not (i the_soa c k))
]

opposite : (P : Type 0) → Either P → Either (P → ⊥)
opposite P (inl p) = inr (λ not. not p)
opposite P (inr not) = inl not

both_not : (P : Type 0) → Either P → ((P → ⊥) → ⊥) → P
both_not P (inl p) h = p
both_not P (inr not) h = absurd (h not)

pub outside_or_inside : (given : List Record) (the_soa : Record) → Contains given the_soa → the_soa.kind ≡ soa
    → HasOneSoa given → HasFirst (λ r. ¬ IsInside given r) given
    ⊎ ((one : Record) → Contains given one → IsInside given one)
outside_or_inside given the_soa c k all =
    elim (first_or_none (λ r. ¬ IsInside given r)
    (λ r. opposite (IsInside given r) (inside_or_not given the_soa r c k all)) given) [
      | inl f ↦ inl f
      | inr none ↦ inr (λ one d. both_not (IsInside given one) (inside_or_not given the_soa one c k all) (none one d))
    ]

-- an owner has a CNAME beside something else, or not
abbrev IsBeside : Labels → Record → Record → Type 0
IsBeside owner one other = AreSame other.owner owner × ¬ AreRepeats one other

beside_or_not : (owner : Labels) (one other : Record) → Either (IsBeside owner one other)
beside_or_not owner one other = both (same_or_not other.owner owner) (repeats_or_not one other)
  where
    both : Either (AreSame other.owner owner) → Either (AreRepeats one other) → Either (IsBeside owner one other)
    both (inl same) (inr not) = inl (same, not)
    both (inl same) (inl r) = inr (λ b. b.1 r)
    both (inr not) h = inr (λ b. not b.0)

abbrev IsMixing : List Record → Labels → Record → Type 0
IsMixing given owner one = AreSame one.owner owner × (one.kind ≡ cname) × HasSome (IsBeside owner one) given

mixing_or_not : (given : List Record) (owner : Labels) (one : Record) → Either (IsMixing given owner one)
mixing_or_not given owner one = all (same_or_not one.owner owner) (numbers one.kind cname) (some_or_none (IsBeside owner one) (beside_or_not owner one) given)
  where
    all : Either (AreSame one.owner owner) → Either (one.kind ≡ cname) → Either (HasSome (IsBeside owner one) given) → Either (IsMixing given owner one)
    all (inl a) (inl b) (inl c) = inl (a, b, c)
    all (inr a) b c = inr (λ m. a m.0)
    all (inl a) (inr b) c = inr (λ m. b m.1)
    all (inl a) (inl b) (inr c) = inr (λ m. c m.2)

clashes_or_not : (given : List Record) (owner : Labels) → Either (Clashes given owner)
clashes_or_not given owner = elim (some_or_none (IsMixing given owner) (mixing_or_not given owner) given) [
  | inl m ↦ inl (m.0, m.2.2.0, m.1, m.2.2.1, m.2.0, m.2.2.2.0, m.2.1, m.2.2.2.1)
  | inr none ↦ inr (λ (one, other, c, d, a, b, k, differ). none (one, c, (a, k, (other, d, (b, differ)))))
]

unmixed_made : (given : List Record) → HasNone (λ r. Clashes given r.owner) given → (one other : Record)
    → Contains given one → Contains given other → one.kind ≡ cname → AreSame one.owner other.owner
    → AreRepeats one other
unmixed_made given none one other c d k same =
    both_not (AreRepeats one other) (repeats_or_not one other) (λ differ. none one c (one, other, c, d, refl, sym same, k, differ))

pub clash_or_unmixed : (given : List Record) → AreInside given → HasFirst (λ r. Clashes given r.owner) given ⊎ AreUnmixed given
clash_or_unmixed given inside = elim (first_or_none (λ r. Clashes given r.owner) (λ r. clashes_or_not given r.owner) given) [
  | inl f ↦ inl f
  | inr none ↦ inr (record { inside = inside; unmixed = unmixed_made given none })
]
