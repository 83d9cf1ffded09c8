-- Rising records have a set of each owner and kind; records make a valid zone or have a fault.
use Rattle.std.proofs.Common.{◌≡◌, ◌≢◌, ◌⊎◌, inl, inr, ℕ, ◌<◌, List, [], ◌∷◌, ◌++◌, refl, sym, ap, subst}
use Rattle.std.proofs.Common.{◌∙◌, arith}
use Rattle.std.specs.Prelude.{Contains}
use Rattle.std.specs.List.{AllByRecursion}
use Rattle.std.specs.declared.cmp.Ordering.TheVariants.{Less}
use Rattle.naptr_data.specs.Zones.{Labels, star}
use Rattle.naptr_data.proofs.CutLemmas.{Contains-head, Contains-middle}
use Rattle.naptr_data.proofs.DecideLemmas.{Either, numbers, lists, same_or_not}
use Rattle.dns_name.specs.Name.{AreSame, folded_labels}
use Rattle.dns_name.proofs.NameLemmas.{AllByRecursion-append}
use Rattle.dns_wire.specs.Kinds.{ns, soa}
use Rattle.dns_wire.specs.declared.record.Record.{Record}
use Rattle.zone_build.specs.Zone.{Zone, IsPlain, IsIn, AreOneSet, IsRising, IsCanonical, IsSet, IsWildcard, IsValid}
use Rattle.zone_build.specs.Zone.{order_of, weight}
use Rattle.zone_build.specs.Built.{IsFirst, IsBuilt}
use Rattle.zone_build.specs.Faults.{HasSoa, HasOneSoa, AreInside, AreUnmixed, IsLarge, IsWildcardCut, IsZoneFault}
use Rattle.zone_build.specs.Building.{key_order}
use Rattle.zone_build.specs.declared.fault.ZoneFault.{ZoneFault}
use Rattle.zone_build.specs.declared.fault.ZoneFault.TheVariants as fault
use Rattle.zone_build.specs.declared.entry.Key.TheVariants.{Set}
use Rattle.zone_build.proofs.ListLemmas.{AllByRecursion-contains, AllByRecursion-made}
use Rattle.zone_build.proofs.OrderLemmas.{key_order-total, key_not_after, alike_equal}
use Rattle.zone_build.proofs.OrderLemmas.{less_not_after, three}
use Rattle.zone_build.proofs.SoaLemmas.{first_in}
use Rattle.zone_build.proofs.SizeLemmas.{one_set}
use Rattle.zone_build.proofs.LargeLemmas.{tail_set}
use Rattle.zone_build.proofs.BuildLemmas.{valid_of}
use Rattle.zone_build.proofs.SomeZoneLemmas.{first_or_none, soa_or_none}
use Rattle.zone_build.proofs.SomeZoneLemmas.{one_soa_or_not, outside_or_inside, clash_or_unmixed}
use Rattle.zone_build.proofs.MakeZoneLemmas.{equal_set, built_some}

-- what stands between two records of a set is of that set
between : (x y z : Record) → order_of x y ≡ Less → order_of y z ≡ Less → AreOneSet x z → AreOneSet x y
between x y z less less' same = elim (three (key_order Set x y)) [
  | inl before ↦
      absurd (cc (
        sym (alike_equal Set x z same),
        less_not_after (key_order Set) (key_order-total Set) x y z before
            (key_not_after Set y z (λ g. cc (sym less', g))),
      ))
  | inr (inl equal) ↦ equal_set x y equal
  | inr (inr after) ↦ absurd (key_not_after Set x y (λ g. cc (sym less, g)) after)
]

in_or_not : (owner : Labels) (kind : ℕ) (one : Record) → Either (IsIn owner kind one)
in_or_not owner kind one = both (same_or_not one.owner owner) (numbers one.kind kind)
  where
    both : Either (AreSame one.owner owner) → Either (one.kind ≡ kind) → Either (IsIn owner kind one)
    both (inl a) (inl b) = inl (a, b)
    both (inr not) h = inr (λ s. not s.0)
    both (inl a) (inr not) = inr (λ s. not s.1)

-- rising records have a set of each owner and kind
joined : (x : Record) (xs : List Record) (owner : Labels) (kind : ℕ) (before set after : List Record)
    → IsRising (x ∷ xs) → IsIn owner kind x → xs ≡ before ++ (set ++ after) → AllByRecursion (IsIn owner kind) set
    → AllByRecursion (λ one. ¬ IsIn owner kind one) before → AllByRecursion (λ one. ¬ IsIn owner kind one) after
    → (set' : List Record) × IsSet (x ∷ xs) owner kind set'
joined x xs owner kind [] set after r here parts each b n = (
  x ∷ set,
  record {
    before = [];
    after = after;
    parts = ap (λ l. x ∷ l) parts;
    each = (here, each);
    none_before = tt;
    none_after = n;
  },
)
joined x xs owner kind (y ∷ before) [] after r here parts each b n = (
  x ∷ [],
  record {
    before = [];
    after = xs;
    parts = refl;
    each = (here, tt);
    none_before = tt;
    none_after = subst (AllByRecursion (λ one. ¬ IsIn owner kind one)) (sym parts)
        (AllByRecursion-append (λ one. ¬ IsIn owner kind one) (y ∷ before) after b n);
  },
)
joined x xs owner kind (y ∷ before) (z ∷ set) after r here parts each b n =
    let rising : IsRising (y ∷ (before ++ ((z ∷ set) ++ after))) = subst IsRising parts r.1 in
    let first : Contains xs y = subst (λ l. Contains l y) (sym parts) (Contains-head y (before ++ ((z ∷ set) ++ after))) in
    let less = AllByRecursion-contains (λ (next : Record). order_of x next ≡ Less) xs y r.0 first in
    let less' = AllByRecursion-contains (λ (next : Record). order_of y next ≡ Less) (before
    ++ ((z ∷ set) ++ after)) z rising.0 (Contains-middle before z (set ++ after)) in
    let same = between x y z less less' (here.0 ∙ sym each.0.0, here.1 ∙ sym each.0.1) in
    absurd (b.0 (sym same.0 ∙ here.0, sym same.1 ∙ here.1))

rising_set : (records : List Record) (owner : Labels) (kind : ℕ) → IsRising records → (set : List Record) × IsSet records owner kind set
rising_set [] owner kind r =
    ([], record { before = []; after = []; parts = refl; each = tt; none_before = tt; none_after = tt })
rising_set (x ∷ xs) owner kind r =
    let i = rising_set xs owner kind r.1 in
    elim (in_or_not owner kind x) [
      | inl here ↦ joined x xs owner kind i.1.before i.0 i.1.after r here i.1.parts i.1.each i.1.none_before i.1.none_after
      | inr not ↦ (i.0, tail_set x xs owner kind i.0 not i.1)
    ]

pub some_set : (records : List Record) (owner : Labels) (kind : ℕ) → IsCanonical records → (set : List Record) × IsSet records owner kind set
some_set [] owner kind c = absurd c
some_set (the_soa ∷ rest) owner kind c = elim (in_or_not owner kind the_soa) [
  | inl here ↦ (
    the_soa ∷ [],
    record {
      before = [];
      after = rest;
      parts = refl;
      each = (here, tt);
      none_before = tt;
      none_after = AllByRecursion-made (λ one. ¬ IsIn owner kind one) rest
          (λ r d i. AllByRecursion-contains (λ (one : Record). one.kind ≢ soa) rest r c.1 d (i.1 ∙ sym here.1 ∙ c.0));
    },
  )
  | inr not ↦ let i = rising_set rest owner kind c.2 in (i.0, tail_set the_soa rest owner kind i.0 not i.1)
]

more_or_not : (n : ℕ) → Either (60_000 < n)
more_or_not n = grind arith

large_or_not : (records : List Record) → IsCanonical records → (one : Record) → Either (IsLarge records one)
large_or_not records c one =
    let s = some_set records one.owner one.kind c in
    elim (more_or_not (weight s.0)) [
      | inl more ↦ inl (s.0, s.1, more)
      | inr not ↦ inr (λ (set, t, more). not (subst (λ l. 60_000 < weight l) (one_set records one.owner one.kind set s.0 t s.1) more))
    ]

wildcard_or_not : (name : Labels) → Either (IsWildcard name)
wildcard_or_not [] = inr (λ (rest, is). cc)
wildcard_or_not (label ∷ name) = elim (lists numbers label star) [
  | inl is ↦ inl (name, ap (λ l. l ∷ name) is)
  | inr not ↦ inr (λ (rest, is). not (cc))
]

cut_or_not : (one : Record) → Either (IsWildcardCut one)
cut_or_not one = both (numbers one.kind ns) (wildcard_or_not one.owner)
  where
    both : Either (one.kind ≡ ns) → Either (IsWildcard one.owner) → Either (IsWildcardCut one)
    both (inl a) (inl b) = inl (a, b)
    both (inr not) h = inr (λ s. not s.0)
    both (inl a) (inr not) = inr (λ s. not s.1)

-- a valid zone or a fault
abbrev pub MakesOne : List Record → Type 0
MakesOne given =
    ((zone : Zone) × IsBuilt given zone × IsValid zone) ⊎ ((f : ZoneFault) × (f ≢ fault.Memory) × IsZoneFault given f)

sized : (given : List Record) (zone : Zone) → ((one : Record) → Contains given one → IsPlain one) → AreUnmixed given → IsBuilt given zone → MakesOne given
sized given zone plain free built =
    elim (first_or_none (IsLarge zone.records) (large_or_not zone.records built.order) zone.records) [
      | inl (place, one, f) ↦ inr (fault.SetTooLarge one.owner one.kind, (λ e. cc), (free, (zone, place, one, built, refl, refl, f)))
      | inr small ↦ elim (first_or_none IsWildcardCut cut_or_not given) [
        | inl (place, one, f) ↦ inr (fault.WildcardCut (folded_labels one.owner), (λ e. cc), (free, (zone, built, small), (place, one, refl, f)))
        | inr none ↦ inl (zone, built, valid_of given zone plain free built small none)
      ]
    ]

placed : (given : List Record) (place : ℕ) (the_soa : Record) → ((one : Record) → Contains given one → IsPlain one)
    → IsFirst (λ r. r.kind ≡ soa) given place the_soa → HasSoa given → HasOneSoa given → MakesOne given
placed given place the_soa plain f has one_soa =
    let c = first_in (λ (r : Record). r.kind ≡ soa) given place the_soa f in
    elim (outside_or_inside given the_soa c f.here one_soa) [
      | inl (out, one, g) ↦ inr (fault.OutOfZone out, (λ e. cc), (has, one_soa, (one, g)))
      | inr inside ↦
          let in_zone : AreInside given = record { some = has; one = one_soa; inside = inside } in
          elim (clash_or_unmixed given in_zone) [
            | inl (out, one, g) ↦ inr (fault.AliasClash (folded_labels one.owner), (λ e. cc), (in_zone, (out, one, refl, g)))
            | inr free ↦ let z = built_some given place the_soa f one_soa in sized given z.0 plain free z.1
          ]
    ]

pub zone_or_fault : (given : List Record) → ((one : Record) → Contains given one → IsPlain one) → MakesOne given
zone_or_fault given plain = elim (soa_or_none given) [
  | inl (place, the_soa, f) ↦
      let c = first_in (λ (r : Record). r.kind ≡ soa) given place the_soa f in
      let has : HasSoa given = (the_soa, c, f.here) in
      elim (one_soa_or_not given the_soa c f.here) [
        | inl one_soa ↦ placed given place the_soa plain f has one_soa
        | inr not ↦ inr (fault.TwoSoa, (λ e. cc), (has, not))
      ]
  | inr none ↦ inr (fault.NoSoa, (λ e. cc), none)
]
