-- Records have one fault at most, and none where they make a zone.
use Rattle.std.proofs.Common.{◌≡◌, ◌≢◌, ◌⊎◌, inl, inr, ℕ, List, refl, sym, ap, subst, ◌∙◌, arith}
use Rattle.std.specs.Prelude.{Contains}
use Rattle.naptr_data.specs.Zones.{Labels}
use Rattle.naptr_data.proofs.BelowLemmas.{below_same_top, below_same_name}
use Rattle.naptr_data.proofs.FoldLemmas.{same_folded}
use Rattle.dns_name.specs.Name.{AreSame, folded_labels}
use Rattle.dns_wire.specs.Kinds.{cname}
use Rattle.dns_wire.specs.declared.record.Record.{Record}
use Rattle.zone_build.specs.Zone.{Zone, AreRepeats, IsValid}
use Rattle.zone_build.specs.Built.{IsFirst, IsBuilt}
use Rattle.zone_build.specs.Faults.{HasSoa, HasOneSoa, IsInside, Clashes, IsWildcardCut, IsLarge, IsZoneFault}
use Rattle.zone_build.specs.declared.fault.ZoneFault.{ZoneFault}
use Rattle.zone_build.specs.declared.fault.ZoneFault.TheVariants as fault
use Rattle.zone_build.specs.declared.entry.Key.TheVariants.{Whole}
use Rattle.zone_build.proofs.OrderLemmas.{alike_sym, alike_trans}
use Rattle.zone_build.proofs.SoaLemmas.{first_in}
use Rattle.zone_build.proofs.OneZoneLemmas.{one_first, begins_soa, one_soa, one_built}

-- all records are inside, and no owner has a CNAME beside anything else
abbrev AllInside : List Record → Type 0
AllInside given = (one : Record) → Contains given one → IsInside given one

abbrev NoneClashes : List Record → Type 0
NoneClashes given =
    (one other : Record) → Contains given one → Contains given other → one.kind ≡ cname → AreSame one.owner other.owner → AreRepeats one other

abbrev HasNoLarge : List Record → Type 0
HasNoLarge given = (zone : Zone) × IsBuilt given zone × ((one : Record) → Contains zone.records one → ¬ IsLarge zone.records one)

-- which fault it is, test after test
abbrev IsCutFault : List Record → ZoneFault → Type 0
IsCutFault given f = (place : ℕ) × (one : Record) × IsFirst IsWildcardCut given place one × (f ≡ fault.WildcardCut (folded_labels one.owner))

abbrev IsTooLarge : List Record → ZoneFault → Type 0
IsTooLarge given f =
    (zone : Zone) × (place : ℕ) × (one : Record) × IsBuilt given zone × IsFirst (IsLarge zone.records) zone.records place one
    × (f ≡ fault.SetTooLarge one.owner one.kind)

abbrev IsClash : List Record → ZoneFault → Type 0
IsClash given f =
    (place : ℕ) × (one : Record) × IsFirst (λ r. Clashes given r.owner) given place one × (f ≡ fault.AliasClash (folded_labels one.owner))

abbrev IsOutside : List Record → ZoneFault → Type 0
IsOutside given f = (place : ℕ) × (one : Record) × IsFirst (λ r. ¬ IsInside given r) given place one × (f ≡ fault.OutOfZone place)

abbrev FromLarge : List Record → ZoneFault → Type 0
FromLarge given f = IsTooLarge given f ⊎ (HasNoLarge given × IsCutFault given f)

abbrev FromClash : List Record → ZoneFault → Type 0
FromClash given f = IsClash given f ⊎ (NoneClashes given × FromLarge given f)

abbrev FromOutside : List Record → ZoneFault → Type 0
FromOutside given f = IsOutside given f ⊎ (AllInside given × FromClash given f)

abbrev FromSoas : List Record → ZoneFault → Type 0
FromSoas given f = (¬ HasOneSoa given × (f ≡ fault.TwoSoa)) ⊎ (HasOneSoa given × FromOutside given f)

abbrev FromSoa : List Record → ZoneFault → Type 0
FromSoa given f = (¬ HasSoa given × (f ≡ fault.NoSoa)) ⊎ (HasSoa given × FromSoas given f)

tested : (given : List Record) (f : ZoneFault) → IsZoneFault given f → f ≢ fault.Memory → FromSoa given f
tested given fault.NoSoa h m = inl (h, refl)
tested given fault.TwoSoa h m = inr (h.0, inl (h.1, refl))
tested given (fault.OutOfZone place) h m = inr (h.0, inr (h.1, inl (place, h.2.0, h.2.1, refl)))
tested given (fault.AliasClash name) (inside, (place, one, named, first)) m =
    inr (inside.some, inr (inside.one, inr (inside.inside, inl (place, one, first, ap fault.AliasClash named))))
tested given (fault.SetTooLarge name kind) (free, (zone, place, one, built, named, kinds, first)) m =
    inr (
      free.inside.some,
      inr (
        free.inside.one,
        inr (
          free.inside.inside,
          inr (
            free.unmixed,
            inl (
              zone,
              place,
              one,
              built,
              first,
              ap (λ n. fault.SetTooLarge n kind) named
                  ∙ ap (fault.SetTooLarge one.owner) kinds,
            ),
          ),
        ),
      ),
    )
tested given (fault.WildcardCut name) (free, small, (place, one, named, first)) m =
    inr (free.inside.some, inr (free.inside.one, inr (free.inside.inside, inr (free.unmixed, inr (small, (place, one, first, ap fault.WildcardCut named))))))
tested given fault.Memory h m = absurd (m refl)

-- each test shows one fault at most
clashing : (given : List Record) (owner : Labels) → NoneClashes given → Clashes given owner → ⊥
clashing given owner none (one, other, c, d, a, b, k, differ) = differ (none one other c d k (a ∙ sym b))

one_cut : (given : List Record) (f g : ZoneFault) → IsCutFault given f → IsCutFault given g → f ≡ g
one_cut given f g (place, one, first, is) (place', one', first', is') =
    is ∙ ap (λ (r : Record). fault.WildcardCut (folded_labels r.owner)) (one_first IsWildcardCut given place place' one one' first first').1 ∙ sym is'

one_large : (given : List Record) (f g : ZoneFault) → FromLarge given f → FromLarge given g → f ≡ g
one_large given f g (inl (zone, place, one, built, first, is)) (inl (zone', place', one', built', first', is')) =
    let zones : zone ≡ zone' = one_built given zone zone' built built' in
    let moved : IsFirst (IsLarge zone'.records) zone'.records place one = subst (λ (z : Zone). IsFirst (IsLarge z.records) z.records place one) zones first in
    is ∙ ap (λ (r : Record). fault.SetTooLarge r.owner r.kind) (one_first (IsLarge zone'.records) zone'.records place place' one one' moved first').1 ∙ sym is'
one_large given f g (inl (zone, place, one, built, first, is)) (inr ((zone', built', none), cut)) =
    let zones : zone ≡ zone' = one_built given zone zone' built built' in
    let moved : IsFirst (IsLarge zone'.records) zone'.records place one = subst (λ (z : Zone). IsFirst (IsLarge z.records) z.records place one) zones first in
    absurd (none one (first_in (IsLarge zone'.records) zone'.records place one moved) moved.here)
one_large given f g (inr ((zone', built', none), cut)) (inl (zone, place, one, built, first, is)) =
    let zones : zone ≡ zone' = one_built given zone zone' built built' in
    let moved : IsFirst (IsLarge zone'.records) zone'.records place one = subst (λ (z : Zone). IsFirst (IsLarge z.records) z.records place one) zones first in
    absurd (none one (first_in (IsLarge zone'.records) zone'.records place one moved) moved.here)
one_large given f g (inr (none, cut)) (inr (none', cut')) = one_cut given f g cut cut'

one_clash : (given : List Record) (f g : ZoneFault) → FromClash given f → FromClash given g → f ≡ g
one_clash given f g (inl (place, one, first, is)) (inl (place', one', first', is')) =
    is ∙ ap (λ (r : Record). fault.AliasClash (folded_labels r.owner))
    (one_first (λ r. Clashes given r.owner) given place place' one one' first first').1 ∙ sym is'
one_clash given f g (inl (place, one, first, is)) (inr (none, more)) = absurd (clashing given one.owner none first.here)
one_clash given f g (inr (none, more)) (inl (place, one, first, is)) = absurd (clashing given one.owner none first.here)
one_clash given f g (inr (none, more)) (inr (none', more')) = one_large given f g more more'

one_outside : (given : List Record) (f g : ZoneFault) → FromOutside given f → FromOutside given g → f ≡ g
one_outside given f g (inl (place, one, first, is)) (inl (place', one', first', is')) =
    is ∙ ap fault.OutOfZone (one_first (λ r. ¬ IsInside given r) given place place' one one' first first').0 ∙ sym is'
one_outside given f g (inl (place, one, first, is)) (inr (all, more)) =
    absurd (first.here (all one (first_in (λ r. ¬ IsInside given r) given place one first)))
one_outside given f g (inr (all, more)) (inl (place, one, first, is)) =
    absurd (first.here (all one (first_in (λ r. ¬ IsInside given r) given place one first)))
one_outside given f g (inr (all, more)) (inr (all', more')) = one_clash given f g more more'

one_of_soa : (given : List Record) (f g : ZoneFault) → FromSoas given f → FromSoas given g → f ≡ g
one_of_soa given f g (inl a) (inl b) = a.1 ∙ sym b.1
one_of_soa given f g (inl a) (inr b) = absurd (a.0 b.0)
one_of_soa given f g (inr a) (inl b) = absurd (b.0 a.0)
one_of_soa given f g (inr a) (inr b) = one_outside given f g a.1 b.1

one_soa_of : (given : List Record) (f g : ZoneFault) → FromSoa given f → FromSoa given g → f ≡ g
one_soa_of given f g (inl a) (inl b) = a.1 ∙ sym b.1
one_soa_of given f g (inl a) (inr b) = absurd (a.0 b.0)
one_soa_of given f g (inr a) (inl b) = absurd (b.0 a.0)
one_soa_of given f g (inr a) (inr b) = one_of_soa given f g a.1 b.1

pub one_fault : (given : List Record) (one other : ZoneFault) → IsZoneFault given one → IsZoneFault given other
    → one ≢ fault.Memory → other ≢ fault.Memory → one ≡ other
one_fault given one other a b m n = one_soa_of given one other (tested given one a m) (tested given other b n)

-- records that make a valid zone pass all tests
built_soa : (given : List Record) (zone : Zone) → IsBuilt given zone → HasSoa given
built_soa given zone built =
    let the_soa = begins_soa zone.records built.order in
    let f = built.kept the_soa.0 the_soa.1 in
    (f.0, first_in (AreRepeats the_soa.0) given f.1.0 f.0 f.1.1, sym f.2.kind ∙ the_soa.2)

built_has_one_soa : (given : List Record) (zone : Zone) → IsBuilt given zone → HasOneSoa given
built_has_one_soa given zone built one other c d k l =
    let f = built.all one c in
    let g = built.all other d in
    let same : f.0 ≡ g.0 = one_soa zone.records f.0 g.0 built.order f.1 g.1 (sym f.2.0.1 ∙ k) (sym g.2.0.1 ∙ l) in
    alike_trans Whole one g.0 other (subst (AreRepeats one) same f.2) (alike_sym Whole other g.0 g.2)

built_inside : (given : List Record) (zone : Zone) → IsBuilt given zone → IsValid zone → AllInside given
built_inside given zone built valid one c the_soa d k =
    let f = built.all one c in
    let apexes : AreSame zone.apex the_soa.owner = ap folded_labels (built.apex the_soa d k) ∙ sym (same_folded the_soa.owner) in
    below_same_top one.owner zone.apex the_soa.owner apexes (below_same_name f.0.owner one.owner zone.apex (sym f.2.0.0) (valid.inside f.0 f.1))

built_unmixed : (given : List Record) (zone : Zone) → IsBuilt given zone → IsValid zone → NoneClashes given
built_unmixed given zone built valid one other c d k same =
    let f = built.all one c in
    let g = built.all other d in
    let r = valid.alias f.0 g.0 f.1 g.1 (sym f.2.0.1 ∙ k) (sym f.2.0.0 ∙ same ∙ g.2.0.0) in
    alike_trans Whole one f.0 other f.2 (alike_trans Whole f.0 g.0 other r (alike_sym Whole other g.0 g.2))

built_small : (given : List Record) (zone zone' : Zone) (one : Record) → IsBuilt given zone → IsValid zone → IsBuilt given zone' → IsLarge zone'.records one → ⊥
built_small given zone zone' one built valid built' large =
    let moved : IsLarge zone.records one = subst (λ (z : Zone). IsLarge z.records one) (one_built given zone' zone built' built) large in
    let most = valid.small one.owner one.kind moved.0 moved.1 in
    let more = moved.2 in
    absurd (omega (arith, most, more))

built_cuts : (given : List Record) (zone : Zone) (one : Record) → IsBuilt given zone → IsValid zone → Contains given one → IsWildcardCut one → ⊥
built_cuts given zone one built valid c (k, (rest, is)) =
    let f = built.all one c in
    valid.cuts f.0 f.1 (sym f.2.0.1 ∙ k) (folded_labels rest, sym (valid.folded f.0 f.1) ∙ sym f.2.0.0 ∙ ap folded_labels is)

none_tested : (given : List Record) (zone : Zone) (f : ZoneFault) → IsBuilt given zone → IsValid zone → FromSoa given f → ⊥
none_tested given zone f built valid (inl (none, is)) = none (built_soa given zone built)
none_tested given zone f built valid (inr (some, inl (differ, is))) = differ (built_has_one_soa given zone built)
none_tested given zone f built valid (inr (some, inr (one, inl (place, out, first, is)))) =
    first.here (built_inside given zone built valid out (first_in (λ r. ¬ IsInside given r) given place out first))
none_tested given zone f built valid (inr (some, inr (one, inr (all, inl (place, mixed, first, is))))) =
    clashing given mixed.owner (built_unmixed given zone built valid) first.here
none_tested given zone f built valid (inr (some, inr (one, inr (all, inr (none, inl (zone', place, large, built', first, is)))))) =
    built_small given zone zone' large built valid built' first.here
none_tested given zone f built valid (inr (some, inr (one, inr (all, inr (none, inr (small, (place, cut, first, is))))))) =
    built_cuts given zone cut built valid (first_in IsWildcardCut given place cut first) first.here

pub no_fault : (given : List Record) (zone : Zone) (f : ZoneFault) → IsBuilt given zone → IsValid zone → IsZoneFault given f → f ≡ fault.Memory
no_fault given zone fault.NoSoa built valid h = absurd (none_tested given zone fault.NoSoa built valid (tested given fault.NoSoa h (λ e. cc)))
no_fault given zone fault.TwoSoa built valid h = absurd (none_tested given zone fault.TwoSoa built valid (tested given fault.TwoSoa h (λ e. cc)))
no_fault given zone (fault.OutOfZone place) built valid h =
    absurd (none_tested given zone (fault.OutOfZone place) built valid (tested given (fault.OutOfZone place) h (λ e. cc)))
no_fault given zone (fault.AliasClash name) built valid h =
    absurd (none_tested given zone (fault.AliasClash name) built valid (tested given (fault.AliasClash name) h (λ e. cc)))
no_fault given zone (fault.SetTooLarge name kind) built valid h =
    absurd (none_tested given zone (fault.SetTooLarge name kind) built valid (tested given (fault.SetTooLarge name kind) h (λ e. cc)))
no_fault given zone (fault.WildcardCut name) built valid h =
    absurd (none_tested given zone (fault.WildcardCut name) built valid (tested given (fault.WildcardCut name) h (λ e. cc)))
no_fault given zone fault.Memory built valid h = refl
