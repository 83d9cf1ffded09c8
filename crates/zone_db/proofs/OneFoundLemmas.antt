-- Zones show one answer for a name and a kind.
use Rattle.std.proofs.Common.{◌≡◌, ◌⊎◌, inl, inr, ℕ, List, [], ◌∷◌, length, refl, sym, ap, subst, ◌∙◌, arith, length-append}
use Rattle.std.specs.Prelude.{Contains}
use Rattle.dns_name.specs.Name.{AreSame, IsBelow, folded_labels}
use Rattle.naptr_data.specs.Zones.{Labels, Exists, IsSource}
use Rattle.naptr_data.proofs.BelowLemmas.{below_itself, below_same_top, length_same, length_below}
use Rattle.naptr_data.proofs.OfferLemmas.{one_source}
use Rattle.dns_wire.specs.Kinds.{ns, cname}
use Rattle.dns_wire.specs.declared.record.Record.{Record}
use Rattle.zone_build.specs.Zone.{Zone, IsIn, IsSet, IsValid}
use Rattle.zone_build.specs.Plain.{plain_of}
use Rattle.zone_db.specs.Sets.{AreZones}
use Rattle.zone_db.specs.LookUp.{Decides, IsHighestCut, HasKind, AsksFor, MeetsAlias, IsAnswered, IsSoaOf, IsFound}
use Rattle.zone_db.specs.LookUp.{Shown, outside, cut_of, alias_of, set_of, no_set, no_name, shown}
use Rattle.zone_db.specs.Seeking.{IsUncut}
use Rattle.zone_db.specs.declared.found.Found.{Found}
use Rattle.zone_db.specs.declared.found.Found.TheVariants as found
use Rattle.zone_build.proofs.ListLemmas.{AllByRecursion-contains}
use Rattle.zone_db.proofs.SeekLemmas.{exists_below}
use Rattle.zone_build.proofs.SizeLemmas.{one_set, set_same_name}
use Rattle.zone_build.proofs.OneZoneLemmas.{one_soa}

-- what is shown at a source that exists, where no alias is met
abbrev IsShownThere : Zone → Labels → ℕ → Shown → Type 0
IsShownThere zone source asked s =
    ((kind : ℕ) × (records : List Record) × IsAnswered zone source asked kind × IsSet zone.records source kind records × (s ≡ set_of records))
    ⊎ (((kind : ℕ) → HasKind zone source kind → ¬ AsksFor asked kind) × ((the_soa : Record) × IsSoaOf zone the_soa × (s ≡ no_set the_soa)))

-- at a source that exists
abbrev IsShownWhere : Zone → Labels → ℕ → Shown → Type 0
IsShownWhere zone source asked s =
    (MeetsAlias zone source asked × ((records : List Record) × IsSet zone.records source cname records × (s ≡ alias_of records)))
    ⊎ (¬ MeetsAlias zone source asked × IsShownThere zone source asked s)

-- at a source
abbrev IsShownAt : Zone → Labels → ℕ → Shown → Type 0
IsShownAt zone source asked s =
    (¬ Exists (plain_of zone) source × ((the_soa : Record) × IsSoaOf zone the_soa × (s ≡ no_name the_soa)))
    ⊎ (Exists (plain_of zone) source × IsShownWhere zone source asked s)

-- in the zone that decides
abbrev IsShownIn : Zone → Labels → ℕ → Shown → Type 0
IsShownIn zone name asked s =
    ((owner : Labels) × (records : List Record) × IsHighestCut zone name owner × IsSet zone.records owner ns records × (s ≡ cut_of records))
    ⊎ ((source : Labels) × IsUncut zone name × IsSource (plain_of zone) name source × IsShownAt zone source asked s)

-- in zones
abbrev IsShown : List Zone → Labels → ℕ → Shown → Type 0
IsShown zones name asked s =
    (((zone : Zone) → Contains zones zone → ¬ IsBelow name zone.apex) × (s ≡ outside))
    ⊎ ((zone : Zone) × Decides zones name zone × IsShownIn zone name asked s)

kind_exists : (zone : Zone) (source : Labels) (kind : ℕ) → HasKind zone source kind → Exists (plain_of zone) source
kind_exists zone source kind (one, c, i) =
    exists_below zone source (one, c, below_same_top one.owner one.owner source i.0 (below_itself one.owner))

found_shown : (zones : List Zone) (name : Labels) (asked : ℕ) (f : Found) → IsFound zones name asked f → IsShown zones name asked (shown f)
found_shown zones name asked found.Outside none = inl (none, refl)
found_shown zones name asked (found.Cut s) (zone, owner, d, h, is) = inr (zone, d, inl (owner, s.now, h, is, refl))
found_shown zones name asked (found.NoName the_soa) (zone, source, served, none, is) =
    inr (zone, served.decides, inr (source, served.uncut, served.stands_for, inl (none, (the_soa.now, is, refl))))
found_shown zones name asked (found.Alias s) (zone, source, served, meets, is) =
    inr (zone, served.decides, inr (source, served.uncut, served.stands_for, inr (kind_exists zone source cname meets.0, inl (meets, (s.now, is, refl)))))
found_shown zones name asked (found.Set s) (zone, source, kind, served, not, answered, is) =
    inr (
      zone,
      served.decides,
      inr (
        source,
        served.uncut,
        served.stands_for,
        inr (kind_exists zone source kind answered.here, inr (not, inl (kind, s.now, answered, is, refl))),
      ),
    )
found_shown zones name asked (found.NoSet the_soa) (zone, source, served, exists, not, none, is) =
    inr (zone, served.decides, inr (source, served.uncut, served.stands_for, inr (exists, inr (not, inr (none, (the_soa.now, is, refl))))))

-- one zone decides
one_zone : (zones : List Zone) (name : Labels) (one other : Zone) → Decides zones name one → Decides zones name other → one ≡ other
one_zone zones name one other a b = elim (a.longest other b.among b.above) [
  | inl same ↦ sym same
  | inr shorter ↦ elim (b.longest one a.among a.above) [ inl same ↦ same | inr shorter' ↦ absurd (omega (arith, shorter, shorter')) ]
]

one_soa_of : (zone : Zone) (one other : Record) → IsValid zone → IsSoaOf zone one → IsSoaOf zone other → one ≡ other
one_soa_of zone one other valid a b = one_soa zone.records one other valid.order a.0 b.0 a.1 b.1

-- two names that are at or below each other are the same
below_each : (one other : Labels) → IsBelow one other → IsBelow other one → AreSame one other
below_each one other ([], back, parts, same) b = ap folded_labels parts ∙ same
below_each one other (l ∷ front, back, parts, same) b =
    absurd (omega (arith, ap length parts, length-append front back, length_same back other same, length_below other one b))

one_cut : (zone : Zone) (name one other : Labels) (records records' : List Record) → IsHighestCut zone name one
    → IsHighestCut zone name other → IsSet zone.records one ns records → IsSet zone.records other ns records'
    → records ≡ records'
one_cut zone name one other records records' a b s t =
    let r = a.cut.0 in
    let here : IsIn one ns r = a.cut.2 in
    let same : AreSame one other = below_each one other (b.highest one a.cut a.above) (a.highest other b.cut b.above) in
    one_set zone.records r.owner r.kind records records' (set_same_name zone.records one ns r records here s)
    (set_same_name zone.records other ns r records' (here.0 ∙ same, here.1) t)

one_kind : (zone : Zone) (source : Labels) (asked kind kind' : ℕ) → IsAnswered zone source asked kind → IsAnswered zone source asked kind' → kind ≡ kind'
one_kind zone source asked kind kind' a b =
    let low = a.least kind' b.here b.answers in
    let high = b.least kind a.here a.answers in
    omega (arith, low, high)

one_there : (zone : Zone) (source : Labels) (asked : ℕ) (s t : Shown) → IsValid zone → IsShownThere zone source asked s
    → IsShownThere zone source asked t → s ≡ t
one_there zone source asked s t valid (inl (kind, records, answered, is, e)) (inl (kind', records', answered', is', e')) =
    let kinds : kind ≡ kind' = one_kind zone source asked kind kind' answered answered' in
    e ∙ ap set_of (one_set zone.records source kind' records records' (subst (λ k. IsSet zone.records source k records) kinds is) is') ∙ sym e'
one_there zone source asked s t valid (inl (kind, records, answered, is, e)) (inr (none, more)) = absurd (none kind answered.here answered.answers)
one_there zone source asked s t valid (inr (none, more)) (inl (kind, records, answered, is, e)) = absurd (none kind answered.here answered.answers)
one_there zone source asked s t valid (inr (none, (the_soa, is, e))) (inr (none', (the_soa', is', e'))) =
    e ∙ ap no_set (one_soa_of zone the_soa the_soa' valid is is') ∙ sym e'

one_where : (zone : Zone) (source : Labels) (asked : ℕ) (s t : Shown) → IsValid zone → IsShownWhere zone source asked s
    → IsShownWhere zone source asked t → s ≡ t
one_where zone source asked s t valid (inl (meets, (records, is, e))) (inl (meets', (records', is', e'))) =
    e ∙ ap alias_of (one_set zone.records source cname records records' is is') ∙ sym e'
one_where zone source asked s t valid (inl (meets, more)) (inr (not, more')) = absurd (not meets)
one_where zone source asked s t valid (inr (not, more)) (inl (meets, more')) = absurd (not meets)
one_where zone source asked s t valid (inr (not, more)) (inr (not', more')) = one_there zone source asked s t valid more more'

one_at : (zone : Zone) (source : Labels) (asked : ℕ) (s t : Shown) → IsValid zone → IsShownAt zone source asked s → IsShownAt zone source asked t → s ≡ t
one_at zone source asked s t valid (inl (none, (the_soa, is, e))) (inl (none', (the_soa', is', e'))) =
    e ∙ ap no_name (one_soa_of zone the_soa the_soa' valid is is') ∙ sym e'
one_at zone source asked s t valid (inl (none, more)) (inr (exists, more')) = absurd (none exists)
one_at zone source asked s t valid (inr (exists, more)) (inl (none, more')) = absurd (none exists)
one_at zone source asked s t valid (inr (exists, more)) (inr (exists', more')) = one_where zone source asked s t valid more more'

one_in : (zone : Zone) (name : Labels) (asked : ℕ) (s t : Shown) → IsValid zone → IsShownIn zone name asked s → IsShownIn zone name asked t → s ≡ t
one_in zone name asked s t valid (inl (owner, records, h, is, e)) (inl (owner', records', h', is', e')) =
    e ∙ ap cut_of (one_cut zone name owner owner' records records' h h' is is') ∙ sym e'
one_in zone name asked s t valid (inl (owner, records, h, is, e)) (inr (source, uncut, stands, more)) = absurd (uncut owner h.cut h.above)
one_in zone name asked s t valid (inr (source, uncut, stands, more)) (inl (owner, records, h, is, e)) = absurd (uncut owner h.cut h.above)
one_in zone name asked s t valid (inr (source, uncut, stands, more)) (inr (source', uncut', stands', more')) =
    one_at zone source' asked s t valid (subst (λ n. IsShownAt zone n asked s) (one_source (plain_of zone) name source source' stands stands') more) more'

one_shown : (zones : List Zone) (name : Labels) (asked : ℕ) (s t : Shown) → AreZones zones → IsShown zones name asked s → IsShown zones name asked t → s ≡ t
one_shown zones name asked s t are (inl a) (inl b) = a.1 ∙ sym b.1
one_shown zones name asked s t are (inl a) (inr (zone, d, more)) = absurd (a.0 zone d.among d.above)
one_shown zones name asked s t are (inr (zone, d, more)) (inl b) = absurd (b.0 zone d.among d.above)
one_shown zones name asked s t are (inr (zone, d, more)) (inr (zone', d', more')) =
    let valid : IsValid zone' = AllByRecursion-contains IsValid zones zone' are.each d'.among in
    one_in zone' name asked s t valid (subst (λ (z : Zone). IsShownIn z name asked s) (one_zone zones name zone zone' d d') more) more'

pub one_found : (zones : List Zone) (name : Labels) (asked : ℕ) (one other : Found) → AreZones zones
    → IsFound zones name asked one → IsFound zones name asked other → shown one ≡ shown other
one_found zones name asked one other are a b =
    one_shown zones name asked (shown one) (shown other) are (found_shown zones name asked one a) (found_shown zones name asked other b)
