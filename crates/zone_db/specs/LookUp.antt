-- Look-up in zones (RFC 1034, sections 4.2.1 and 4.3.2; RFC 4592; RFC 2308). Names are compared without regard to case (RFC 4343).
use Rattle.std.specs.Prelude.{◌≡◌, ◌↔◌, ◌⊎◌, ℕ, ◌<◌, ◌≤◌, List, [], ◌∷◌, length, Contains, Option, Some, None}
use Rattle.dns_name.specs.Name.{AreSame, IsBelow}
use Rattle.naptr_data.specs.Zones.{Labels, Exists, IsSource, IsRising}
use Rattle.naptr_rule.specs.declared.rule.Naptr.{Naptr}
use Rattle.naptr_data.specs.declared.offer.Offer.{Offer}
use Rattle.naptr_data.specs.declared.offer.Offer.TheVariants as offer
use Rattle.dns_wire.specs.Kinds.{ns, cname, soa}
use Rattle.dns_wire.specs.declared.content.Content.TheVariants as content
use Rattle.dns_wire.specs.declared.record.Record.{Record}
use Rattle.zone_build.specs.Zone.{Zone, IsIn, IsSet}
use Rattle.zone_build.specs.Plain.{plain_of}
use Rattle.zone_db.specs.declared.found.Found.{Found}
use Rattle.zone_db.specs.declared.found.Found.TheVariants as found

-- the kind that asks for all kinds (RFC 1035, 3.2.3)
abbrev pub every : ℕ
every = 255

-- the zone that decides of a name: of those with an apex at or above it the one with the longest (RFC 1034, 4.3.2, step 2)
pub record Decides (zones : List Zone) (name : Labels) (zone : Zone) : Type 0 where
  pub among : Contains zones zone
  pub above : IsBelow name zone.apex
  pub longest : (other : Zone) → Contains zones other → IsBelow name other.apex → (other ≡ zone) ⊎ (length other.apex < length zone.apex)

-- the zone that decides of a name, where one does
abbrev pub IsDeciding : List Zone → Labels → Option Zone → Type 0
IsDeciding zones name None = (zone : Zone) → Contains zones zone → ¬ IsBelow name zone.apex
IsDeciding zones name (Some zone) = Decides zones name zone

-- a cut: an NS owner below the apex (RFC 1034, 4.2.1)
abbrev pub IsCut : Zone → Labels → Type 0
IsCut zone owner = (one : Record) × Contains zone.records one × IsIn owner ns one × ¬ AreSame owner zone.apex

-- the highest cut at or above a name
pub record IsHighestCut (zone : Zone) (name owner : Labels) : Type 0 where
  pub cut : IsCut zone owner
  pub above : IsBelow name owner
  pub highest : (other : Labels) → IsCut zone other → IsBelow name other → IsBelow other owner

-- a name is answered from a zone: it decides, no cut is at or above the name, and the records are those at this source, the name
-- itself where it exists, else `*.` before its closest encloser (RFC 4592, 3.3.1)
pub record IsServed (zones : List Zone) (name : Labels) (zone : Zone) (source : Labels) : Type 0 where
  pub decides : Decides zones name zone
  pub uncut : (owner : Labels) → IsCut zone owner → ¬ IsBelow name owner
  pub stands_for : IsSource (plain_of zone) name source

-- a record of that kind is at a name
abbrev pub HasKind : Zone → Labels → ℕ → Type 0
HasKind zone name kind = (one : Record) × Contains zone.records one × IsIn name kind one

-- a question for one kind is answered by records of that kind, one for all kinds by every record
abbrev pub AsksFor : ℕ → ℕ → Type 0
AsksFor asked kind = (asked ≡ kind) ⊎ (asked ≡ every)

-- an alias is met: a CNAME stands there, and neither CNAMEs nor all kinds are asked for (RFC 1034, 4.3.2, step 3a)
abbrev pub MeetsAlias : Zone → Labels → ℕ → Type 0
MeetsAlias zone source asked = HasKind zone source cname × ¬ AsksFor asked cname

-- the kind that is answered: of those there that answer the question the least
pub record IsAnswered (zone : Zone) (source : Labels) (asked kind : ℕ) : Type 0 where
  pub here : HasKind zone source kind
  pub answers : AsksFor asked kind
  pub least : (other : ℕ) → HasKind zone source other → AsksFor asked other → kind ≤ other

-- the SOA of a zone
abbrev pub IsSoaOf : Zone → Record → Type 0
IsSoaOf zone one = Contains zone.records one × (one.kind ≡ soa)

-- what an answer shows: its case with the records of the set, or with the SOA
pub data Shown : Type 0 where
  outside : Shown
  cut_of : List Record → Shown
  alias_of : List Record → Shown
  set_of : List Record → Shown
  no_set : Record → Shown
  no_name : Record → Shown

abbrev pub shown : Found → Shown
shown found.Outside = outside
shown (found.Cut records) = cut_of records.now
shown (found.Alias records) = alias_of records.now
shown (found.Set records) = set_of records.now
shown (found.NoSet the_soa) = no_set the_soa.now
shown (found.NoName the_soa) = no_name the_soa.now

-- what is found in zones for a name and a kind
abbrev pub IsFound : List Zone → Labels → ℕ → Found → Type 0
IsFound zones name asked found.Outside = (zone : Zone) → Contains zones zone → ¬ IsBelow name zone.apex
IsFound zones name asked (found.Cut set) =
    (zone : Zone) × (owner : Labels) × Decides zones name zone × IsHighestCut zone name owner × IsSet zone.records owner ns set.now
IsFound zones name asked (found.NoName the_soa) =
    (zone : Zone) × (source : Labels) × IsServed zones name zone source × ¬ Exists (plain_of zone) source × IsSoaOf zone the_soa.now
IsFound zones name asked (found.Alias set) =
    (zone : Zone) × (source : Labels) × IsServed zones name zone source × MeetsAlias zone source asked × IsSet zone.records source cname set.now
IsFound zones name asked (found.Set set) =
    (zone : Zone) × (source : Labels) × (kind : ℕ) × IsServed zones name zone source × ¬ MeetsAlias zone source asked
    × IsAnswered zone source asked kind × IsSet zone.records source kind set.now
IsFound zones name asked (found.NoSet the_soa) =
    (zone : Zone) × (source : Labels) × IsServed zones name zone source × Exists (plain_of zone) source × ¬ MeetsAlias zone source asked
    × ((kind : ℕ) → HasKind zone source kind → ¬ AsksFor asked kind) × IsSoaOf zone the_soa.now

-- the rules of a set, in the order of rules
pub record AreRulesOf (set : List Record) (rules : List Naptr) : Type 0 where
  pub each : (rule : Naptr) → Contains rules rule ↔ ((one : Record) × Contains set one × (one.content ≡ content.Naptr rule))
  pub rising : IsRising rules

-- the offer that is read from what is found for NAPTR records
abbrev pub ReadsAs : Found → Offer → Type 0
ReadsAs found.Outside o = o ≡ offer.Unserved
ReadsAs (found.Cut set) o = o ≡ offer.Unserved
ReadsAs (found.Alias set) o =
    (one : Record) × (target : Labels) × (set.now ≡ one ∷ []) × (one.content ≡ content.Cname target) × (o ≡ offer.Alias target)
ReadsAs (found.Set set) o = (rules : List Naptr) × AreRulesOf set.now rules × (o ≡ offer.Rules rules)
ReadsAs (found.NoSet the_soa) o = o ≡ offer.Rules []
ReadsAs (found.NoName the_soa) o = o ≡ offer.Rules []
