-- Why records make no valid zone (this project's own, but for RFC 1034, section 3.6.2, on aliases).
use Rattle.std.specs.Prelude.{◌≡◌, ℕ, ◌<◌, List, Contains, ⊤}
use Rattle.dns_name.specs.Name.{AreSame, IsBelow, folded_labels}
use Rattle.naptr_data.specs.Zones.{Labels}
use Rattle.dns_wire.specs.Kinds.{ns, cname, soa}
use Rattle.dns_wire.specs.declared.record.Record.{Record}
use Rattle.zone_build.specs.Zone.{Zone, IsSet, AreRepeats, IsWildcard, weight}
use Rattle.zone_build.specs.Built.{IsBuilt}
pub use Rattle.zone_build.specs.Built.{IsFirst}
use Rattle.zone_build.specs.declared.fault.ZoneFault.{ZoneFault}
use Rattle.zone_build.specs.declared.fault.ZoneFault.TheVariants as fault

-- there is an SOA
abbrev pub HasSoa : List Record → Type 0
HasSoa given = (one : Record) × Contains given one × (one.kind ≡ soa)

-- all SOA records are repeats
abbrev pub HasOneSoa : List Record → Type 0
HasOneSoa given =
    (one other : Record) → Contains given one → Contains given other → one.kind ≡ soa → other.kind ≡ soa → AreRepeats one other

-- a record is at or below the owner of the SOA
abbrev pub IsInside : List Record → Record → Type 0
IsInside given one = (other : Record) → Contains given other → other.kind ≡ soa → IsBelow one.owner other.owner

-- something else stands where a CNAME stands
abbrev pub Clashes : List Record → Labels → Type 0
Clashes given owner =
    (one : Record) × (other : Record) × Contains given one × Contains given other × AreSame one.owner owner × AreSame other.owner owner
    × (one.kind ≡ cname) × ¬ AreRepeats one other

-- an NS record whose owner is a wildcard
abbrev pub IsWildcardCut : Record → Type 0
IsWildcardCut one = (one.kind ≡ ns) × IsWildcard one.owner

-- the set that a record begins is too large
abbrev pub IsLarge : List Record → Record → Type 0
IsLarge records one = (set : List Record) × IsSet records one.owner one.kind set × (60_000 < weight set)

-- the records pass the tests before each fault
pub record AreInside (given : List Record) : Type 0 where
  pub some : HasSoa given
  pub one : HasOneSoa given
  pub inside : (one : Record) → Contains given one → IsInside given one

pub record AreUnmixed (given : List Record) : Type 0 where
  pub inside : AreInside given
  pub unmixed : (one other : Record) → Contains given one → Contains given other → one.kind ≡ cname → AreSame one.owner other.owner → AreRepeats one other

-- what each fault says: all tests before it are passed, and its own is not
abbrev pub IsZoneFault : List Record → ZoneFault → Type 0
IsZoneFault given fault.NoSoa = ¬ HasSoa given
IsZoneFault given fault.TwoSoa = HasSoa given × ¬ HasOneSoa given
IsZoneFault given (fault.OutOfZone place) =
    HasSoa given × HasOneSoa given × ((one : Record) × IsFirst (λ r. ¬ IsInside given r) given place one)
IsZoneFault given (fault.AliasClash name) =
    AreInside given × ((place : ℕ) × (one : Record) × (name ≡ folded_labels one.owner) × IsFirst (λ r. Clashes given r.owner) given place one)
IsZoneFault given (fault.SetTooLarge name kind) =
    AreUnmixed given
    × ((zone : Zone) × (place : ℕ) × (one : Record) × IsBuilt given zone × (name ≡ one.owner) × (kind ≡ one.kind)
    × IsFirst (IsLarge zone.records) zone.records place one)
IsZoneFault given (fault.WildcardCut name) =
    AreUnmixed given
    × ((zone : Zone) × IsBuilt given zone × ((one : Record) → Contains zone.records one → ¬ IsLarge zone.records one))
    × ((place : ℕ) × (one : Record) × (name ≡ folded_labels one.owner) × IsFirst IsWildcardCut given place one)
IsZoneFault given fault.Memory = ⊤
