-- The steps of a look-up at a name, for private functions but for `IsLeastKindAt` (this project's own).
use Rattle.std.specs.Prelude.{◌≡◌, ℕ, ◌<◌, ◌≤◌, ◌&&◌, nat_lt, if◌then◌else◌, Bool, List, Contains, Option, Some, None}
use Rattle.dns_name.specs.Name.{AreSame}
use Rattle.naptr_data.specs.Zones.{Labels}
use Rattle.dns_wire.specs.Kinds.{soa}
use Rattle.dns_wire.specs.declared.record.Record.{Record}
use Rattle.zone_build.specs.Indexing.{kind_at}
use Rattle.zone_build.specs.declared.index.Places.{Places}

-- among the records at some places those before this one have lesser kinds, and the others have not
pub record IsKindStart (records : List Record) (places : Places) (kind at : ℕ) : Type 0 where
  pub from : places.first ≤ at
  pub to : at ≤ places.end
  pub less : (k : ℕ) → places.first ≤ k → k < at → kind_at records k < kind
  pub not_less : (k : ℕ) → at ≤ k → k < places.end → kind ≤ kind_at records k

-- the lesser of a kind and that of the SOA, where it is there too
abbrev pub least_kind_with : Bool → ℕ → ℕ
least_kind_with is_apex kind = if is_apex && nat_lt soa kind then soa else kind

-- the least kind of the records at an owner, where there are any
abbrev pub IsLeastKindAt : List Record → Labels → Option ℕ → Type 0
IsLeastKindAt records owner None = (one : Record) → Contains records one → ¬ AreSame one.owner owner
IsLeastKindAt records owner (Some kind) =
    ((one : Record) × Contains records one × AreSame one.owner owner × (one.kind ≡ kind))
    × ((one : Record) → Contains records one → AreSame one.owner owner → kind ≤ one.kind)
