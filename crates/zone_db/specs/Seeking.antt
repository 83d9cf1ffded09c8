-- The steps of a look-up in one zone, for private functions alone (this project's own).
use Rattle.std.specs.Prelude.{◌≡◌, ◌⊎◌, ℕ, ◌≤◌, List, Contains, Option, Some, None}
use Rattle.dns_name.specs.Name.{AreSame, IsBelow}
use Rattle.naptr_data.specs.Zones.{Labels, Exists, Encloses, IsSource}
use Rattle.dns_wire.specs.Kinds.{ns, cname}
use Rattle.dns_wire.specs.declared.record.Record.{Record}
use Rattle.zone_build.specs.Zone.{Zone, IsIn, IsSet}
use Rattle.zone_build.specs.Plain.{plain_of}
use Rattle.zone_db.specs.LookUp.{IsCut, IsHighestCut, HasKind, AsksFor, MeetsAlias, IsAnswered, IsSoaOf}
use Rattle.zone_db.specs.declared.found.Found.{Found}
use Rattle.zone_db.specs.declared.found.Found.TheVariants as found

-- the longest existing name at or above one
abbrev pub IsClosest : Zone → Labels → Labels → Type 0
IsClosest zone name closest =
    Exists (plain_of zone) closest
    × ((closest ≡ name) ⊎ (¬ Exists (plain_of zone) name × Encloses (plain_of zone) name closest))

-- an NS record below the apex and at or above a name
abbrev pub CutsOff : Labels → Labels → Record → Type 0
CutsOff apex name one = (one.kind ≡ ns) × ¬ AreSame one.owner apex × IsBelow name one.owner

-- an NS record at a name, where there is one
abbrev pub IsNsAt : List Record → Labels → Option Record → Type 0
IsNsAt records name None = (one : Record) → Contains records one → ¬ IsIn name ns one
IsNsAt records name (Some one) = Contains records one × IsIn name ns one

-- the highest of some records that cut a name off, where one does
abbrev pub IsHighest : List Record → Labels → Labels → Option Record → Type 0
IsHighest records apex name None = (one : Record) → Contains records one → ¬ CutsOff apex name one
IsHighest records apex name (Some cut) =
    Contains records cut × CutsOff apex name cut × ((one : Record) → Contains records one → CutsOff apex name one → IsBelow one.owner cut.owner)

-- the least kind of the records at a name that answer a question, where one does
abbrev pub IsLeastKind : List Record → Labels → ℕ → Option ℕ → Type 0
IsLeastKind records source asked None = (one : Record) → Contains records one → AreSame one.owner source → ¬ AsksFor asked one.kind
IsLeastKind records source asked (Some kind) =
    ((one : Record) × Contains records one × AreSame one.owner source × (one.kind ≡ kind) × AsksFor asked kind)
    × ((one : Record) → Contains records one → AreSame one.owner source → AsksFor asked one.kind → kind ≤ one.kind)

-- what is answered at a source
abbrev pub IsAnswer : Zone → Labels → ℕ → Found → Type 0
IsAnswer zone source asked found.Outside = ⊥
IsAnswer zone source asked (found.Cut set) = ⊥
IsAnswer zone source asked (found.NoName the_soa) = ⊥
IsAnswer zone source asked (found.Alias set) = MeetsAlias zone source asked × IsSet zone.records source cname set.now
IsAnswer zone source asked (found.Set set) =
    (kind : ℕ) × ¬ MeetsAlias zone source asked × IsAnswered zone source asked kind × IsSet zone.records source kind set.now
IsAnswer zone source asked (found.NoSet the_soa) =
    ¬ MeetsAlias zone source asked × ((kind : ℕ) → HasKind zone source kind → ¬ AsksFor asked kind) × IsSoaOf zone the_soa.now

-- no cut is at or above a name
abbrev pub IsUncut : Zone → Labels → Type 0
IsUncut zone name = (owner : Labels) → IsCut zone owner → ¬ IsBelow name owner

-- what is found in a zone for a name at or below its apex
abbrev pub IsFoundIn : Zone → Labels → ℕ → Found → Type 0
IsFoundIn zone name asked found.Outside = ⊥
IsFoundIn zone name asked (found.Cut set) = (owner : Labels) × IsHighestCut zone name owner × IsSet zone.records owner ns set.now
IsFoundIn zone name asked (found.NoName the_soa) =
    (source : Labels) × IsUncut zone name × IsSource (plain_of zone) name source × ¬ Exists (plain_of zone) source × IsSoaOf zone the_soa.now
IsFoundIn zone name asked (found.Alias set) =
    (source : Labels) × IsUncut zone name × IsSource (plain_of zone) name source × IsAnswer zone source asked (found.Alias set)
IsFoundIn zone name asked (found.Set set) =
    (source : Labels) × IsUncut zone name × IsSource (plain_of zone) name source × IsAnswer zone source asked (found.Set set)
IsFoundIn zone name asked (found.NoSet the_soa) =
    (source : Labels) × IsUncut zone name × IsSource (plain_of zone) name source × Exists (plain_of zone) source
    × IsAnswer zone source asked (found.NoSet the_soa)
