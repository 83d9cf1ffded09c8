-- What is found in zones, as a reply can say it (this project's own).
use Rattle.std.specs.Prelude.{◌≡◌, ◌≤◌, List, [], ◌∷◌, ⊤}
use Rattle.std.specs.List.{AllByRecursion}
use Rattle.naptr_data.specs.Zones.{Labels}
use Rattle.dns_wire.specs.declared.content.Content.TheVariants as content
use Rattle.dns_wire.specs.declared.content.Soa.{Soa}
use Rattle.dns_wire.specs.declared.record.Record.{Record}
use Rattle.zone_build.specs.Zone.{weight}
use Rattle.zone_db.specs.declared.found.Found.{Found}
use Rattle.zone_db.specs.declared.found.Found.TheVariants as found

-- a record tells a server
abbrev pub TellsServer : Record → Type 0
TellsServer one = (server : Labels) × (one.content ≡ content.Ns server)

-- a record is an SOA
abbrev pub TellsSoa : Record → Type 0
TellsSoa one = (soa : Soa) × (one.content ≡ content.Soa soa)

-- a set is one CNAME with that target
abbrev pub IsAliasOf : List Record → Labels → Type 0
IsAliasOf set target = (one : Record) × (set ≡ one ∷ []) × (one.content ≡ content.Cname target)

-- a set that was found is not large, and its records are what they are looked up for
abbrev pub IsReady : Found → Type 0
IsReady found.Outside = ⊤
IsReady (found.Cut set) = AllByRecursion TellsServer set.now × (weight set.now ≤ 60_000)
IsReady (found.Alias set) = (target : Labels) × IsAliasOf set.now target
IsReady (found.Set set) = weight set.now ≤ 60_000
IsReady (found.NoSet the_soa) = TellsSoa the_soa.now
IsReady (found.NoName the_soa) = TellsSoa the_soa.now
