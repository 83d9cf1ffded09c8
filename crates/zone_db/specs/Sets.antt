-- Sets of zones, and why a zone does not go into one (this project's own).
use Rattle.std.specs.Prelude.{◌⊎◌, ℕ, ◌+◌, ◌<◌, ◌≤◌, List, [], ◌∷◌, length, sum_by, Contains}
use Rattle.std.specs.List.{AllByRecursion}
use Rattle.dns_name.specs.Name.{AreSame}
use Rattle.naptr_data.specs.Zones.{Labels}
use Rattle.zone_build.specs.Zone.{Zone, IsValid}
use Rattle.zone_db.specs.declared.fault.AddFault.{AddFault}
use Rattle.zone_db.specs.declared.fault.AddFault.TheVariants as add

-- a zone of that apex is among the zones
abbrev pub HoldsApex : List Zone → Labels → Type 0
HoldsApex zones apex = (zone : Zone) × Contains zones zone × AreSame zone.apex apex

-- how many records the zones hold
abbrev pub record_count : List Zone → ℕ
record_count zones = sum_by (λ (zone : Zone). length zone.records) zones

-- a zone does not fit among the zones: there are 64, or there would be more than 400,000 records
abbrev pub IsFull : List Zone → Zone → Type 0
IsFull zones zone = (64 ≤ length zones) ⊎ (400_000 < record_count zones + length zone.records)

-- why a zone is not added
abbrev pub IsAddFault : List Zone → Zone → AddFault → Type 0
IsAddFault zones zone add.SameApex = HoldsApex zones zone.apex
IsAddFault zones zone add.Full = ¬ HoldsApex zones zone.apex × IsFull zones zone
IsAddFault zones zone add.Memory = ¬ HoldsApex zones zone.apex × ¬ IsFull zones zone

-- no two zones have the same apex
abbrev pub AreApart : List Zone → Type 0
AreApart [] = Unit {0}
AreApart (zone ∷ zones) = AllByRecursion (λ (other : Zone). ¬ AreSame other.apex zone.apex) zones × AreApart zones

-- a set of zones: valid ones with distinct apexes, at most 64 with at most 400,000 records
pub record AreZones (zones : List Zone) : Type 0 where
  pub each : AllByRecursion IsValid zones
  pub apart : AreApart zones
  pub few : length zones ≤ 64
  pub records : record_count zones ≤ 400_000
