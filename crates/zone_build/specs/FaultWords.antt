-- How the faults of zones are printed (this project's own).
use Rattle.std.specs.Prelude.{ℕ, List, ◌++◌, codes, decimal}
use Rattle.dns_name.specs.Text.{text_of}
use Rattle.naptr_data.specs.Zones.{Labels}
use Rattle.enum_base.specs.Words.{fault_at}
use Rattle.zone_build.specs.declared.fault.ZoneFault.{ZoneFault}
use Rattle.zone_build.specs.declared.fault.ZoneFault.TheVariants as fault

-- a fault by its name, and the name of an owner
abbrev pub fault_of : List ℕ → Labels → List ℕ
fault_of said owner = said ++ codes " " ++ text_of owner

-- a set that is too large, by its owner and its kind
abbrev pub set_fault : Labels → ℕ → List ℕ
set_fault owner kind = fault_of (codes "SetTooLarge") owner ++ codes " " ++ decimal kind

-- the name of a fault and its fields
abbrev pub zone_fault : ZoneFault → List ℕ
zone_fault fault.NoSoa = codes "NoSoa"
zone_fault fault.TwoSoa = codes "TwoSoa"
zone_fault (fault.OutOfZone place) = fault_at (codes "OutOfZone") place
zone_fault (fault.AliasClash name) = fault_of (codes "AliasClash") name
zone_fault (fault.SetTooLarge name kind) = set_fault name kind
zone_fault (fault.WildcardCut name) = fault_of (codes "WildcardCut") name
zone_fault fault.Memory = codes "Memory"
