-- Laws of zones.
use Rattle.std.specs.Prelude.{◌≡◌, ◌≢◌, ◌⊎◌, List, Contains}
use Rattle.dns_wire.specs.declared.record.Record.{Record}
use Rattle.zone_build.specs.Zone.{Zone, IsPlain, IsValid}
use Rattle.zone_build.specs.Built.{IsBuilt}
use Rattle.zone_build.specs.Faults.{IsZoneFault}
use Rattle.zone_build.specs.declared.fault.ZoneFault.{ZoneFault}
use Rattle.zone_build.specs.declared.fault.ZoneFault.TheVariants as fault

-- records make one zone
abbrev pub RecordsMakeOneZone : Type 0
RecordsMakeOneZone = (given : List Record) (one other : Zone) → IsBuilt given one → IsBuilt given other → one ≡ other

-- records of the class and the kinds of zones make a valid zone or have a fault
abbrev pub RecordsMakeAZoneOrHaveAFault : Type 0
RecordsMakeAZoneOrHaveAFault =
    (given : List Record) → ((one : Record) → Contains given one → IsPlain one)
    → ((zone : Zone) × IsBuilt given zone × IsValid zone) ⊎ ((f : ZoneFault) × (f ≢ fault.Memory) × IsZoneFault given f)

-- records have one fault, but for running out of memory
abbrev pub RecordsHaveOneFault : Type 0
RecordsHaveOneFault =
    (given : List Record) (one other : ZoneFault) → IsZoneFault given one → IsZoneFault given other → one ≢ fault.Memory
    → other ≢ fault.Memory → one ≡ other

-- records that make a valid zone have none
abbrev pub BuiltRecordsHaveNoFault : Type 0
BuiltRecordsHaveNoFault =
    (given : List Record) (zone : Zone) (f : ZoneFault) → IsBuilt given zone → IsValid zone → IsZoneFault given f → f ≡ fault.Memory
