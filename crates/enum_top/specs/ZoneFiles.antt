-- The zones of the files that the words name (this project's own; what a zone text says is in `zone_text`, what zones
-- are in `zone_db`).
use Rattle.std.specs.Prelude.{◌≡◌, ◌≢◌, ◌⊎◌, ℕ, List, [], ◌∷◌, ◌++◌, Option, Some, None, Result, Ok, Err}
use Rattle.dns_wire.specs.declared.record.Record.{Record}
use Rattle.enum_base.specs.Outside.{File, file_of}
use Rattle.request_words.specs.Words.{text_at}
use Rattle.zone_text.specs.Zone.{ZoneBreaks, ZoneSays}
use Rattle.zone_text.specs.declared.fault.TextFault.{TextFault}
use Rattle.zone_build.specs.Built.{IsBuilt}
use Rattle.zone_build.specs.Faults.{IsZoneFault}
use Rattle.zone_db.specs.Sets.{HoldsApex, IsAddFault, IsFull}
use Rattle.zone_build.specs.Zone.{IsValid, Zone}
use Rattle.zone_db.specs.declared.fault.AddFault.{AddFault}
use Rattle.zone_db.specs.declared.fault.AddFault.TheVariants as add
use Rattle.zone_build.specs.declared.fault.ZoneFault.{ZoneFault}
use Rattle.zone_build.specs.declared.fault.ZoneFault.TheVariants as fault
use Rattle.enum_base.specs.Stages.{Then}
use Rattle.enum_top.specs.declared.cause.Cause.{Cause}
use Rattle.enum_top.specs.declared.cause.Cause.TheVariants as cause

-- the bytes of the file whose name stands at a place among the words
abbrev pub found : ℕ → Option (List ℕ) → Result (List ℕ) Cause
found place None = Err (cause.Absent place)
found place (Some bytes) = Ok bytes

-- .. of a shelf; one that does not tell its files has any bytes under a name, or none
abbrev pub Files : Option (List File) → List (List ℕ) → ℕ → Result (List ℕ) Cause → Type 0
Files (Some files) words place result = result ≡ found place (file_of files (text_at words place))
Files None words place result = (held : Option (List ℕ)) × (result ≡ found place held)

-- the records of a zone text, with the root as origin, or its first fault
abbrev pub Texts : ℕ → List ℕ → Result (List Record) Cause → Type 0
Texts place bytes result =
    ((records : List Record) × ZoneSays bytes [] records × (result ≡ Ok records))
    ⊎ ((broken : TextFault) × ZoneBreaks bytes [] broken.line broken.why × (result ≡ Err (cause.Text place broken)))

-- .. of a file
abbrev pub TextAt : Option (List File) → List (List ℕ) → ℕ → Result (List Record) Cause → Type 0
TextAt files words place = Then (Files files words place) (Texts place)

-- the zone that records make, or why they make none
abbrev pub Builds : ℕ → List Record → Result Zone Cause → Type 0
Builds place records result =
    ((zone : Zone) × IsBuilt records zone × IsValid zone × (result ≡ Ok zone))
    ⊎ ((unbuilt : ZoneFault) × IsZoneFault records unbuilt × (unbuilt ≢ fault.Memory) × (result ≡ Err (cause.Zone place unbuilt)))

-- .. the records of a file
abbrev pub ZoneAt : Option (List File) → List (List ℕ) → ℕ → Result Zone Cause → Type 0
ZoneAt files words place = Then (TextAt files words place) (Builds place)

-- a zone goes after others, or does not
abbrev pub Adds : ℕ → List Zone → Zone → Result (List Zone) Cause → Type 0
Adds place zones zone result =
    ((¬ HoldsApex zones zone.apex) × (¬ IsFull zones zone) × (result ≡ Ok (zones ++ zone ∷ [])))
    ⊎ ((unadded : AddFault) × IsAddFault zones zone unadded × (unadded ≢ add.Memory) × (result ≡ Err (cause.Set place unadded)))

-- the zone of one file more, after some zones
abbrev pub NextZone : Option (List File) → List (List ℕ) → List Zone → ℕ → Result (List Zone) Cause → Type 0
NextZone files words zones place = Then (ZoneAt files words place) (Adds place zones)

-- the zones of files, one file after another, after some zones
abbrev pub ZonesFrom : Option (List File) → List (List ℕ) → List Zone → List ℕ → Result (List Zone) Cause → Type 0
ZonesFrom files words zones [] result = result ≡ Ok zones
ZonesFrom files words zones (place ∷ places) result =
    Then (NextZone files words zones place) (λ more. ZonesFrom files words more places) result

-- the zones of the files whose names stand at these places among the words
abbrev pub ZonesOf : Option (List File) → List (List ℕ) → List ℕ → Result (List Zone) Cause → Type 0
ZonesOf files words places = ZonesFrom files words [] places
