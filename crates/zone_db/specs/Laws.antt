-- Laws of sets of zones, and of look-up in them.
use Rattle.std.specs.Prelude.{◌≡◌, ◌≢◌, ◌⊎◌, ℕ, List}
use Rattle.std.specs.List.{AllByRecursion}
use Rattle.naptr_data.specs.Laws.{RulesAreApart}
use Rattle.naptr_data.specs.Zones.{Labels, IsOffer}
use Rattle.naptr_data.specs.declared.offer.Offer.{Offer}
use Rattle.dns_wire.specs.Kinds.{naptr}
use Rattle.zone_build.specs.Zone.{Zone, IsValid}
use Rattle.zone_db.specs.Sets.{AreZones, HoldsApex, IsFull, IsAddFault}
use Rattle.zone_build.specs.Plain.{told}
use Rattle.zone_db.specs.LookUp.{IsFound, shown, ReadsAs}
use Rattle.zone_db.specs.Offering.{IsReadable}
use Rattle.zone_db.specs.declared.fault.AddFault.{AddFault}
use Rattle.zone_db.specs.declared.fault.AddFault.TheVariants as add
use Rattle.zone_db.specs.declared.found.Found.{Found}

-- a zone has one fault by which it does not go into a set
abbrev pub ZonesHaveOneAddFault : Type 0
ZonesHaveOneAddFault =
    (zones : List Zone) (zone : Zone) (one other : AddFault) → IsAddFault zones zone one → IsAddFault zones zone other → one ≡ other

-- a zone fits into a set, or has one
abbrev pub ZonesFitOrHaveAnAddFault : Type 0
ZonesFitOrHaveAnAddFault =
    (zones : List Zone) (zone : Zone)
    → (¬ HoldsApex zones zone.apex × ¬ IsFull zones zone) ⊎ ((f : AddFault) × (f ≢ add.Memory) × IsAddFault zones zone f)

-- a zone that fits has none but that memory runs out
abbrev pub FittingZonesHaveNoAddFault : Type 0
FittingZonesHaveNoAddFault =
    (zones : List Zone) (zone : Zone) (f : AddFault) → ¬ HoldsApex zones zone.apex → ¬ IsFull zones zone → IsAddFault zones zone f
    → f ≡ add.Memory

-- zones show one answer for a name and a kind
abbrev pub ZonesShowOneAnswer : Type 0
ZonesShowOneAnswer =
    (zones : List Zone) (name : Labels) (kind : ℕ) (one other : Found) → AreZones zones → IsFound zones name kind one
    → IsFound zones name kind other → shown one ≡ shown other

-- and there is one for every name and kind
abbrev pub ZonesShowAnAnswer : Type 0
ZonesShowAnAnswer = (zones : List Zone) (name : Labels) (kind : ℕ) → AreZones zones → (found : Found) × IsFound zones name kind found

-- what is read as an offer from what is found for NAPTR records is what the zones offer as they are told
abbrev pub FoundIsOffered : Type 0
FoundIsOffered =
    (zones : List Zone) (name : Labels) (found : Found) (o : Offer) → AreZones zones → IsFound zones name naptr found → ReadsAs found o
    → IsOffer (told zones) name o

-- an alias that is found is one CNAME, and a set that is found is not large
abbrev pub FoundIsReadable : Type 0
FoundIsReadable = (zones : List Zone) (name : Labels) (kind : ℕ) (found : Found) → AreZones zones → IsFound zones name kind found → IsReadable found

-- rules that stand at one name of a valid zone and rank equal are one rule
abbrev pub ToldRulesAreApart : Type 0
ToldRulesAreApart = (zones : List Zone) → AllByRecursion IsValid zones → RulesAreApart (told zones)
