-- That a text spells one list of items at most, and that case is ignored, as statements (RFC 6116, section 3.4.3;
-- RFC 3958, section 6.5).
use Rattle.std.specs.Prelude.{◌≡◌, ℕ, List, Option, option_map}
use Rattle.enum_base.specs.Folding.{folded}
use Rattle.service_field.specs.Tags.{Item, tags_of}
use Rattle.service_field.specs.Services.{SpellsServices, SpellsSnaptr, SpellsSnaptrWanted, SpellsWanted, services_items}
use Rattle.service_field.specs.Faults.{services_fault, snaptr_fault}
use Rattle.service_field.specs.Fitting.{items_serve, snaptr_serves}

-- a text spells one value at most
abbrev pub IsSingle : {X : Type 0} → (List ℕ → X → Type 0) → Type 0
IsSingle {X} Spells = (text : List ℕ) (one other : X) → Spells text one → Spells text other → one ≡ other

-- ENUM services spell one list of items at most
abbrev pub OneListOfServices : Type 0
OneListOfServices = IsSingle {X = List Item} SpellsServices

-- S-NAPTR services spell one service with its protocols at most
abbrev pub OneService : Type 0
OneService = IsSingle {X = Item} SpellsSnaptr

-- a wanted list of ENUM spells one list of items at most
abbrev pub OneWantedList : Type 0
OneWantedList = IsSingle {X = List Item} SpellsWanted

-- .. and one of S-NAPTR
abbrev pub OneSnaptrList : Type 0
OneSnaptrList = IsSingle {X = List Item} SpellsSnaptrWanted

-- folded services have the same fault
abbrev pub FaultsIgnoreCase : Type 0
FaultsIgnoreCase = (services : List ℕ) → services_fault (folded services) ≡ services_fault services

-- .. those of S-NAPTR too
abbrev pub SnaptrFaultsIgnoreCase : Type 0
SnaptrFaultsIgnoreCase = (services : List ℕ) → snaptr_fault (folded services) ≡ snaptr_fault services

-- folded services serve what the services serve
abbrev pub ServicesIgnoreCase : Type 0
ServicesIgnoreCase =
    (wanted : Option (List ℕ)) (services : List ℕ) → items_serve wanted (services_items (folded services)) ≡ items_serve wanted (services_items services)

-- .. those of S-NAPTR too
abbrev pub SnaptrServicesIgnoreCase : Type 0
SnaptrServicesIgnoreCase =
    (wanted : Option (List ℕ)) (services : List ℕ) → snaptr_serves wanted (tags_of (folded services)) ≡ snaptr_serves wanted (tags_of services)

-- what serves a folded list serves the list
abbrev pub WantedIgnoresCase : Type 0
WantedIgnoresCase = (wanted : Option (List ℕ)) (items : List Item) → items_serve (option_map folded wanted) items ≡ items_serve wanted items

-- .. a list of S-NAPTR too
abbrev pub SnaptrWantedIgnoresCase : Type 0
SnaptrWantedIgnoresCase = (wanted : Option (List ℕ)) (field : Item) → snaptr_serves (option_map folded wanted) field ≡ snaptr_serves wanted field
