-- Laws of zones and what they offer.
use Rattle.std.specs.Prelude.{◌≡◌, List, Contains}
use Rattle.std.specs.declared.cmp.Ordering.TheVariants.{Equal}
use Rattle.dns_name.specs.Name.{AreSame, folded_labels}
use Rattle.naptr_rule.specs.declared.rule.Naptr.{Naptr}
use Rattle.naptr_rule.specs.Rdata.{IsRule}
use Rattle.naptr_rule.specs.Rank.{rank_of}
use Rattle.naptr_data.specs.Zones.{Labels, Zone, HasItem, IsOffer}
use Rattle.naptr_data.specs.Zones.Item.{rule}
use Rattle.naptr_data.specs.declared.offer.Offer.{Offer}

-- zones offer one thing for a name
abbrev pub ZonesMakeOneOffer : Type 0
ZonesMakeOneOffer = (zones : List Zone) (name : Labels) (one other : Offer) → IsOffer zones name one → IsOffer zones name other → one ≡ other

-- rules that stand at one name of a zone and rank equal are one rule
abbrev pub RulesAreApart : List Zone → Type 0
RulesAreApart zones =
    (zone : Zone) (name : Labels) (one other : Naptr) → Contains zones zone → HasItem zone.items name (rule one) → HasItem zone.items name (rule other)
    → rank_of one other ≡ Equal → one ≡ other

-- zones with such rules offer something for every name
abbrev pub ApartZonesMakeAnOffer : Type 0
ApartZonesMakeAnOffer = (zones : List Zone) (name : Labels) → RulesAreApart zones → (o : Offer) × IsOffer zones name o

-- each rule of the zones is one by the ranges of its fields
abbrev pub HoldRules : List Zone → Type 0
HoldRules zones =
    (zone : Zone) (owner : Labels) (r : Naptr) → Contains zones zone → Contains zone.items (record { owner = owner; item = rule r }) → IsRule r

-- such zones offer something for every name
abbrev pub ZonesMakeAnOffer : Type 0
ZonesMakeAnOffer = (zones : List Zone) (name : Labels) → HoldRules zones → (o : Offer) × IsOffer zones name o

-- names that are the same are offered the same
abbrev pub SameNamesHaveSameOffers : Type 0
SameNamesHaveSameOffers = (zones : List Zone) (one other : Labels) (o : Offer) → AreSame one other → IsOffer zones one o → IsOffer zones other o

-- a name is offered what its folded form is
abbrev pub FoldedNamesHaveSameOffers : Type 0
FoldedNamesHaveSameOffers = (zones : List Zone) (name : Labels) (o : Offer) → IsOffer zones name o → IsOffer zones (folded_labels name) o
