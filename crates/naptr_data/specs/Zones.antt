-- Zones as a source of rules tells them, and what they offer for a name (RFC 1034, sections 4.2.1 and 4.3.2; RFC 4592).
-- Names are compared without regard to case (RFC 4343).
use Rattle.std.specs.Prelude.{◌≡◌, ◌↔◌, ◌⊎◌, ℕ, ◌+◌, ◌<◌, ◌≤◌, List, [], ◌∷◌, ◌++◌, length, Contains}
use Rattle.std.specs.declared.cmp.Ordering.TheVariants.{Less}
use Rattle.std.specs.List.{AllByRecursion}
use Rattle.dns_name.specs.Name.{AreSame, IsBelow}
pub use Rattle.dns_name.specs.Name.{Labels, star}
use Rattle.naptr_rule.specs.Rank.{rank_of}
use Rattle.naptr_data.specs.declared.offer.Offer.{Offer}
use Rattle.naptr_data.specs.declared.offer.Offer.TheVariants as offer
use Rattle.naptr_rule.specs.declared.rule.Naptr.{Naptr}

-- what stands at an owner: a rule, a CNAME with the name that it stands for, an NS record, or another record
pub data Item : Type 0 where
  rule : Naptr → Item
  alias : Labels → Item
  delegation : Item
  other : Item

pub record Owned : Type 0 where
  pub owner : Labels
  pub item : Item

-- a zone is its apex and what stands at its owners
pub record Zone : Type 0 where
  pub apex : Labels
  pub items : List Owned

-- the zone that decides of a name: the first of those with the longest apex at or above it (RFC 1034, 4.3.2, step 2)
pub record Decides (zones : List Zone) (name : Labels) (zone : Zone) : Type 0 where
  pub before : List Zone
  pub after : List Zone
  pub parts : zones ≡ before ++ zone ∷ after
  pub above : IsBelow name zone.apex
  pub longer : (z : Zone) → Contains before z → IsBelow name z.apex → length z.apex < length zone.apex
  pub longest : (z : Zone) → Contains after z → IsBelow name z.apex → length z.apex ≤ length zone.apex

-- no zone serves the name
abbrev pub NoneServes : List Zone → Labels → Type 0
NoneServes zones name = (z : Zone) → Contains zones z → ¬ IsBelow name z.apex

-- the name is at or below a delegation that is below the apex (RFC 1034, 4.2.1)
abbrev pub IsDelegated : Zone → Labels → Type 0
IsDelegated zone name =
    (owner : Labels) × Contains zone.items (record { owner = owner; item = delegation }) × IsBelow name owner
    × IsBelow owner zone.apex × ¬ AreSame owner zone.apex

-- a name exists where it is the apex, or something stands at or below it (RFC 4592, 2.2.2)
abbrev pub Exists : Zone → Labels → Type 0
Exists zone name = AreSame name zone.apex ⊎ ((o : Owned) × Contains zone.items o × IsBelow o.owner name)

-- the closest encloser: the longest existing name of the zone above one that does not exist (RFC 4592, 3.3.1)
pub record Encloses (zone : Zone) (name encloser : Labels) : Type 0 where
  pub label : List ℕ
  pub front : List (List ℕ)
  pub parts : name ≡ front ++ label ∷ encloser
  pub inside : IsBelow encloser zone.apex
  pub exists : Exists zone encloser
  pub closest : ¬ Exists zone (label ∷ encloser)

-- whose items a name has: its own where it exists, else those of `*.` before its closest encloser (RFC 4592, 3.3.1)
abbrev pub IsSource : Zone → Labels → Labels → Type 0
IsSource zone name source =
    (Exists zone name × (source ≡ name))
    ⊎ (¬ Exists zone name × ((encloser : Labels) × Encloses zone name encloser × (source ≡ star ∷ encloser)))

-- an item stands at a name
abbrev pub HasItem : List Owned → Labels → Item → Type 0
HasItem items name item = (owner : Labels) × Contains items (record { owner = owner; item = item }) × AreSame owner name

-- the first CNAME at a name
pub record IsFirstAlias (items : List Owned) (name target : Labels) : Type 0 where
  pub owner : Labels
  pub before : List Owned
  pub after : List Owned
  pub parts : items ≡ before ++ (record { owner = owner; item = alias target }) ∷ after
  pub here : AreSame owner name
  pub first : (earlier : Labels) → ¬ HasItem before name (alias earlier)

-- each rule ranks before all after it
abbrev pub IsRising : List Naptr → Type 0
IsRising [] = Unit {0}
IsRising (one ∷ rest) = AllByRecursion (λ next. rank_of one next ≡ Less) rest × IsRising rest

-- the rules at a name that has no CNAME: each once, in their order
pub record AreRules (items : List Owned) (name : Labels) (rules : List Naptr) : Type 0 where
  pub none : (target : Labels) → ¬ HasItem items name (alias target)
  pub each : (r : Naptr) → Contains rules r ↔ HasItem items name (rule r)
  pub rising : IsRising rules

-- a zone serves the name, which no delegation takes from it, and its items are those of this source
abbrev pub IsServed : List Zone → Labels → Zone → Labels → Type 0
IsServed zones name zone source = Decides zones name zone × ¬ IsDelegated zone name × IsSource zone name source

-- what the zones offer for a name
abbrev pub IsOffer : List Zone → Labels → Offer → Type 0
IsOffer zones name offer.Unserved =
    NoneServes zones name ⊎ ((zone : Zone) × Decides zones name zone × IsDelegated zone name)
IsOffer zones name (offer.Alias target) =
    (zone : Zone) × (source : Labels) × IsServed zones name zone source × IsFirstAlias zone.items source target
IsOffer zones name (offer.Rules rules) =
    (zone : Zone) × (source : Labels) × IsServed zones name zone source × AreRules zone.items source rules

-- how many rules and aliases the zones hold
abbrev pub holds_one : Item → ℕ
holds_one (rule r) = 1
holds_one (alias target) = 1
holds_one delegation = 0
holds_one other = 0

abbrev pub rules_and_aliases_in : List Owned → ℕ
rules_and_aliases_in [] = 0
rules_and_aliases_in (o ∷ items) = holds_one o.item + rules_and_aliases_in items

abbrev pub rules_and_aliases : List Zone → ℕ
rules_and_aliases [] = 0
rules_and_aliases (zone ∷ zones) = rules_and_aliases_in zone.items + rules_and_aliases zones
