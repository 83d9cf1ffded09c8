-- Provisioning: a registry is a valid zone, and a command changes one record of it or is refused (this project's own; delegations
-- by RFC 1034, section 4.2.1; aliases by RFC 1034, section 3.6.2; sets by RFC 2181, section 5).
use Rattle.std.specs.Prelude.{◌≡◌, ◌⊎◌, ℕ, ◌+◌, ◌<◌, List, ◌∷◌, ◌++◌, length, Contains}
use Rattle.dns_name.specs.Name.{AreSame, IsBelow, folded_labels}
use Rattle.naptr_data.specs.Zones.{Labels}
use Rattle.naptr_rule.specs.Rdata.{rdata}
use Rattle.naptr_rule.specs.declared.rule.Naptr.{Naptr}
use Rattle.dns_wire.specs.Kinds.{cname, naptr, internet, kind_of}
use Rattle.dns_wire.specs.Rdata.{rdata_of}
use Rattle.dns_wire.specs.declared.content.Content.{Content}
use Rattle.dns_wire.specs.declared.content.Content.TheVariants as content
use Rattle.dns_wire.specs.declared.record.Record.{Record}
use Rattle.service_field.specs.Applications.{Meaning}
use Rattle.zone_build.specs.Zone.{Zone, AreOneSet, IsCanonical, IsIn, IsSet, weight}
use Rattle.zone_db.specs.LookUp.{HasKind, IsCut}
use Rattle.rule_check.specs.WellFormed.{IsFirstFault}
use Rattle.registry.specs.declared.fault.RegistryFault.{RegistryFault}
use Rattle.registry.specs.declared.fault.RegistryFault.TheVariants as fault

-- what is asked of a registry: a rule put at an owner, for an application, or taken away; an alias of an owner set or dropped
pub data Command : Type 0 where
  add : Meaning → Labels → Naptr → Command
  remove : Labels → Naptr → Command
  set_alias : Labels → Labels → Command
  drop_alias : Labels → Command

-- a name is not the zone's own: it is not at or below the apex, or it is at or below a cut
abbrev pub IsOutside : Zone → Labels → Type 0
IsOutside zone owner = ¬ IsBelow owner zone.apex ⊎ ((cut : Labels) × IsCut zone cut × IsBelow owner cut)

-- a record of a rule at an owner; rules are told apart by their RDATA
abbrev pub IsRuleAt : Labels → Naptr → Record → Type 0
IsRuleAt owner rule one = IsIn owner naptr one × (rdata_of one.content ≡ rdata rule)

abbrev pub HasRule : Zone → Labels → Naptr → Type 0
HasRule zone owner rule = (one : Record) × Contains zone.records one × IsRuleAt owner rule one

-- a record of any kind stands at an owner
abbrev pub HasRecord : Zone → Labels → Type 0
HasRecord zone owner = (one : Record) × Contains zone.records one × AreSame one.owner owner

-- the rules at an owner would be too large a set with this one
abbrev pub HasNoRoom : Zone → Labels → Naptr → Type 0
HasNoRoom zone owner rule =
    (set : List Record) × IsSet zone.records owner naptr set × (60_000 < weight set + (265 + length (rdata rule)))

-- why a command may be refused
abbrev pub Refuses : Command → Zone → RegistryFault → Type 0
Refuses (add m owner rule) zone (fault.IllFormed why) = IsFirstFault m rule why
Refuses (add m owner rule) zone fault.OutsideZone = IsOutside zone owner
Refuses (add m owner rule) zone fault.Duplicate = HasRule zone owner rule
Refuses (add m owner rule) zone fault.Absent = ⊥
Refuses (add m owner rule) zone fault.AliasClash = HasKind zone owner cname
Refuses (add m owner rule) zone fault.SetTooLarge = HasNoRoom zone owner rule
Refuses (add m owner rule) zone fault.Memory = ⊥
Refuses (remove owner rule) zone (fault.IllFormed why) = ⊥
Refuses (remove owner rule) zone fault.OutsideZone = IsOutside zone owner
Refuses (remove owner rule) zone fault.Duplicate = ⊥
Refuses (remove owner rule) zone fault.Absent = ¬ HasRule zone owner rule
Refuses (remove owner rule) zone fault.AliasClash = ⊥
Refuses (remove owner rule) zone fault.SetTooLarge = ⊥
Refuses (remove owner rule) zone fault.Memory = ⊥
Refuses (set_alias owner target) zone (fault.IllFormed why) = ⊥
Refuses (set_alias owner target) zone fault.OutsideZone = IsOutside zone owner
Refuses (set_alias owner target) zone fault.Duplicate = HasKind zone owner cname
Refuses (set_alias owner target) zone fault.Absent = ⊥
Refuses (set_alias owner target) zone fault.AliasClash = HasRecord zone owner
Refuses (set_alias owner target) zone fault.SetTooLarge = ⊥
Refuses (set_alias owner target) zone fault.Memory = ⊥
Refuses (drop_alias owner) zone (fault.IllFormed why) = ⊥
Refuses (drop_alias owner) zone fault.OutsideZone = IsOutside zone owner
Refuses (drop_alias owner) zone fault.Duplicate = ⊥
Refuses (drop_alias owner) zone fault.Absent = ¬ HasKind zone owner cname
Refuses (drop_alias owner) zone fault.AliasClash = ⊥
Refuses (drop_alias owner) zone fault.SetTooLarge = ⊥
Refuses (drop_alias owner) zone fault.Memory = ⊥

-- the order of refusals
abbrev pub number : RegistryFault → ℕ
number (fault.IllFormed why) = 1
number fault.OutsideZone = 2
number fault.Duplicate = 3
number fault.Absent = 4
number fault.AliasClash = 5
number fault.SetTooLarge = 6
number fault.Memory = 7

-- the first refusal of a command in that order
pub record IsRefusal (command : Command) (zone : Zone) (f : RegistryFault) : Type 0 where
  pub here : Refuses command zone f
  pub first : (earlier : RegistryFault) → number earlier < number f → ¬ Refuses command zone earlier

-- the record that a command makes: its owner folded, with the TTL of its set, or 3,600 seconds where it begins one
pub record IsNew (zone : Zone) (at : Labels) (said : Content) (one : Record) : Type 0 where
  pub owner : one.owner ≡ folded_labels at
  pub kind : one.kind ≡ kind_of said
  pub class : one.class ≡ internet
  pub content : one.content ≡ said
  pub ttl : (other : Record) → Contains zone.records other → AreOneSet one other → one.ttl ≡ other.ttl
  pub first : ((other : Record) → Contains zone.records other → ¬ AreOneSet one other) → one.ttl ≡ 3_600

-- a zone with one record more, at its place in canonical order
pub record IsWith (zone : Zone) (one : Record) (more : Zone) : Type 0 where
  pub before : List Record
  pub after : List Record
  pub apex : more.apex ≡ zone.apex
  pub without : zone.records ≡ before ++ after
  pub with_it : more.records ≡ before ++ one ∷ after
  pub order : IsCanonical more.records

-- what a command makes of a zone
abbrev pub Changes : Command → Zone → Zone → Type 0
Changes (add m owner rule) old new = (one : Record) × IsNew old owner (content.Naptr rule) one × IsWith old one new
Changes (remove owner rule) old new = (one : Record) × IsRuleAt owner rule one × IsWith new one old
Changes (set_alias owner target) old new = (one : Record) × IsNew old owner (content.Cname target) one × IsWith old one new
Changes (drop_alias owner) old new = (one : Record) × IsIn owner cname one × IsWith new one old

-- a command is done: nothing refuses it, and the zone is the one that it makes
pub record IsDone (command : Command) (old new : Zone) : Type 0 where
  pub allowed : (f : RegistryFault) → ¬ Refuses command old f
  pub change : Changes command old new
