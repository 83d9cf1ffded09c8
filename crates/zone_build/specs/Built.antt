-- The zone that given records make (RFC 2181, section 5; which TTL a set takes is this project's own).
use Rattle.std.specs.Prelude.{◌≡◌, ℕ, ◌≤◌, List, ◌∷◌, ◌++◌, length, Contains}
use Rattle.std.specs.List.{AllByRecursion}
use Rattle.dns_name.specs.Name.{folded_labels}
use Rattle.dns_wire.specs.Kinds.{soa}
use Rattle.dns_wire.specs.declared.record.Record.{Record}
use Rattle.zone_build.specs.Zone.{Zone, AreOneSet, AreRepeats, IsCanonical}

-- the first of the records of which something holds
pub record IsFirst (P : Record → Type 0) (given : List Record) (place : ℕ) (one : Record) : Type 0 where
  pub before : List Record
  pub after : List Record
  pub parts : given ≡ before ++ one ∷ after
  pub at : length before ≡ place
  pub here : P one
  pub first : AllByRecursion (λ earlier. ¬ P earlier) before

-- the first given record that is a repeat of one
abbrev pub IsFirstRepeat : List Record → Record → Record → Type 0
IsFirstRepeat given kept one = (place : ℕ) × IsFirst (AreRepeats kept) given place one

-- the least TTL of the set of a record, among all that were given of it
pub record IsLeastTtl (given : List Record) (one : Record) (ttl : ℕ) : Type 0 where
  pub some : (other : Record) × Contains given other × AreOneSet one other × (other.ttl ≡ ttl)
  pub least : (other : Record) → Contains given other → AreOneSet one other → ttl ≤ other.ttl

-- what is kept of a given record: all but its TTL, its owner folded
pub record IsKept (given : List Record) (one kept : Record) : Type 0 where
  pub owner : kept.owner ≡ folded_labels one.owner
  pub kind : kept.kind ≡ one.kind
  pub class : kept.class ≡ one.class
  pub content : kept.content ≡ one.content
  pub ttl : IsLeastTtl given one kept.ttl

-- the zone that the records make: each of its records is kept of the first given one that it repeats, of each given one a repeat is
-- there, all are in canonical order, and the apex is the folded owner of the SOA
pub record IsBuilt (given : List Record) (zone : Zone) : Type 0 where
  pub apex : (one : Record) → Contains given one → one.kind ≡ soa → zone.apex ≡ folded_labels one.owner
  pub kept : (kept : Record) → Contains zone.records kept → (one : Record) × IsFirstRepeat given kept one × IsKept given one kept
  pub all : (one : Record) → Contains given one → (kept : Record) × Contains zone.records kept × AreRepeats one kept
  pub order : IsCanonical zone.records
