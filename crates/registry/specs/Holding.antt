-- How a registry holds its records but for the SOA: the set of each owner and kind under its key (this project's own).
use Rattle.std.specs.Prelude.{◌≡◌, ℕ, List, [], ◌++◌, ◌∷◌, length}
use Rattle.std.specs.List.{AllByRecursion, flat_map}
use Rattle.std.specs.Cmp.Lexicographic.{slice_cmp}
use Rattle.std.specs.Ordering.{nat_cmp}
use Rattle.std.specs.declared.cmp.Ordering.TheVariants.{Less}
use Rattle.dns_name.specs.Name.{IsName, folded_labels}
use Rattle.naptr_data.specs.Zones.{Labels}
use Rattle.naptr_rule.specs.Rdata.{rdata}
use Rattle.naptr_rule.specs.declared.rule.Naptr.{Naptr}
use Rattle.dns_wire.specs.Kinds.{kind_of, naptr}
use Rattle.dns_wire.specs.Rdata.{rdata_of}
use Rattle.dns_wire.specs.declared.record.Record.{Record}
use Rattle.zone_db.specs.Offering.{RdataRises}
use Rattle.registry.specs.declared.place.Place.{Place}
use Rattle.registry.specs.declared.place.Place.TheVariants as place
use Rattle.registry.specs.declared.set_key.SetKey.{SetKey}

-- a record of that folded owner and that kind
abbrev pub IsOf : Labels → ℕ → Record → Type 0
IsOf owner kind one = (one.owner ≡ owner) × (one.kind ≡ kind)

-- a set as it is held
pub record IsHeld (owner : Labels) (kind : ℕ) (set : List Record) : Type 0 where
  pub each : AllByRecursion (IsOf owner kind) set
  pub rising : RdataRises set

-- a set under its key
pub record IsEntry (entry : SetKey × List Record) : Type 0 where
  pub name : IsName entry.0.owner
  pub folded : folded_labels entry.0.owner ≡ entry.0.owner
  pub set : IsHeld entry.0.owner entry.0.kind entry.1

-- the records of all sets, in the order of keys
abbrev pub records_in : List (SetKey × List Record) → List Record
records_in entries = flat_map (λ e. e.1) entries

-- a part of a list is put in the place of another
pub record IsPut (old new part other : List Record) : Type 0 where
  pub before : List Record
  pub after : List Record
  pub was : old ≡ before ++ (part ++ after)
  pub is : new ≡ before ++ (other ++ after)

-- records of rules
abbrev pub AreRules : List Record → Type 0
AreRules set = AllByRecursion (λ one. kind_of one.content ≡ naptr) set

-- where a rule is in a set of rules, or where it would come
abbrev pub IsPlace : List Record → Naptr → Place → Type 0
IsPlace set rule (place.Taken at) =
    (before : List Record) × (one : Record) × (after : List Record) × (set ≡ before ++ one ∷ after) × (length before ≡ at)
    × (rdata_of one.content ≡ rdata rule)
IsPlace set rule (place.Free at) =
    (before : List Record) × (after : List Record) × (set ≡ before ++ after) × (length before ≡ at)
    × AllByRecursion (λ one. slice_cmp nat_cmp (rdata_of one.content) (rdata rule) ≡ Less) before
    × AllByRecursion (λ one. slice_cmp nat_cmp (rdata rule) (rdata_of one.content) ≡ Less) after

-- the TTL that a record takes after the records of its set, in seconds
abbrev pub ttl_after : List Record → ℕ
ttl_after [] = 3_600
ttl_after (one ∷ set) = one.ttl
