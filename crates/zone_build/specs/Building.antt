-- The steps from given records to a zone, for private functions alone (this project's own).
use Rattle.std.specs.Prelude.{◌≡◌, ◌≢◌, ℕ, zero, suc, ◌+◌, ◌*◌, ◌<◌, ◌≤◌, nat_lt, Bool, true, false, ◌==◌, ◌&&◌}
use Rattle.std.specs.Prelude.{if◌then◌else◌, List, [], ◌∷◌, ◌++◌, length, take, drop, slice_index_or, map, Contains}
use Rattle.std.specs.Prelude.{Option, Some, None}
use Rattle.std.specs.declared.cmp.Ordering.{Ordering}
use Rattle.std.specs.declared.cmp.Ordering.TheVariants.{Less, Greater}
use Rattle.std.specs.Ordering.{nat_cmp, ordering_then}
use Rattle.std.specs.List.{AllByRecursion}
use Rattle.dns_name.specs.Name.{AreSame, IsName, folded_labels, wire_of}
use Rattle.enum_base.specs.Folding.{folded}
use Rattle.dns_wire.specs.Rdata.{rdata_of}
use Rattle.dns_wire.specs.Kinds.{cname, soa}
use Rattle.dns_wire.specs.declared.content.Content.{Content}
use Rattle.dns_wire.specs.declared.content.Content.TheVariants as content
use Rattle.dns_wire.specs.declared.record.Record.{Record}
use Rattle.zone_build.specs.Zone.{AreOneSet, AreRepeats, IsPlain, IsRising, owner_order, order_of}
use Rattle.zone_build.specs.Faults.{AreUnmixed, IsFirst, IsLarge, IsWildcardCut}
use Rattle.naptr_data.specs.Zones.{Labels}
use Rattle.zone_build.specs.declared.fault.ZoneFault.{ZoneFault}
use Rattle.zone_build.specs.declared.fault.ZoneFault.TheVariants as fault
use Rattle.zone_build.specs.declared.keep.Keep.{Keep}
use Rattle.zone_build.specs.declared.entry.Key.{Key}
use Rattle.zone_build.specs.declared.entry.Key.TheVariants.{Owner, Set, Whole}

-- a given record, and its place in the list
pub record Given : Type 0 where
  pub place : ℕ
  pub given : Record

-- the records with their places, from one place on
abbrev pub givens_from : ℕ → List Record → List Given
givens_from place [] = []
givens_from place (one ∷ rest) = record { place = place; given = one } ∷ givens_from (place + 1) rest

-- the number that so many first bytes make, the first of them the greatest; a byte that is missing counts as zero
unfoldable pub front_of : ℕ → List ℕ → ℕ
front_of zero bytes = 0
front_of (suc more) bytes = 256 * front_of more bytes + slice_index_or bytes more 0

-- the RDATA of content other than a rule; rules are compared by their fields
abbrev pub compared_bytes : Content → List ℕ
compared_bytes (content.Naptr rule) = []
compared_bytes said = rdata_of said

-- what an entry holds of its record: the kind, the TTL, the number that the folded owner begins with, and the RDATA unless
-- it is a rule
pub record AreKeys (given : Record) (kind ttl front : ℕ) (rdata : List ℕ) : Type 0 where
  pub plain : IsPlain given
  pub name : IsName given.owner
  pub of_kind : kind ≡ given.kind
  pub of_ttl : ttl ≡ given.ttl
  pub bytes : (at : ℕ) → at < 16 → slice_index_or (folded (wire_of given.owner)) at 0 < 256
  pub of_owner : front ≡ front_of 16 (folded (wire_of given.owner))
  pub of_content : rdata ≡ compared_bytes given.content

-- the order of records by owner, by owner and kind, or whole
abbrev pub key_order : Key → Record → Record → Ordering
key_order Owner one other = owner_order one other
key_order Set one other = ordering_then (owner_order one other) (nat_cmp one.kind other.kind)
key_order Whole one other = order_of one other

-- two records have one owner, are of one set, or are repeats
abbrev pub AreAlike : Key → Record → Record → Type 0
AreAlike Owner one other = AreSame one.owner other.owner
AreAlike Set one other = AreOneSet one other
AreAlike Whole one other = AreRepeats one other

-- no record comes after one that it precedes
abbrev pub IsOrdered : List Given → Type 0
IsOrdered [] = Unit {0}
IsOrdered (one ∷ rest) = AllByRecursion (λ next. order_of one.given next.given ≢ Greater) rest × IsOrdered rest

-- the order of entries: that of their records, and of repeats that of their places
abbrev pub entry_order : Given → Given → Ordering
entry_order one other = ordering_then (order_of one.given other.given) (nat_cmp one.place other.place)

-- of repeats the one with the lesser place comes first
abbrev pub IsStable : List Given → Type 0
IsStable [] = Unit {0}
IsStable (one ∷ rest) = AllByRecursion (λ next. AreRepeats one.given next.given → one.place ≤ next.place) rest × IsStable rest

-- so many in front are alike, and all after them come later
pub record IsRun (key : Key) (all : List Given) (size : ℕ) : Type 0 where
  pub some : 0 < size
  pub within : size ≤ length all
  pub here : (one other : Given) → Contains (take size all) one → Contains (take size all) other → AreAlike key one.given other.given
  pub later : (one other : Given) → Contains (take size all) one → Contains (drop size all) other → key_order key one.given other.given ≡ Less

-- the least TTL of some records
pub record IsLeast (all : List Given) (ttl : ℕ) : Type 0 where
  pub some : (one : Given) × Contains all one × (one.given.ttl ≡ ttl)
  pub least : (one : Given) → Contains all one → ttl ≤ one.given.ttl

-- what is kept of a given record, with that TTL
pub record IsCopy (least : ℕ) (one : Given) (kept : Record) : Type 0 where
  pub owner : kept.owner ≡ folded_labels one.given.owner
  pub kind : kept.kind ≡ one.given.kind
  pub class : kept.class ≡ one.given.class
  pub content : kept.content ≡ one.given.content
  pub ttl : kept.ttl ≡ least

-- no repeat of a given record has a lesser place
abbrev pub IsEarliest : List Given → Given → Type 0
IsEarliest all one = (other : Given) → Contains all other → AreRepeats one.given other.given → one.place ≤ other.place

-- what is kept of a given record that no repeat precedes, with that TTL
abbrev pub IsFirstCopy : List Given → ℕ → Given → Record → Type 0
IsFirstCopy all least one kept = IsEarliest all one × IsCopy least one kept

-- records that are kept of those of all of which P holds: each of one of them as R says, and of each of them a repeat
pub record AreMerged (P : Given → Type 0) (R : Given → Record → Type 0) (all : List Given) (kept : List Record) : Type 0 where
  pub from : (one : Record) → Contains kept one → (e : Given) × Contains all e × P e × R e one
  pub each : (e : Given) → Contains all e → P e → (one : Record) × Contains kept one × AreRepeats e.given one
  pub rising : IsRising kept

-- is it an SOA that a zone begins with
abbrev pub IsSoaAs : Bool → Given → Type 0
IsSoaAs as_soa e = (e.given.kind == soa) ≡ as_soa

-- something else stands where a CNAME stands
abbrev pub AreMixed : List Given → Type 0
AreMixed all = (one : Given) × (other : Given) × Contains all one × Contains all other × (one.given.kind ≡ cname) × ¬ AreRepeats one.given other.given

-- the owner of a record has a CNAME beside something else
abbrev pub IsMixedAt : List Given → Given → Type 0
IsMixedAt all e =
    (one : Given) × (other : Given) × Contains all one × Contains all other × AreSame one.given.owner e.given.owner
    × AreSame other.given.owner e.given.owner × (one.given.kind ≡ cname) × ¬ AreRepeats one.given other.given

-- the least place of a record whose owner is mixed, where there is one
abbrev pub IsFirstMixed : List Given → Option ℕ → Type 0
IsFirstMixed all None = (e : Given) → Contains all e → ¬ IsMixedAt all e
IsFirstMixed all (Some place) =
    ((e : Given) × Contains all e × IsMixedAt all e × (e.place ≡ place)) × ((e : Given) → Contains all e → IsMixedAt all e → place ≤ e.place)

-- the least TTL of the set of a record
pub record IsSetTtl (all : List Given) (one : Given) (ttl : ℕ) : Type 0 where
  pub some : (other : Given) × Contains all other × AreOneSet one.given other.given × (other.given.ttl ≡ ttl)
  pub least : (other : Given) → Contains all other → AreOneSet one.given other.given → ttl ≤ other.given.ttl

-- what is kept of a given record that no repeat precedes, with the least TTL of its set
abbrev pub IsKeptOf : List Given → Given → Record → Type 0
IsKeptOf all e kept = (ttl : ℕ) × IsSetTtl all e ttl × IsCopy ttl e kept × IsEarliest all e

-- a given record that is kept, with this TTL
pub record Chosen : Type 0 where
  pub from : Given
  pub ttl : ℕ

-- where it stands, and its TTL
abbrev pub keep_of : Chosen → Keep
keep_of one = record { place = one.from.place; ttl = one.ttl }

-- a record with its owner folded, and with that TTL
abbrev pub settled : ℕ → Record → Record
settled ttl one = record { owner = folded_labels one.owner; kind = one.kind; class = one.class; ttl = ttl; content = one.content; belongs = one.belongs }

-- what is kept of it
abbrev pub copy_of : Chosen → Record
copy_of one = settled one.ttl one.from.given

-- all are chosen of these entries
abbrev pub AreAmong : List Given → List Chosen → Type 0
AreAmong all chosen = (one : Chosen) → Contains chosen one → Contains all one.from

-- after one set was added: each of its records once, with its least TTL
abbrev pub IsMergedSet : List Given → List Keep → List Keep → Type 0
IsMergedSet set old new =
    (added : List Chosen) × (ttl : ℕ) × (new ≡ old ++ map keep_of added) × IsLeast set ttl × AreAmong set added
    × AreMerged (λ e. Unit {0}) (IsFirstCopy set ttl) set (map copy_of added)

-- after the SOA, or all but the SOA, was added
abbrev pub AreMergedSets : Bool → List Given → List Keep → List Keep → Type 0
AreMergedSets as_soa all old new =
    (added : List Chosen) × (new ≡ old ++ map keep_of added) × AreAmong all added
    × AreMerged (IsSoaAs as_soa) (IsKeptOf all) all (map copy_of added)

-- the least place of some records
pub record IsLeastPlace (all : List Given) (place : ℕ) : Type 0 where
  pub some : (one : Given) × Contains all one × (one.place ≡ place)
  pub least : (one : Given) → Contains all one → place ≤ one.place

-- the lesser of two places, of which the first may be missing
abbrev pub least_of : Option ℕ → ℕ → ℕ
least_of None place = place
least_of (Some known) place = if nat_lt known place then known else place

-- the entries are the records with their places, in any order
pub record AreGivens (given : List Record) (entries : List Given) : Type 0 where
  pub each : (e : Given) → Contains entries e → (e.place < length given) × (slice_index_or given e.place e.given ≡ e.given)
  pub all : (place : ℕ) (one : Record) → place < length given → slice_index_or given place one ≡ one → Contains entries (record { place = place; given = one })

-- wire bytes begin with the label of wildcards
abbrev pub begins_wildcard : List ℕ → Bool
begins_wildcard [] = false
begins_wildcard (size ∷ []) = false
begins_wildcard (size ∷ first ∷ rest) = size == 1 && first == 42

-- the records of entries
abbrev pub records_of : List Given → List Record
records_of entries = map (λ (e : Given). e.given) entries

-- the place of the first record whose set is too large, where there is one
abbrev pub IsFirstLarge : List Record → Option ℕ → Type 0
IsFirstLarge records None = (one : Record) → Contains records one → ¬ IsLarge records one
IsFirstLarge records (Some place) = (one : Record) × IsFirst (IsLarge records) records place one

-- the apex is the folded owner of each SOA
abbrev pub IsApex : List Record → Labels → Type 0
IsApex given apex = (one : Record) → Contains given one → one.kind ≡ soa → apex ≡ folded_labels one.owner

-- the apex of entries: the folded owner of an SOA of which each other SOA is a repeat
abbrev pub IsEntryApex : List Given → Labels → Type 0
IsEntryApex entries apex =
    (first : Given) × Contains entries first × (first.given.kind ≡ soa) × (apex ≡ folded_labels first.given.owner)
    × ((e : Given) → Contains entries e → e.given.kind ≡ soa → AreRepeats first.given e.given)

-- why entries have no apex
abbrev pub IsSoaFault : List Given → ZoneFault → Type 0
IsSoaFault entries fault.NoSoa = (e : Given) → Contains entries e → ¬ (e.given.kind ≡ soa)
IsSoaFault entries fault.TwoSoa =
    (first : Given) × Contains entries first × (first.given.kind ≡ soa)
    × ¬ ((e : Given) → Contains entries e → e.given.kind ≡ soa → AreRepeats first.given e.given)
IsSoaFault entries (fault.OutOfZone place) = ⊥
IsSoaFault entries (fault.AliasClash name) = ⊥
IsSoaFault entries (fault.SetTooLarge name kind) = ⊥
IsSoaFault entries (fault.WildcardCut name) = ⊥
IsSoaFault entries fault.Memory = ⊥

-- what is kept of the SOA records, and then of the others
abbrev pub IsKeptList : List Given → List Keep → Type 0
IsKeptList entries keeps =
    (first : List Chosen) × (others : List Chosen) × (keeps ≡ map keep_of first ++ map keep_of others)
    × AreAmong entries first × AreAmong entries others
    × AreMerged (IsSoaAs true) (IsKeptOf entries) entries (map copy_of first)
    × AreMerged (IsSoaAs false) (IsKeptOf entries) entries (map copy_of others)

-- what is kept stands at different places of a list of that length
pub record AreApart (size : ℕ) (keeps : List Keep) : Type 0 where
  pub within : (k : ℕ) (d : Keep) → k < length keeps → (slice_index_or keeps k d).place < size
  pub apart : (j k : ℕ) (d : Keep) → j < k → k < length keeps → (slice_index_or keeps j d).place ≢ (slice_index_or keeps k d).place

-- the records are those that are kept of the given ones, in this order
pub record AreSettled (given : List Record) (keeps : List Keep) (kept : List Record) : Type 0 where
  pub size : length kept ≡ length keeps
  pub each : (k : ℕ) (d : Record) (e : Keep) → k < length keeps
      → slice_index_or kept k d ≡ settled (slice_index_or keeps k e).ttl (slice_index_or given (slice_index_or keeps k e).place d)

-- the folded owner of the first delegated wildcard, where there is one
abbrev pub IsFirstCut : List Record → Option Labels → Type 0
IsFirstCut given None = (one : Record) → Contains given one → ¬ IsWildcardCut one
IsFirstCut given (Some name) =
    (place : ℕ) × (one : Record) × (name ≡ folded_labels one.owner) × IsFirst IsWildcardCut given place one

-- how a zone is made of given records: its apex, what is kept, and the first delegated wildcard
pub record IsPlan (given : List Record) (apex : Labels) (keeps : List Keep) (cut : Option Labels) : Type 0 where
  pub entries : List Given
  pub givens : AreGivens given entries
  pub unmixed : AreUnmixed given
  pub apex_is : IsApex given apex
  pub kept : IsKeptList entries keeps
  pub first_cut : IsFirstCut given cut

-- what is wrong with records that are kept: the first set that is too large, or else the first delegated wildcard
abbrev pub IsLastFault : List Record → Option Labels → ZoneFault → Type 0
IsLastFault kept cut fault.NoSoa = ⊥
IsLastFault kept cut fault.TwoSoa = ⊥
IsLastFault kept cut (fault.OutOfZone place) = ⊥
IsLastFault kept cut (fault.AliasClash name) = ⊥
IsLastFault kept cut (fault.SetTooLarge name kind) =
    (place : ℕ) × (one : Record) × (name ≡ one.owner) × (kind ≡ one.kind) × IsFirst (IsLarge kept) kept place one
IsLastFault kept cut (fault.WildcardCut name) = IsFirstLarge kept None × (cut ≡ Some name)
IsLastFault kept cut fault.Memory = ⊥
