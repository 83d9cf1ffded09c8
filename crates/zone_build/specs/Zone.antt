-- Zones: records in canonical order, and what makes a zone valid (RFC 1034, section 4.2.1; RFC 2181, sections 5 and 10.1). The order
-- of records and the bound on a set are this project's own.
use Rattle.std.specs.Prelude.{◌≡◌, ◌≢◌, ℕ, ◌+◌, ◌≤◌, IsTrue, List, [], ◌∷◌, ◌++◌, length, sum_by, Contains}
use Rattle.std.specs.declared.cmp.Ordering.{Ordering}
use Rattle.std.specs.declared.cmp.Ordering.TheVariants.{Less}
use Rattle.std.specs.Ordering.{nat_cmp, ordering_then}
use Rattle.std.specs.Cmp.Lexicographic.{slice_cmp}
use Rattle.std.specs.List.{AllByRecursion}
use Rattle.dns_name.specs.Name.{wire_of, folded_labels, AreSame, IsBelow}
use Rattle.naptr_data.specs.Zones.{Labels, star}
use Rattle.dns_wire.specs.Kinds.{internet, is_whole, ns, cname, soa}
use Rattle.dns_wire.specs.Rdata.{rdata_of}
use Rattle.dns_wire.specs.declared.record.Record.{Record}

-- a zone is its apex and its records
pub record Zone : Type 0 where
  pub apex : Labels
  pub records : List Record

-- a record of the internet's class and of one of the ten kinds
pub record IsPlain (one : Record) : Type 0 where
  pub class : one.class ≡ internet
  pub whole : IsTrue (is_whole one.content)

-- a record of that kind at that owner
abbrev pub IsIn : Labels → ℕ → Record → Type 0
IsIn owner kind one = AreSame one.owner owner × (one.kind ≡ kind)

-- two records of one set: of one owner and one kind (RFC 2181, 5)
abbrev pub AreOneSet : Record → Record → Type 0
AreOneSet one other = AreSame one.owner other.owner × (one.kind ≡ other.kind)

-- two records that are repeats of each other: of one set, and with the same RDATA (RFC 2181, 5)
abbrev pub AreRepeats : Record → Record → Type 0
AreRepeats one other = AreOneSet one other × (rdata_of one.content ≡ rdata_of other.content)

-- the order of records: by the wire form of the folded owner, by kind, by RDATA, byte by byte
abbrev pub owner_order : Record → Record → Ordering
owner_order one other = slice_cmp nat_cmp (wire_of (folded_labels one.owner)) (wire_of (folded_labels other.owner))

abbrev pub order_of : Record → Record → Ordering
order_of one other =
    ordering_then (owner_order one other) (ordering_then (nat_cmp one.kind other.kind) (slice_cmp nat_cmp (rdata_of one.content) (rdata_of other.content)))

-- each record comes before all after it
abbrev pub IsRising : List Record → Type 0
IsRising [] = Unit {0}
IsRising (one ∷ rest) = AllByRecursion (λ next. order_of one next ≡ Less) rest × IsRising rest

-- records in canonical order: one SOA, and then the others, which rise
abbrev pub IsCanonical : List Record → Type 0
IsCanonical [] = ⊥
IsCanonical (one ∷ rest) = (one.kind ≡ soa) × AllByRecursion (λ other. other.kind ≢ soa) rest × IsRising rest

-- the set of that owner and kind among records: all that are there, side by side
pub record IsSet (records : List Record) (owner : Labels) (kind : ℕ) (set : List Record) : Type 0 where
  pub before : List Record
  pub after : List Record
  pub parts : records ≡ before ++ (set ++ after)
  pub each : AllByRecursion (IsIn owner kind) set
  pub none_before : AllByRecursion (λ one. ¬ IsIn owner kind one) before
  pub none_after : AllByRecursion (λ one. ¬ IsIn owner kind one) after

-- what a set weighs: of each record the bytes of its RDATA and 265 more, which its owner and its fixed fields may take
abbrev pub weight : List Record → ℕ
weight set = sum_by (λ one. 265 + length (rdata_of one.content)) set

-- the first label is the one of wildcards (RFC 4592, 2.1.1)
abbrev pub IsWildcard : Labels → Type 0
IsWildcard name = (rest : Labels) × (name ≡ star ∷ rest)

-- a valid zone
pub record IsValid (zone : Zone) : Type 0 where
  -- class and kinds
  pub plain : (one : Record) → Contains zone.records one → IsPlain one
  -- one SOA, and no two records that are repeats
  pub order : IsCanonical zone.records
  -- the SOA is at the apex
  pub soa : (one : Record) → Contains zone.records one → one.kind ≡ soa → one.owner ≡ zone.apex
  -- owners are folded, at or below the apex
  pub folded : (one : Record) → Contains zone.records one → folded_labels one.owner ≡ one.owner
  pub inside : (one : Record) → Contains zone.records one → IsBelow one.owner zone.apex
  -- a set has one TTL (RFC 2181, 5.2)
  pub ttl : (one other : Record) → Contains zone.records one → Contains zone.records other → AreOneSet one other → one.ttl ≡ other.ttl
  -- nothing else stands where a CNAME stands (RFC 1034, 3.6.2)
  pub alias : (one other : Record) → Contains zone.records one → Contains zone.records other → one.kind ≡ cname
      → AreSame one.owner other.owner → AreRepeats one other
  -- no wildcard is delegated
  pub cuts : (one : Record) → Contains zone.records one → one.kind ≡ ns → ¬ IsWildcard one.owner
  -- no set is too large
  pub small : (owner : Labels) (kind : ℕ) (set : List Record) → IsSet zone.records owner kind set → weight set ≤ 60_000
