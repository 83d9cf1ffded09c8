-- The index of a zone, for private functions alone (this project's own): which names it has to find, and under which keys.
use Rattle.std.specs.Prelude.{◌≡◌, ◌⊎◌, ℕ, zero, suc, ◌+◌, ◌*◌, ◌/◌, ◌%◌, ◌^◌, ◌<◌, ◌≤◌, List, [], ◌∷◌, ◌++◌, length}
use Rattle.std.specs.Prelude.{take, drop, Contains, nat_eq}
use Rattle.std.specs.Option.{option_to_list}
use Rattle.std.specs.Map.{lookup}
use Rattle.dns_name.specs.Name.{AreSame, IsBelow, folded_labels, wire_of}
use Rattle.naptr_data.specs.Zones.{Labels}
use Rattle.dns_wire.specs.declared.record.Record.{Record}
use Rattle.zone_build.specs.declared.index.Places.{Places}
use Rattle.zone_build.specs.declared.index.Sought.{Sought}
use Rattle.zone_build.specs.declared.index.Sought.TheVariants.{At, Below}

-- a number with one more byte after it, at 64 bits
abbrev pub joined : ℕ → ℕ → ℕ
joined number byte = ((number * 256) % 2 ^ 64 + byte) % 2 ^ 64

-- the number after some bytes
unfoldable pub number_after : ℕ → List ℕ → ℕ
number_after number [] = number
number_after number (byte ∷ rest) = number_after (joined number byte) rest

-- a state with one more number: their sum, times the seed, the product reduced in part modulo 2^61 - 1
abbrev pub mixed : ℕ → ℕ → ℕ → ℕ
mixed seed state number =
    let product = ((state + number) % 2 ^ 64 * seed) % 2 ^ 128 in ((product % 2 ^ 61) + (product / 2 ^ 61) % 2 ^ 64) % 2 ^ 64

-- the state after so many numbers of seven bytes each
abbrev pub state_after : ℕ → List ℕ → ℕ → ℕ
state_after seed bytes zero = 0
state_after seed bytes (suc turns) = mixed seed (state_after seed bytes turns) (number_after 0 (take 7 (drop (7 * turns) bytes)))

-- the key of a name, which is that of its folded name
unfoldable pub key_of : ℕ → Labels → ℕ
key_of seed name = let bytes = wire_of (folded_labels name) in state_after seed bytes (length bytes / 7 + 1)

-- the owner and the kind of the record at a place
abbrev pub owner_at : List Record → ℕ → Labels
owner_at [] place = []
owner_at (one ∷ rest) zero = one.owner
owner_at (one ∷ rest) (suc place) = owner_at rest place

abbrev pub kind_at : List Record → ℕ → ℕ
kind_at [] place = 0
kind_at (one ∷ rest) zero = one.kind
kind_at (one ∷ rest) (suc place) = kind_at rest place

-- from the first place to before the end stand all records of one owner, but for the SOA
pub record ArePlaces (records : List Record) (places : Places) : Type 0 where
  pub after_soa : 0 < places.first
  pub some : places.first < places.end
  pub within : places.end ≤ length records
  pub here : (k : ℕ) → places.first ≤ k → k < places.end → AreSame (owner_at records places.first) (owner_at records k)
  pub before : (k : ℕ) → 0 < k → k < places.first → ¬ AreSame (owner_at records places.first) (owner_at records k)
  pub after : (k : ℕ) → places.end ≤ k → k < length records → ¬ AreSame (owner_at records places.first) (owner_at records k)

-- an index as lists, with the seed of its keys: places under keys, and places whose key was taken
pub record Indexed : Type 0 where
  pub seed : ℕ
  pub entries : List (ℕ × Places)
  pub rest : List Places

-- what may stand for a key
abbrev pub candidates : Indexed → ℕ → List Places
candidates index key = option_to_list (lookup (nat_eq key) index.entries) ++ index.rest

-- the places were added under that key, and nothing else
pub record IsInserted (old new : Indexed) (key : ℕ) (places : Places) : Type 0 where
  pub added : Contains (candidates new key) places
  pub kept : (other : ℕ) (one : Places) → Contains (candidates old other) one → Contains (candidates new other) one
  pub only : (other : ℕ) (one : Places) → Contains (candidates new other) one
      → ((was : ℕ) × Contains (candidates old was) one) ⊎ (one ≡ places)
  pub seed : new.seed ≡ old.seed

-- all places of an index are places of records of one owner
abbrev pub AllPlaces : List Record → Indexed → Type 0
AllPlaces records index = (key : ℕ) (one : Places) → Contains (candidates index key) one → ArePlaces records one

-- an owner is the name, or is at or below it
abbrev pub Meets : Sought → Labels → Labels → Type 0
Meets At owner name = AreSame owner name
Meets Below owner name = IsBelow owner name

-- no place of the list has an owner that is sought
abbrev pub NoneMeets : Sought → List Record → Labels → List Places → Type 0
NoneMeets sought records name list = (one : Places) → Contains list one → ¬ Meets sought (owner_at records one.first) name

-- an index of these records: it finds each owner, and each name below the apex that is above an owner
pub record FindsOwners (records : List Record) (index : Indexed) : Type 0 where
  pub places : AllPlaces records index
  pub owners : (k : ℕ) → 0 < k → k < length records → ¬ NoneMeets At records (owner_at records k) (candidates index (key_of index.seed (owner_at records k)))

pub record IsIndex (records : List Record) (apex : Labels) (index : Indexed) : Type 0 where
  pub owners : FindsOwners records index
  pub names : (k : ℕ) (name : Labels) → 0 < k → k < length records → IsBelow (owner_at records k) name → IsBelow name apex
      → ¬ AreSame name apex → ¬ NoneMeets Below records name (candidates index (key_of index.seed name))

-- from a place to before that end all records are of one owner, and none after it is
pub record IsRunEnd (records : List Record) (first end : ℕ) : Type 0 where
  pub some : first < end
  pub within : end ≤ length records
  pub here : (k : ℕ) → first ≤ k → k < end → AreSame (owner_at records first) (owner_at records k)
  pub after : (k : ℕ) → end ≤ k → k < length records → ¬ AreSame (owner_at records first) (owner_at records k)

-- an index finds an owner at or below the name
abbrev pub HasBelow : List Record → Indexed → Labels → Type 0
HasBelow records index name = (one : Places) × Contains (candidates index (key_of index.seed name)) one × IsBelow (owner_at records one.first) name

-- an index finds an owner at or below each name that is below the apex and at or above that name
abbrev pub CoversAbove : List Record → Labels → Labels → Indexed → Type 0
CoversAbove records apex name index = (above : Labels) → IsBelow name above → IsBelow above apex → ¬ AreSame above apex → HasBelow records index above

-- an index keeps what it had, and has places of records alone
pub record IsGrown (records : List Record) (old new : Indexed) : Type 0 where
  pub places : AllPlaces records new
  pub kept : (key : ℕ) (one : Places) → Contains (candidates old key) one → Contains (candidates new key) one
  pub seed : new.seed ≡ old.seed

-- an index finds an owner at or below each name that is below the apex and at or above an owner that stands before a place
abbrev pub CoversBefore : List Record → Labels → ℕ → Indexed → Type 0
CoversBefore records apex at index = (k : ℕ) (name : Labels) → 0 < k → k < at → IsBelow (owner_at records k) name → IsBelow name apex
    → ¬ AreSame name apex → HasBelow records index name

-- an owner that stands before a place is at or below the name
abbrev pub IsAboveEarlier : List Record → ℕ → Labels → Type 0
IsAboveEarlier records at name = (k : ℕ) × (0 < k) × (k < at) × IsBelow (owner_at records k) name
