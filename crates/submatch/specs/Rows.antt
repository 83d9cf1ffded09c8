-- Rows, which tell for one place of a text where something can end that begins there, and columns, a row for each place.
use Rattle.std.specs.Prelude.{◌≡◌, ℕ, ◌+◌, ◌/◌, ◌%◌, ◌<◌, ◌≤◌, ◌⊎◌, Bool, List, length, Some, slice_get, slice_index, IsTrue}
use Rattle.std.specs.Int.{bit_at}

-- a row is the words that its bits stand in
abbrev pub Row : Type 0
Row = List ℕ

-- the row has the place: its bit is set
unfoldable pub Has : Row → ℕ → Type 0
Has row j = (j < 256) × (bit_at (slice_index row (j / 64)) (j % 64) ≡ 1)

-- the new row has the places of the old one and those for which P holds, and no others
pub record AddsPlaces (P : ℕ → Type 0) (old new : Row) : Type 0 where
  pub each : (j : ℕ) → Has new j → Has old j ⊎ P j
  pub kept : (j : ℕ) → Has old j → Has new j
  pub added : (j : ℕ) → P j → Has new j

-- the row has the places for which P holds, and no others
pub record AreEnds (P : ℕ → Type 0) (row : Row) : Type 0 where
  pub each : (j : ℕ) → Has row j → P j
  pub all : (j : ℕ) → P j → Has row j

-- the row at i has the place j
abbrev pub Leads : List Row → ℕ → ℕ → Type 0
Leads rows i j = (row : Row) × (slice_get rows i ≡ Some row) × Has row j

-- the rows of the places that a row has, from one place on, have the place j
pub record LeadsFrom (rows : List Row) (places : Row) (from j : ℕ) : Type 0 where
  pub at : ℕ
  pub later : from ≤ at
  pub there : Has places at
  pub leads : Leads rows at j

-- the rows of the places whose bits are set in a word, counted from `start`, have the place j
pub record LeadsFromBit (rows : List Row) (word start j : ℕ) : Type 0 where
  pub bit : ℕ
  pub there : bit_at word bit ≡ 1
  pub leads : Leads rows (start + bit) j

-- from place k on, the rows are closed: a row has all places to which the rows of its own places lead
abbrev pub IsClosedFrom : ℕ → List Row → Type 0
IsClosedFrom k rows = (i j l : ℕ) → k ≤ i → k ≤ j → Leads rows i j → Leads rows j l → Leads rows i l

-- the row has all places to which the rows of its own places lead, those from place k on
abbrev pub IsClosedOver : ℕ → List Row → Row → Type 0
IsClosedOver k rows row = (j l : ℕ) → k ≤ j → Has row j → Leads rows j l → Has row l

-- The rows are those of a relation between the places of a text of n bytes: the row at i has the places to which i is related,
-- and no others. A column with no rows is that of a relation that never holds.
pub record IsColumn (n : ℕ) (P : ℕ → ℕ → Type 0) (rows : List Row) : Type 0 where
  pub short : length rows ≤ n + 1
  pub each : (i j : ℕ) → Leads rows i j → P i j
  pub all : (i j : ℕ) → i ≤ n → P i j → Leads rows i j

-- what begins at a place ends there or later, and within the text
abbrev pub AreForward : ℕ → List Row → Type 0
AreForward n rows = (i j : ℕ) → Leads rows i j → (i ≤ j) × (j ≤ n)

-- nothing is covered only where that is allowed
abbrev pub IsAllowed : Bool → ℕ → ℕ → Type 0
IsAllowed empties i j = i ≡ j → IsTrue empties

-- the first column leads from i to some place, to i itself only if that is allowed, and the second from there to j
pub record IsThrough (empties : Bool) (first second : List Row) (i j : ℕ) : Type 0 where
  pub at : ℕ
  pub leads : Leads first i at
  pub allowed : IsAllowed empties i at
  pub others : Leads second at j

-- it stops at i where it may, or goes through both columns
abbrev pub StopsOrGoes : Bool → Bool → List Row → List Row → ℕ → ℕ → Type 0
StopsOrGoes stops empties first second i j = (IsTrue stops × (i ≡ j)) ⊎ IsThrough empties first second i j

-- the first column leads from one place to e, and the second from there to another
pub record IsTurn (empties : Bool) (first second : List Row) (from to e : ℕ) : Type 0 where
  pub leads : Leads first from e
  pub allowed : IsAllowed empties from e
  pub others : Leads second e to
