-- The compiled expression: columns of rows, and parts that name their columns by number.
use Rattle.std.specs.Prelude.{◌≡◌, ℕ, suc, ◌+◌, ◌-◌, ◌*◌, ◌<◌, ◌≤◌, max, Bool, List, [], ◌∷◌, ◌++◌, length, Option, Some, None, slice_index, slice_index_or}
use Rattle.posix_ere.specs.Tree.{Tree, branch, rep, Trees}
use Rattle.posix_ere.specs.Parts.{count_of, part, parts_of, weight, weights}
use Rattle.posix_ere.specs.Nodes.{tree_at}
use Rattle.submatch.specs.Parses.{IsParse, ArePieces, AreIterations}
use Rattle.submatch.specs.Ends.{Reaches, RowReaches, parts_from}
use Rattle.submatch.specs.Rows.{Row, Leads, IsColumn, StopsOrGoes}

-- a part: the number of its tree, of the column of its own ends, of the columns of what is left of its pieces or iterations,
-- from the last on, and of the parts inside it
pub record PartValue : Type 0 where
  pub at : ℕ
  pub own : ℕ
  pub rests : List ℕ
  pub inside : List ℕ

pub record TableValue : Type 0 where
  pub columns : List (List Row)
  pub parts : List PartValue

abbrev pub column_at : TableValue → ℕ → List Row
column_at T c = slice_index_or T.columns c []

abbrev pub part_at : TableValue → ℕ → PartValue
part_at T x = slice_index_or T.parts x (record { at = 0; own = 0; rests = []; inside = [] })

-- the tree of the part with this number
abbrev pub tree_of : List Tree → TableValue → ℕ → Tree
tree_of trees T x = tree_at trees (part_at T x).at

-- the column with this number is that of the relation P
pub record HasColumn (n : ℕ) (T : TableValue) (c : ℕ) (P : ℕ → ℕ → Type 0) : Type 0 where
  pub there : c < length T.columns
  pub exact : IsColumn n P (column_at T c)

-- the parts with these numbers, each less than `below`, are those of the trees, in their order
pub record AreInside (trees : List Tree) (T : TableValue) (below : ℕ) (inside : List ℕ) (ts : Trees) : Type 0 where
  pub count : length inside ≡ count_of ts
  pub before : (k : ℕ) → k < count_of ts → slice_index inside k < below
  pub trees_are : (k : ℕ) → k < count_of ts → tree_at trees (part_at T (slice_index inside k)).at ≡ part ts k

-- the number at place c of the list is that of a column of the relation P
pub record HasRest (n : ℕ) (T : TableValue) (rests : List ℕ) (c : ℕ) (P : ℕ → ℕ → Type 0) : Type 0 where
  pub listed : c < length rests
  pub column : HasColumn n T (slice_index rests c) P

-- the count of iterations from which on what is left no longer changes, or is nothing
abbrev pub last_count : ℕ → Option ℕ → ℕ
last_count m None = max m 1
last_count m (Some n) = n

-- so many iterations are not more than are allowed
abbrev pub IsUpTo : ℕ → Option ℕ → Type 0
IsUpTo k None = Unit {0}
IsUpTo k (Some n) = k ≤ n

-- the rests are those of the pieces of a branch, or of the iterations of a repetition
abbrev pub AreRests : Bool → List ℕ → TableValue → List ℕ → Tree → Type 0
AreRests fold w T rests (branch ts) = (k : ℕ) → k < count_of ts →
    HasRest (length w) T rests (count_of ts - suc k) (RowReaches (ArePieces fold w (parts_from k ts)))
AreRests fold w T rests (rep m o t) = (k : ℕ) → IsUpTo k o →
    HasRest (length w) T rests (last_count m o - k) (RowReaches (AreIterations (IsParse fold w t) m o k))
AreRests fold w T rests _ = Unit {0}

-- A part that stands after so many others: its own column has the ends of its tree, and where that can match at all, its rests
-- are right. Each filled row is the exact set of ends.
pub record IsPart (fold : Bool) (w : List ℕ) (trees : List Tree) (T : TableValue) (below : ℕ) (p : PartValue) : Type 0 where
  pub known : p.at < length trees
  pub own : HasColumn (length w) T p.own (Reaches (IsParse fold w (tree_at trees p.at)))
  pub inside : AreInside trees T below p.inside (parts_of (tree_at trees p.at))
  pub rests : (i j : ℕ) → i ≤ length w → Reaches (IsParse fold w (tree_at trees p.at)) i j →
      AreRests fold w T p.rests (tree_at trees p.at)

-- the table's invariant: each part is right, over parts before it
abbrev pub AreParts : Bool → List ℕ → List Tree → TableValue → Type 0
AreParts fold w trees T = (x : ℕ) → x < length T.parts → IsPart fold w trees T x (part_at T x)

-- the new table has the columns and the parts of the old one under their numbers
pub record Grows (old new : TableValue) : Type 0 where
  pub columns : (c : ℕ) → c < length old.columns → (c < length new.columns) × (column_at new c ≡ column_at old c)
  pub parts : (x : ℕ) → x < length old.parts → (x < length new.parts) × (part_at new x ≡ part_at old x)

-- the part's own column has rows, so its ends are looked up
abbrev pub IsAlive : TableValue → ℕ → Type 0
IsAlive T x = 0 < length (column_at T (part_at T x).own)

abbrev pub AreAlive : TableValue → List ℕ → Type 0
AreAlive T xs = (k : ℕ) → k < length xs → IsAlive T (slice_index xs k)

-- Look-ups for parts of so much weight, of which so many stand side by side, where q is the square of the number of places: at
-- most four times the weight, and two less for each part if all of them are alive, which weigh at least one each.
pub record IsShare (Alive : Type 0) (count weight q from to : ℕ) : Type 0 where
  pub most : to ≤ from + 4 * (weight * q)
  pub saved : Alive → to + 2 * (count * q) ≤ from + 4 * (weight * q)
  pub heavy : Alive → count ≤ weight

-- the square of the number of places in a text
abbrev pub square : List ℕ → ℕ
square w = (length w + 1) * (length w + 1)

-- the parts with these numbers are those inside a tree, in their order
abbrev pub AreInsideOf : List Tree → TableValue → List ℕ → ℕ → Type 0
AreInsideOf trees T inside at = AreInside trees T (length T.parts) inside (parts_of (tree_at trees at))

-- the look-ups from one count to another are the share of the parts inside a tree
abbrev pub IsShareInside : List ℕ → Tree → TableValue → List ℕ → ℕ → ℕ → Type 0
IsShareInside w t T inside = IsShare (AreAlive T inside) (count_of (parts_of t)) (weights (parts_of t)) (square w)

-- the look-ups up to `old` are the share of the parts inside a tree, so those up to `new` are no more than its weight allows
abbrev pub KeepsToWeight : List ℕ → Tree → TableValue → List ℕ → ℕ → ℕ → Type 0
KeepsToWeight w t T inside old new = (from : ℕ) → IsShareInside w t T inside from old → new ≤ from + 4 * (weight t * square w)

-- the same, and those up to `new` are the share of its own part, which stands in a later table
abbrev pub KeepsToShare : List ℕ → Tree → TableValue → List ℕ → TableValue → PartValue → ℕ → ℕ → Type 0
KeepsToShare w t T inside later p old new = (from : ℕ) → IsShareInside w t T inside from old →
    IsShare (0 < length (column_at later p.own)) 1 (weight t) (square w) from new

-- a part of this tree was made over the parts inside it: columns alone were added
pub record IsMade (fold : Bool) (w : List ℕ) (trees : List Tree) (old new : TableValue) (at : ℕ) (p : PartValue) : Type 0 where
  pub grows : Grows old new
  pub parts : new.parts ≡ old.parts
  pub number : p.at ≡ at
  pub part : IsPart fold w trees new (length old.parts) p

-- the own column of one of the first n parts leads from i to j
pub record LeadsSome (T : TableValue) (inside : List ℕ) (n i j : ℕ) : Type 0 where
  pub number : ℕ
  pub among : number < n
  pub leads : Leads (column_at T (part_at T (slice_index inside number)).own) i j

-- a column was added under this number, that leads through a part and then through another column; the list got the number
pub record AddsJoined (n : ℕ) (stops empties : Bool) (old new : TableValue) (part rest : ℕ) (rests later : List ℕ) (number : ℕ) : Type 0 where
  pub column : List Row
  pub exact : IsColumn n (StopsOrGoes stops empties (column_at old (part_at old part).own) (column_at old rest)) column
  pub columns : new.columns ≡ old.columns ++ column ∷ []
  pub parts : new.parts ≡ old.parts
  pub is : number ≡ length old.columns
  pub listed : later ≡ rests ++ number ∷ []

-- the tree ends where the first part inside it does, and has no rests
pub record PassesOn (fold : Bool) (w : List ℕ) (t : Tree) : Type 0 where
  pub some : 0 < count_of (parts_of t)
  pub ends : (rows : List Row) → IsColumn (length w) (Reaches (IsParse fold w (part (parts_of t) 0))) rows →
      IsColumn (length w) (Reaches (IsParse fold w t)) rows
  pub rests : (T : TableValue) (rests : List ℕ) → AreRests fold w T rests t
