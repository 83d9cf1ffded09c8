-- Where parses from a place can end.
use Rattle.std.specs.Prelude.{◌≡◌, ℕ, zero, suc, ◌<◌, ◌≤◌, Bool, false, List, [], Option, Some, None}
use Rattle.posix_ere.specs.Tree.{Tree, atom, Trees, none, more}
use Rattle.posix_ere.specs.Parts.{count_of, part}
use Rattle.posix_ere.specs.declared.node.Node.{Node}
use Rattle.posix_ere.specs.declared.node.Node.TheVariants.{Byte, Any, Set, Start, End}
use Rattle.submatch.specs.declared.spans.Span.{Span}
use Rattle.submatch.specs.Bytes.{takes}
use Rattle.submatch.specs.Parses.{Parses, IsOneParse, AreParses, IsParse, IsBranch}
use Rattle.submatch.specs.Greater.{IsGreatestParse}
use Rattle.submatch.specs.Groups.{groups_of, groups_of_last, with_groups}

-- some parse covers the text from i to j
abbrev pub Reaches : IsOneParse → ℕ → ℕ → Type 0
Reaches One i j = (c : ℕ) × (a : Parses) × One i j c a

-- some row of parses covers the text from i to j
abbrev pub RowReaches : AreParses → ℕ → ℕ → Type 0
RowReaches More i j = (ps : Parses) × More i j ps

-- a part for one byte or for a place
abbrev pub IsLeaf : Node → Type 0
IsLeaf (Byte b) = Unit {0}
IsLeaf Any = Unit {0}
IsLeaf (Set negated) = Unit {0}
IsLeaf Start = Unit {0}
IsLeaf End = Unit {0}
IsLeaf _ = ⊥

-- the parts from number k on
abbrev pub parts_from : ℕ → Trees → Trees
parts_from zero ts = ts
parts_from (suc k) none = none
parts_from (suc k) (more t ts) = parts_from k ts

-- whether the part is one for a byte and takes this one
abbrev pub takes_byte : Bool → Tree → ℕ → Bool
takes_byte fold (atom x) b = takes fold x b
takes_byte fold _ b = false

-- the first parse ends here, and others cover the rest up to the end
abbrev pub IsHeadEnd : IsOneParse → AreParses → ℕ → ℕ → ℕ → Type 0
IsHeadEnd One More from to e = Reaches One from e × RowReaches More e to

-- the greatest number for which P holds
pub record IsLongest (P : ℕ → Type 0) (e : ℕ) : Type 0 where
  pub holds : P e
  pub most : (f : ℕ) → P f → f ≤ e

-- the greatest number for which P holds, or that there is none
abbrev pub TellsLongest : (ℕ → Type 0) → Option ℕ → Type 0
TellsLongest P None = (f : ℕ) → P f → ⊥
TellsLongest P (Some e) = IsLongest P e

-- to the groups so far come those of the greatest parse of a part over this stretch
abbrev pub AddsGroups : Bool → List ℕ → Tree → Span → List (Option Span) → List (Option Span) → Type 0
AddsGroups fold w t s old new = (c : ℕ) (a : Parses) → IsGreatestParse (IsParse fold w t s.from s.to) c a →
    new ≡ with_groups old (groups_of t s.from s.to c a)

-- the groups that iterations from a place leave are those of the greatest parse of this stretch, or none
abbrev pub LeavesGroupsOf : Bool → List ℕ → Tree → ℕ → Parses → Option Span → Type 0
LeavesGroupsOf fold w t from ps None = groups_of_last (groups_of t) from ps ≡ []
LeavesGroupsOf fold w t from ps (Some s) = (c : ℕ) × (a : Parses) ×
    IsGreatestParse (IsParse fold w t s.from s.to) c a × (groups_of_last (groups_of t) from ps ≡ groups_of t s.from s.to c a)

-- of the alternatives one has this tree, and none before it has a parse over this stretch
pub record IsFirst (fold : Bool) (w : List ℕ) (ts : Trees) (s : Span) (t : Tree) : Type 0 where
  pub number : ℕ
  pub among : number < count_of ts
  pub is : t ≡ part ts number
  pub earlier : (d : ℕ) (b : Parses) → d < number → IsBranch fold w ts d s.from s.to b → ⊥
