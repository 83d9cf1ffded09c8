-- Extended regular expressions as a relation of texts and trees (IEEE 1003.1, Base Definitions, 9.4 and 9.5.3).
use Rattle.std.specs.Prelude.{ℕ, suc, ◌≡◌, ◌+◌, true, ◌⊎◌, List, [], ◌∷◌, ◌++◌}
use Rattle.posix_ere.specs.Tree.{Atom, Tree, Trees}
use Rattle.posix_ere.specs.Tree.Atom.{byte, any, set, start, end}
use Rattle.posix_ere.specs.Tree.Tree.{atom, alt, branch, group, rep}
use Rattle.posix_ere.specs.Tree.Trees.{none, more}
use Rattle.posix_ere.specs.Parts.{groups}
use Rattle.posix_ere.specs.Ascii.{is_ordinary, is_special}
use Rattle.posix_ere.specs.Interval.{IsRepeat}
use Rattle.posix_ere.specs.Bracket.{Item, listed, IsBracket}

-- the text of what takes one byte: an ordinary byte, a backslash and a special byte, a dot, a bracket
abbrev pub IsOneByte : List ℕ → Atom → Type 0
IsOneByte w (byte b) =
    ((w ≡ b ∷ []) × (is_ordinary b ≡ true)) ⊎ ((w ≡ 92 ∷ b ∷ []) × (is_special b ≡ true))
IsOneByte w any = w ≡ 46 ∷ []
IsOneByte w (set negated bytes) = (is : List Item) × (bytes ≡ listed is) × IsBracket w negated is
IsOneByte w start = ⊥
IsOneByte w end = ⊥

-- the text of an anchor
abbrev pub IsAnchor : List ℕ → Tree → Type 0
IsAnchor w (atom start) = w ≡ 94 ∷ []
IsAnchor w (atom end) = w ≡ 36 ∷ []
IsAnchor w _ = ⊥

-- Each takes first how many groups were opened before the text.
abbrev mutual
  -- branches with `|` between each two
  pub IsExpression : ℕ → List ℕ → Tree → Type 0
  IsExpression k w (alt (more t ts)) =
      (u : List ℕ) × (v : List ℕ) × (w ≡ u ++ v) × IsBranch k u t × AreFurtherBranches (k + groups t) v ts
  IsExpression k w _ = ⊥

  -- further branches, each after a `|`
  pub AreFurtherBranches : ℕ → List ℕ → Trees → Type 0
  AreFurtherBranches k w none = w ≡ []
  AreFurtherBranches k w (more t ts) =
      (u : List ℕ) × (v : List ℕ) × (w ≡ 124 ∷ (u ++ v)) × IsBranch k u t × AreFurtherBranches (k + groups t) v ts

  -- pieces one after another, possibly none
  pub IsBranch : ℕ → List ℕ → Tree → Type 0
  IsBranch k w (branch ts) = ArePieces k w ts
  IsBranch k w _ = ⊥

  -- each piece is an anchor, or an atom with its repeats
  pub ArePieces : ℕ → List ℕ → Trees → Type 0
  ArePieces k w none = w ≡ []
  ArePieces k w (more t ts) =
      (u : List ℕ) × (v : List ℕ) × (w ≡ u ++ v) × (IsAnchor u t ⊎ IsRepeated k u t) × ArePieces (k + groups t) v ts

  -- an atom with its repeats, the first inside; a group has the next number
  pub IsRepeated : ℕ → List ℕ → Tree → Type 0
  IsRepeated k w (atom x) = IsOneByte w x
  IsRepeated k w (group g t) =
      (u : List ℕ) × (g ≡ suc k) × (w ≡ 40 ∷ (u ++ 41 ∷ [])) × IsExpression (suc k) u t
  IsRepeated k w (rep m n t) = (u : List ℕ) × (v : List ℕ) × (w ≡ u ++ v) × IsRepeated k u t × IsRepeat v m n
  IsRepeated k w (alt ts) = ⊥
  IsRepeated k w (branch ts) = ⊥

-- the text is that of the tree
abbrev pub Reads : List ℕ → Tree → Type 0
Reads w t = IsExpression 0 w t
