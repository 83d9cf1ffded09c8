-- That rules have one answer, as statements (this project's own).
use Rattle.std.specs.Prelude.{◌≡◌, ◌≢◌, ◌⊎◌, ℕ, List, Result, Ok}
use Rattle.posix_ere.specs.Tree.{Tree}
use Rattle.subst_expr.specs.Regexp.{HasTree, IsWellFormed, IsRegexpFault}
use Rattle.subst_expr.specs.Output.{IsOutput, IsUnmatched}
use Rattle.subst_expr.specs.Pieces.{Piece}
use Rattle.subst_expr.specs.Replacement.{HasPieces}
use Rattle.subst_expr.specs.Split.{Splits}
use Rattle.subst_expr.specs.declared.subst.Subst.{Subst}
use Rattle.subst_expr.specs.declared.subst.SubstFault.{SubstFault}
use Rattle.subst_expr.specs.declared.regexp.RegexpFault.{RegexpFault}
use Rattle.subst_expr.specs.declared.regexp.RegexpFault.TheVariants.{Memory}

-- a text has one answer of the split
abbrev pub OneSplit : Type 0
OneSplit = (text : List ℕ) (one other : Result Subst SubstFault) → Splits text one → Splits text other → one ≡ other

-- the replacement of a split is written with pieces
abbrev pub SplitHasPieces : Type 0
SplitHasPieces = (text : List ℕ) (s : Subst) → Splits text (Ok s) → (pieces : List Piece) × HasPieces s pieces

-- a text has one fault at most, want of memory apart
abbrev pub OneFault : Type 0
OneFault =
    (text : List ℕ) (one other : RegexpFault) → one ≢ Memory → other ≢ Memory → IsRegexpFault text one → IsRegexpFault text other → one ≡ other

-- a text has one split and one tree
abbrev pub OneReading : Type 0
OneReading = (text : List ℕ) (s r : Subst) (t u : Tree) → HasTree text s t → HasTree text r u → (s ≡ r) × (t ≡ u)

-- a well-formed text has no fault but want of memory
abbrev pub WellFormedHasNoFault : Type 0
WellFormedHasNoFault = (text : List ℕ) (fault : RegexpFault) → IsWellFormed text → IsRegexpFault text fault → fault ≡ Memory

-- the output is a function of the text and the original string
abbrev pub OneOutput : Type 0
OneOutput = (text aus bytes others : List ℕ) → IsOutput text aus bytes → IsOutput text aus others → bytes ≡ others

-- where there is no match there is no output
abbrev pub UnmatchedHasNoOutput : Type 0
UnmatchedHasNoOutput = (text aus bytes : List ℕ) → IsUnmatched text aus → IsOutput text aus bytes → ⊥

-- each text is well formed, or has a fault other than want of memory
abbrev pub FormedOrFault : Type 0
FormedOrFault = (text : List ℕ) → IsWellFormed text ⊎ ((fault : RegexpFault) × (fault ≢ Memory) × IsRegexpFault text fault)

-- a well-formed text has an output over each original string, or has no match in it
abbrev pub OutputOrUnmatched : Type 0
OutputOrUnmatched = (text aus : List ℕ) → IsWellFormed text → ((bytes : List ℕ) × IsOutput text aus bytes) ⊎ IsUnmatched text aus

-- each text has an output over each original string, or has none
abbrev pub OutputOrNone : Type 0
OutputOrNone = (text aus : List ℕ) → ((bytes : List ℕ) × IsOutput text aus bytes) ⊎ ((bytes : List ℕ) → ¬ IsOutput text aus bytes)
