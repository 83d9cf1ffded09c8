-- Which texts are well-formed rules, and the first fault of the others (this project's own).
use Rattle.std.specs.Prelude.{◌≡◌, ◌≢◌, ℕ, ◌≤◌, List, Option, Some, None, Ok, Err}
use Rattle.posix_ere.specs.Tree.{Tree}
use Rattle.posix_ere.specs.Parts.{weight, groups}
use Rattle.posix_ere.specs.Grammar.{Reads}
use Rattle.posix_ere.specs.Answers.{IsFaultOf}
use Rattle.posix_ere.specs.declared.why.EreFault.{EreFault}
use Rattle.subst_expr.specs.Split.{Splits}
use Rattle.subst_expr.specs.Pieces.{Piece}
use Rattle.subst_expr.specs.Replacement.{HasPieces, first_missing}
use Rattle.subst_expr.specs.declared.subst.Subst.{Subst}
use Rattle.subst_expr.specs.declared.regexp.RegexpFault.{RegexpFault}
use Rattle.subst_expr.specs.declared.regexp.RegexpFault.TheVariants.{Split, Ere, NoGroup, Memory}

-- the place in the text of the first back reference to a group that the tree lacks, or none
pub record IsFirstMissing (t : Tree) (s : Subst) (place : Option ℕ) : Type 0 where
  pub pieces : List Piece
  pub spelt : HasPieces s pieces
  pub found : place ≡ first_missing (groups t) s.repl_at pieces

-- the text splits so, and its expression has that tree, of a weight of at most 512
pub record HasTree (text : List ℕ) (s : Subst) (t : Tree) : Type 0 where
  pub splits : Splits text (Ok s)
  pub reads : Reads s.ere t
  pub light : weight t ≤ 512

-- the text is well formed: each back reference names a group of the tree too
abbrev pub IsRegexp : List ℕ → Subst → Tree → Type 0
IsRegexp text s t = HasTree text s t × IsFirstMissing t s None

-- the text is well formed
abbrev pub IsWellFormed : List ℕ → Type 0
IsWellFormed text = (s : Subst) × (t : Tree) × IsRegexp text s t

-- the first fault of a text: that of its split; that of its expression; or a back reference to no group
abbrev pub IsRegexpFault : List ℕ → RegexpFault → Type 0
IsRegexpFault text (Split fault) = Splits text (Err fault)
IsRegexpFault text (Ere fault) = (fault ≢ EreFault.Memory) × (s : Subst) × Splits text (Ok s) × IsFaultOf s.ere fault
IsRegexpFault text (NoGroup at) = (s : Subst) × (t : Tree) × HasTree text s t × IsFirstMissing t s (Some at)
IsRegexpFault text Memory = Unit {0}

-- the fault that a fault of the expression is
abbrev pub ere_fault : EreFault → RegexpFault
ere_fault (EreFault.Broken at why) = Ere (EreFault.Broken at why)
ere_fault (EreFault.TooHeavy weight) = Ere (EreFault.TooHeavy weight)
ere_fault EreFault.Memory = Memory
