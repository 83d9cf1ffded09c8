-- The output of a substitution (RFC 3402, section 3.2; that text outside the match is dropped is this project's own).
use Rattle.std.specs.Prelude.{◌≡◌, ◌≢◌, ◌⊎◌, ℕ, ◌<◌, ◌≤◌, List, [], ◌++◌, length, Option, Some, None, Result, Err}
use Rattle.posix_ere.specs.Tree.{Tree}
use Rattle.submatch.specs.declared.spans.Span.{Span}
use Rattle.submatch.specs.Best.{HasNoMatch, AreBestGroups}
use Rattle.subst_expr.specs.Pieces.{Piece}
use Rattle.subst_expr.specs.Replacement.{HasPieces, expansion}
use Rattle.subst_expr.specs.Regexp.{IsRegexp, IsRegexpFault}
use Rattle.subst_expr.specs.declared.subst.Subst.{Subst}
use Rattle.subst_expr.specs.declared.regexp.RegexpFault.{RegexpFault}
use Rattle.subst_expr.specs.declared.rule.Applied.{Applied}
use Rattle.subst_expr.specs.declared.rule.Applied.TheVariants.{Output, NoMatch}
use Rattle.subst_expr.specs.declared.rule.ApplyFault.{ApplyFault}
use Rattle.subst_expr.specs.declared.rule.ApplyFault.TheVariants.{IllFormed, TooLong, Memory}

-- the expression has no match in the original string
abbrev pub HasNone : Subst → Tree → List ℕ → Type 0
HasNone s t aus = (i : ℕ) → i ≤ length aus → HasNoMatch s.fold aus t i

-- the bytes are the expansion of the replacement by the groups of the best match in the original string
pub record Expands (s : Subst) (t : Tree) (aus bytes : List ℕ) : Type 0 where
  pub groups : List (Option Span)
  pub pieces : List Piece
  pub best : AreBestGroups s.fold aus t groups
  pub spelt : HasPieces s pieces
  pub given : bytes ≡ expansion aus groups pieces

-- the expansion, or that there is no match
abbrev pub TellsExpansion : Subst → Tree → List ℕ → Option (List ℕ) → Type 0
TellsExpansion s t aus None = HasNone s t aus
TellsExpansion s t aus (Some bytes) = Expands s t aus bytes

-- the bytes are the output of a well-formed text over the original string
abbrev pub IsOutput : List ℕ → List ℕ → List ℕ → Type 0
IsOutput text aus bytes = (s : Subst) × (t : Tree) × IsRegexp text s t × Expands s t aus bytes

-- a well-formed text has no match in the original string
abbrev pub IsUnmatched : List ℕ → List ℕ → Type 0
IsUnmatched text aus = (s : Subst) × (t : Tree) × IsRegexp text s t × HasNone s t aus

-- what was applied: an output of 1 to 1,024 bytes was appended; or there is no match or no output, and nothing was appended
abbrev pub IsApplied : List ℕ → List ℕ → List ℕ → List ℕ → Applied → Type 0
IsApplied text aus before after Output =
    (bytes : List ℕ) × IsOutput text aus bytes × (0 < length bytes) × (length bytes ≤ 1024) × (after ≡ before ++ bytes)
IsApplied text aus before after NoMatch = (IsUnmatched text aus ⊎ IsOutput text aus []) × (after ≡ before)

-- why nothing was applied: the text's fault, or an output of more than 1,024 bytes
abbrev pub IsApplyFault : List ℕ → List ℕ → ApplyFault → Type 0
IsApplyFault text aus (IllFormed fault) = (fault ≢ RegexpFault.Memory) × IsRegexpFault text fault
IsApplyFault text aus TooLong = (bytes : List ℕ) × IsOutput text aus bytes × (1024 < length bytes)
IsApplyFault text aus Memory = Unit {0}

-- the fault that a fault of the text is
abbrev pub apply_fault : RegexpFault → ApplyFault
apply_fault (RegexpFault.Split fault) = IllFormed (RegexpFault.Split fault)
apply_fault (RegexpFault.Ere fault) = IllFormed (RegexpFault.Ere fault)
apply_fault (RegexpFault.NoGroup at) = IllFormed (RegexpFault.NoGroup at)
apply_fault RegexpFault.Memory = Memory

-- this answer, or want of memory in its place
abbrev pub IsAnswer : Result Applied ApplyFault → Result Applied ApplyFault → Type 0
IsAnswer result answer = (result ≡ answer) ⊎ (result ≡ Err Memory)
