-- What reading a text as an expression answers.
use Rattle.std.specs.Prelude.{take, ℕ, ◌≡◌, ◌≢◌, ◌<◌, ◌⊎◌, min, List, ◌++◌, Option}
use Rattle.posix_ere.specs.Tree.{Tree}
use Rattle.posix_ere.specs.Parts.{weight}
use Rattle.posix_ere.specs.Grammar.{Reads}
use Rattle.std.specs.List.{slice_get}
use Rattle.posix_ere.specs.Places.{CanBeClosed, IsBrokenPlace}
use Rattle.posix_ere.specs.Reasons.{IsReason}
use Rattle.posix_ere.specs.declared.why.Why.{Why}
use Rattle.posix_ere.specs.declared.why.EreFault.{EreFault}
use Rattle.posix_ere.specs.declared.why.EreFault.TheVariants.{Broken, TooHeavy, Memory}

-- a text has at most one tree
abbrev pub HasOneTree : Type 0
HasOneTree = (w : List ℕ) (t u : Tree) → Reads w t → Reads w u → t ≡ u

-- no two rows of the reasons fit one place
abbrev pub HasOneReason : Type 0
HasOneReason = (p : List ℕ) (next : Option ℕ) (w v : Why) → IsReason p next w → IsReason p next v → w ≡ v

-- a text with a tree can be closed after each of its bytes
abbrev pub PrefixesClose : Type 0
PrefixesClose = (p rest : List ℕ) (t : Tree) → Reads (p ++ rest) t → CanBeClosed p

-- what a fault says of a text
abbrev pub IsFaultOf : List ℕ → EreFault → Type 0
IsFaultOf w (Broken at why) =
    ((t : Tree) → Reads w t → ⊥) × IsBrokenPlace w at × IsReason (take at w) (slice_get w at) why
IsFaultOf w (TooHeavy told) = (t : Tree) × Reads w t × (512 < weight t) × (told ≡ min (weight t) 1_000_000)
IsFaultOf w Memory = Unit {0}

-- a text has at most one fault, being out of memory apart
abbrev pub HasOneFault : Type 0
HasOneFault = (w : List ℕ) (e f : EreFault) → e ≢ Memory → f ≢ Memory → IsFaultOf w e → IsFaultOf w f → e ≡ f

-- a fault where the text has this tree: it is too heavy, or memory is out
abbrev pub IsFaultAt : Tree → EreFault → Type 0
IsFaultAt t e = (e ≡ Memory) ⊎ ((512 < weight t) × (e ≡ TooHeavy (min (weight t) 1_000_000)))
