-- The laws of parses and their order, as statements (this project's own).
use Rattle.std.specs.Prelude.{◌≡◌, ◌≢◌, ℕ, suc, ◌<◌, ◌≤◌, ◌⊎◌, ◌↔◌, Bool, List, length, Option}
use Rattle.posix_ere.specs.Tree.{Tree, alt, branch, group, rep, Trees, more}
use Rattle.submatch.specs.Parses.{Parses, no_more, next, IsParse, ArePieces, IsBranch, IsAlone, IsIteration, AreIterations}
use Rattle.submatch.specs.Greater.{IsGreater, AreGreatest, IsGreatestParse, IsGreedy}
use Rattle.submatch.specs.Best.{IsBestMatch, HasNoMatch}

-- of two different parses of one part from one start, exactly one is greater
abbrev pub OneIsGreater : Type 0
OneIsGreater = (fold : Bool) (w : List ℕ) (t : Tree) (i j k : ℕ) (ps qs : Parses) →
    IsAlone (IsParse fold w t) i j ps → IsAlone (IsParse fold w t) i k qs → ps ≢ qs →
    (IsGreater ps qs × (IsGreater qs ps → ⊥)) ⊎ (IsGreater qs ps × (IsGreater ps qs → ⊥))

-- the order is transitive
abbrev pub GreaterIsTransitive : Type 0
GreaterIsTransitive = (ps qs rs : Parses) → IsGreater ps qs → IsGreater qs rs → IsGreater ps rs

-- where a part has a parse over a stretch of the text, one of its parses over it is greater than every other
abbrev pub HasGreatest : Type 0
HasGreatest = (fold : Bool) (w : List ℕ) (t : Tree) (i j c : ℕ) (a : Parses) →
    i ≤ length w → IsParse fold w t i j c a →
    (d : ℕ) × (b : Parses) × IsGreatestParse (IsParse fold w t i j) d b

-- the greatest parse of a branch is that whose pieces are the greatest row of parses
abbrev pub BranchHasGreatestPieces : Type 0
BranchHasGreatestPieces = (fold : Bool) (w : List ℕ) (ts : Trees) (i j c : ℕ) (a : Parses) →
    IsGreatestParse (IsParse fold w (branch ts) i j) c a ↔ (c ≡ 0) × AreGreatest (ArePieces fold w ts i j) a

-- of pieces, the first takes the longest end from which the other pieces cover the rest, and so on from there
abbrev pub PiecesAreGreedy : Type 0
PiecesAreGreedy = (fold : Bool) (w : List ℕ) (t : Tree) (ts : Trees) (i j e c : ℕ) (a rest : Parses) →
    AreGreatest (ArePieces fold w (more t ts) i j) (next e c a rest) ↔
    IsGreedy (IsParse fold w t) (ArePieces fold w ts) i j e c a rest

-- the greatest parse of a repetition is that whose iterations are the greatest row of parses
abbrev pub RepetitionHasGreatestIterations : Type 0
RepetitionHasGreatestIterations = (fold : Bool) (w : List ℕ) (t : Tree) (m : ℕ) (n : Option ℕ) (i j c : ℕ) (a : Parses) →
    IsGreatestParse (IsParse fold w (rep m n t) i j) c a ↔
    (c ≡ 0) × AreGreatest (AreIterations (IsParse fold w t) m n 0 i j) a

-- after k iterations, no further one comes only where no row of one or more covers the rest
abbrev pub IterationsStopLast : Type 0
IterationsStopLast = (fold : Bool) (w : List ℕ) (t : Tree) (m : ℕ) (n : Option ℕ) (k i j : ℕ) →
    AreGreatest (AreIterations (IsParse fold w t) m n k i j) no_more ↔
    AreIterations (IsParse fold w t) m n k i j no_more ×
    ((e c : ℕ) (a rest : Parses) → AreIterations (IsParse fold w t) m n k i j (next e c a rest) → ⊥)

-- after k iterations, the next takes the longest end from which further ones, counted on, cover the rest, and so on
abbrev pub IterationsAreGreedy : Type 0
IterationsAreGreedy = (fold : Bool) (w : List ℕ) (t : Tree) (m : ℕ) (n : Option ℕ) (k i j e c : ℕ) (a rest : Parses) →
    AreGreatest (AreIterations (IsParse fold w t) m n k i j) (next e c a rest) ↔
    IsGreedy (IsIteration (IsParse fold w t) m n k) (AreIterations (IsParse fold w t) m n (suc k)) i j e c a rest

-- the greatest parse of alternatives takes the earliest branch that has a parse there, and that branch's greatest parse
abbrev pub AlternativesTakeEarliest : Type 0
AlternativesTakeEarliest = (fold : Bool) (w : List ℕ) (ts : Trees) (i j c : ℕ) (a : Parses) →
    IsGreatestParse (IsParse fold w (alt ts) i j) c a ↔
    ((d : ℕ) (b : Parses) → d < c → IsBranch fold w ts d i j b → ⊥) × AreGreatest (IsBranch fold w ts c i j) a

-- the greatest parse of a part alone is its greatest parse up to that end
abbrev pub AloneIsGreatest : Type 0
AloneIsGreatest = (fold : Bool) (w : List ℕ) (t : Tree) (i j e c : ℕ) (a rest : Parses) →
    AreGreatest (IsAlone (IsParse fold w t) i j) (next e c a rest) ↔
    (e ≡ j) × (rest ≡ no_more) × IsGreatestParse (IsParse fold w t i j) c a

-- the greatest parse of a group has the greatest parse of its inside
abbrev pub GroupHasGreatestInside : Type 0
GroupHasGreatestInside = (fold : Bool) (w : List ℕ) (g : ℕ) (t : Tree) (i j c : ℕ) (a : Parses) →
    IsGreatestParse (IsParse fold w (group g t) i j) c a ↔
    (c ≡ 0) × AreGreatest (IsAlone (IsParse fold w t) i j) a

-- at the least start that has a parse there is exactly one best match, or no start has one
abbrev pub OneIsBest : Type 0
OneIsBest = (fold : Bool) (w : List ℕ) (t : Tree) →
    ((i j c : ℕ) × (a : Parses) × IsBestMatch fold w t i j c a ×
    ((k l d : ℕ) (b : Parses) → IsBestMatch fold w t k l d b → (k ≡ i) × (l ≡ j) × (d ≡ c) × (b ≡ a)))
    ⊎ ((i : ℕ) → i ≤ length w → HasNoMatch fold w t i)
