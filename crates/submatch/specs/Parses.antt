-- Parses: the trees of spans by which a part of an expression covers a stretch of a text (this project's own).
use Rattle.std.specs.Prelude.{◌≡◌, ℕ, zero, suc, ◌<◌, ◌≤◌, max, Bool, List, Option, Some, None}
use Rattle.posix_ere.specs.Tree.{Tree, atom, alt, branch, group, rep, Trees, none, more}
use Rattle.submatch.specs.Bytes.{Covers}

-- Parses one after another. A parse is told by where it ends, by the branch that it takes, counted from 0 (0 where there
-- is no choice), and by the parses inside it. It begins where the one before it ends, so no start is kept.
pub data Parses : Type 0 where
  no_more : Parses
  next : (to choice : ℕ) → (inside rest : Parses) → Parses

-- which choice and which parses inside cover the text from one place to another
abbrev pub IsOneParse : Type 1
IsOneParse = (from to choice : ℕ) → Parses → Type 0

-- which parses, one after another, cover the text from one place to another
abbrev pub AreParses : Type 1
AreParses = (from to : ℕ) → Parses → Type 0

-- one parse and then others
abbrev pub IsNext : IsOneParse → AreParses → AreParses
IsNext One More i j no_more = ⊥
IsNext One More i j (next e c a rest) = One i e c a × More e j rest

-- no parses, which cover nothing
abbrev pub AreNoParses : AreParses
AreNoParses i j ps = (i ≡ j) × (ps ≡ no_more)

-- one parse alone
abbrev pub IsAlone : IsOneParse → AreParses
IsAlone One = IsNext One AreNoParses

-- the count k is below the greatest count, if there is one
abbrev pub IsBelow : ℕ → Option ℕ → Type 0
IsBelow k None = Unit {0}
IsBelow k (Some n) = k < n

-- Iteration k + 1 of a repetition from m to n times. Iteration k, counted from 1, may be empty only where k is at most
-- the greater of m and 1.
pub record IsIteration (One : IsOneParse) (m : ℕ) (n : Option ℕ) (k i j c : ℕ) (a : Parses) : Type 0 where
  pub allowed : IsBelow k n
  pub advances : i ≡ j → suc k ≤ max m 1
  pub holds : One i j c a

-- the iterations of a repetition from m to n times that come after the first k
abbrev pub AreIterations : IsOneParse → ℕ → Option ℕ → ℕ → AreParses
AreIterations One m n k i j no_more = (i ≡ j) × (m ≤ k)
AreIterations One m n k i j (next e c a rest) = IsIteration One m n k i e c a × AreIterations One m n (suc k) e j rest

abbrev mutual
  -- with fold or without, a part covers the text w from i to j with this choice and these parses inside
  pub IsParse : Bool → List ℕ → Tree → IsOneParse
  IsParse fold w (atom x) i j c a = Covers fold w x i j × (c ≡ 0) × (a ≡ no_more)
  IsParse fold w (alt ts) i j c a = IsBranch fold w ts c i j a
  IsParse fold w (branch ts) i j c a = (c ≡ 0) × ArePieces fold w ts i j a
  IsParse fold w (group g t) i j c a = (c ≡ 0) × IsAlone (IsParse fold w t) i j a
  IsParse fold w (rep m n t) i j c a = (c ≡ 0) × AreIterations (IsParse fold w t) m n 0 i j a

  -- one parse of each piece, end to end
  pub ArePieces : Bool → List ℕ → Trees → AreParses
  ArePieces fold w none i j ps = AreNoParses i j ps
  ArePieces fold w (more t ts) i j ps = IsNext (IsParse fold w t) (ArePieces fold w ts) i j ps

  -- a parse of branch number c alone
  pub IsBranch : Bool → List ℕ → Trees → ℕ → AreParses
  IsBranch fold w none c i j ps = ⊥
  IsBranch fold w (more t ts) zero i j ps = IsAlone (IsParse fold w t) i j ps
  IsBranch fold w (more t ts) (suc c) i j ps = IsBranch fold w ts c i j ps
