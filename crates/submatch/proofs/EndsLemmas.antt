-- Where parses may end: not before their start, and within the text where they begin within it.
use Rattle.std.proofs.Common.{◌≡◌, ℕ, zero, suc, ◌+◌, ◌<◌, ◌≤◌, Bool, true, false, List, length, Option, arith}
use Rattle.std.proofs.lemmas.Option.{slice_get_within}
use Rattle.posix_ere.specs.Tree.{Atom, byte, any, set, start, end, Tree, atom, alt, branch, group, rep, Trees, none, more}
use Rattle.submatch.specs.Bytes.{Covers, CoversByte}
use Rattle.submatch.specs.Parses.{Parses, no_more, next, IsOneParse, AreParses, IsNext, AreNoParses, AreIterations, IsParse, ArePieces, IsBranch}

-- j is not before i, and where i is in a text of n bytes, so is j
pub record IsWithin (n i j : ℕ) : Type 0 where
  pub forward : i ≤ j
  pub inside : i ≤ n → j ≤ n

byte_within : (test : ℕ → Bool) (w : List ℕ) (i j : ℕ) → CoversByte test w i j → IsWithin (length w) i j
byte_within test w i j h =
    let below : i < length w = slice_get_within w i h.1 h.2 in
    let e : j ≡ i + 1 = h.0 in
    record { forward = omega arith; inside = omega arith }

atom_within : (fold : Bool) (w : List ℕ) (x : Atom) (i j : ℕ) → Covers fold w x i j → IsWithin (length w) i j
atom_within fold w (byte x) i j h = byte_within _ w i j h
atom_within fold w any i j h = byte_within _ w i j h
atom_within fold w (set false bytes) i j h = byte_within _ w i j h
atom_within fold w (set true bytes) i j h = byte_within _ w i j h
atom_within fold w start i j h = record { forward = omega arith; inside = omega arith }
atom_within fold w end i j h = record { forward = omega arith; inside = omega arith }

-- each parse ends within n
abbrev pub EndsWithin : ℕ → IsOneParse → Type 0
EndsWithin n One = (i j c : ℕ) (a : Parses) → One i j c a → IsWithin n i j

-- each row of parses ends within n
abbrev pub EndWithin : ℕ → AreParses → Type 0
EndWithin n More = (i j : ℕ) (ps : Parses) → More i j ps → IsWithin n i j

along : {n i j k : ℕ} → IsWithin n i j → IsWithin n j k → IsWithin n i k
along p q = record { forward = omega arith; inside = λ h. q.inside (p.inside h) }

none_within : (n : ℕ) → EndWithin n AreNoParses
none_within n i j ps h = record { forward = omega arith; inside = omega arith }

next_within : (n : ℕ) (One : IsOneParse) (More : AreParses) → EndsWithin n One → EndWithin n More →
    EndWithin n (IsNext One More)
next_within n One More one others i j no_more h = elim h [ ]
next_within n One More one others i j (next e c a rest) h = along (one i e c a h.0) (others e j rest h.1)

pub iterations_within : (n : ℕ) (One : IsOneParse) (m : ℕ) (o : Option ℕ) → EndsWithin n One →
    (k i j : ℕ) (ps : Parses) → AreIterations One m o k i j ps → IsWithin n i j
iterations_within n One m o one k i j no_more h = record { forward = omega arith; inside = omega arith }
iterations_within n One m o one k i j (next e c a rest) h =
    along (one i e c a (h.0).holds) (iterations_within n One m o one (suc k) e j rest h.1)

mutual
  pub parse_within : (fold : Bool) (w : List ℕ) (t : Tree) → EndsWithin (length w) (IsParse fold w t)
  parse_within fold w (atom x) i j c a h = atom_within fold w x i j h.0
  parse_within fold w (alt ts) i j c a h = branch_within fold w ts c i j a h
  parse_within fold w (branch ts) i j c a h = pieces_within fold w ts i j a h.1
  parse_within fold w (group g t) i j c a h =
      next_within (length w) (IsParse fold w t) AreNoParses (parse_within fold w t) (none_within (length w)) i j a h.1
  parse_within fold w (rep m n t) i j c a h =
      iterations_within (length w) (IsParse fold w t) m n (parse_within fold w t) 0 i j a h.1

  pub pieces_within : (fold : Bool) (w : List ℕ) (ts : Trees) → EndWithin (length w) (ArePieces fold w ts)
  pieces_within fold w none i j ps h = none_within (length w) i j ps h
  pieces_within fold w (more t ts) i j ps h =
      next_within (length w) (IsParse fold w t) (ArePieces fold w ts) (parse_within fold w t) (pieces_within fold w ts) i j ps h

  branch_within : (fold : Bool) (w : List ℕ) (ts : Trees) (c : ℕ) → EndWithin (length w) (IsBranch fold w ts c)
  branch_within fold w none c i j ps h = elim h [ ]
  branch_within fold w (more t ts) zero i j ps h =
      next_within (length w) (IsParse fold w t) AreNoParses (parse_within fold w t) (none_within (length w)) i j ps h
  branch_within fold w (more t ts) (suc c) i j ps h = branch_within fold w ts c i j ps h
