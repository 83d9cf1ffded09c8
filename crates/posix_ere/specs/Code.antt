-- How the logic stores a tree: as a list of marks, each before what it holds.
use Rattle.std.specs.Prelude.{ℕ, zero, suc, ◌≡◌, refl, true, false, List, [], ◌∷◌, Option, Some, None}
use Rattle.std.proofs.Common.{ap, ◌∙◌}
use Rattle.std.specs.Coded.{Coded, code_by, coded×, coded_ℕ, coded_list}
use Rattle.posix_ere.specs.Tree.{Atom, Tree, Trees}
use Rattle.posix_ere.specs.Tree.Atom.{byte, any, set, start, end}
use Rattle.posix_ere.specs.Tree.Tree.{atom, alt, branch, group, rep}
use Rattle.posix_ere.specs.Tree.Trees.{none, more}

pub data Mark : Type 0 where
  row : Mark
  leaf : Atom → Mark
  alternatives : Mark
  pieces : Mark
  numbered : ℕ → Mark
  repeated : ℕ → Option ℕ → Mark

abbrev pub mark_pair : Mark → ℕ × List ℕ
mark_pair row = (0, [])
mark_pair (leaf (byte b)) = (1, b ∷ [])
mark_pair (leaf any) = (2, [])
mark_pair (leaf (set true bytes)) = (3, bytes)
mark_pair (leaf (set false bytes)) = (4, bytes)
mark_pair (leaf start) = (5, [])
mark_pair (leaf end) = (6, [])
mark_pair alternatives = (7, [])
mark_pair pieces = (8, [])
mark_pair (numbered g) = (9, g ∷ [])
mark_pair (repeated m None) = (10, m ∷ [])
mark_pair (repeated m (Some n)) = (11, n ∷ m ∷ [])

abbrev pub first : List ℕ → ℕ
first [] = 0
first (x ∷ xs) = x

abbrev pub second : List ℕ → ℕ
second [] = 0
second (x ∷ xs) = first xs

abbrev pub pair_mark : ℕ × List ℕ → Mark
pair_mark (zero, xs) = row
pair_mark (suc zero, xs) = leaf (byte (first xs))
pair_mark (suc (suc zero), xs) = leaf any
pair_mark (suc (suc (suc zero)), xs) = leaf (set true xs)
pair_mark (suc (suc (suc (suc zero))), xs) = leaf (set false xs)
pair_mark (suc (suc (suc (suc (suc zero)))), xs) = leaf start
pair_mark (suc (suc (suc (suc (suc (suc zero))))), xs) = leaf end
pair_mark (suc (suc (suc (suc (suc (suc (suc zero)))))), xs) = alternatives
pair_mark (suc (suc (suc (suc (suc (suc (suc (suc zero))))))), xs) = pieces
pair_mark (suc (suc (suc (suc (suc (suc (suc (suc (suc zero)))))))), xs) = numbered (first xs)
pair_mark (suc (suc (suc (suc (suc (suc (suc (suc (suc (suc zero))))))))), xs) = repeated (first xs) None
pair_mark (suc (suc (suc (suc (suc (suc (suc (suc (suc (suc (suc n)))))))))), xs) = repeated (second xs) (Some (first xs))

pub mark_again : (m : Mark) → pair_mark (mark_pair m) ≡ m
mark_again row = refl
mark_again (leaf (byte b)) = refl
mark_again (leaf any) = refl
mark_again (leaf (set true bytes)) = refl
mark_again (leaf (set false bytes)) = refl
mark_again (leaf start) = refl
mark_again (leaf end) = refl
mark_again alternatives = refl
mark_again pieces = refl
mark_again (numbered g) = refl
mark_again (repeated m None) = refl
mark_again (repeated m (Some n)) = refl

abbrev mutual
  pub marks : Tree → List Mark → List Mark
  marks (atom x) ms = leaf x ∷ ms
  marks (alt ts) ms = alternatives ∷ marks_in ts (row ∷ ms)
  marks (branch ts) ms = pieces ∷ marks_in ts (row ∷ ms)
  marks (group g t) ms = numbered g ∷ marks t (row ∷ ms)
  marks (rep m n t) ms = repeated m n ∷ marks t (row ∷ ms)

  pub marks_in : Trees → List Mark → List Mark
  marks_in none ms = ms
  marks_in (more t ts) ms = marks t (marks_in ts ms)

abbrev pub push : Tree → List Trees → List Trees
push t [] = []
push t (r ∷ rs) = more t r ∷ rs

abbrev pub over : (Tree → Tree) → List Trees → List Trees
over f [] = []
over f (none ∷ rs) = []
over f (more t r ∷ rs) = push (f t) rs

abbrev pub take_row : (Trees → Tree) → List Trees → List Trees
take_row f [] = []
take_row f (r ∷ rs) = push (f r) rs

abbrev pub read_mark : Mark → List Trees → List Trees
read_mark row rs = none ∷ rs
read_mark (leaf x) rs = push (atom x) rs
read_mark alternatives rs = take_row alt rs
read_mark pieces rs = take_row branch rs
read_mark (numbered g) rs = over (group g) rs
read_mark (repeated m n) rs = over (rep m n) rs

abbrev pub read_marks : List Mark → List Trees
read_marks [] = []
read_marks (m ∷ ms) = read_mark m (read_marks ms)

abbrev pub push_all : Trees → List Trees → List Trees
push_all none rs = rs
push_all (more t ts) rs = push t (push_all ts rs)

pub push_all_row : (ts : Trees) (rs : List Trees) → push_all ts (none ∷ rs) ≡ ts ∷ rs
push_all_row none rs = refl
push_all_row (more t ts) rs = ap (push t) (push_all_row ts rs)

mutual
  pub marks_again : (t : Tree) (ms : List Mark) → read_marks (marks t ms) ≡ push t (read_marks ms)
  marks_again (atom x) ms = refl
  marks_again (alt ts) ms = ap (take_row alt) (marks_in_again ts (row ∷ ms) ∙ push_all_row ts (read_marks ms))
  marks_again (branch ts) ms = ap (take_row branch) (marks_in_again ts (row ∷ ms) ∙ push_all_row ts (read_marks ms))
  marks_again (group g t) ms = ap (over (group g)) (marks_again t (row ∷ ms))
  marks_again (rep m n t) ms = ap (over (rep m n)) (marks_again t (row ∷ ms))

  pub marks_in_again : (ts : Trees) (ms : List Mark) → read_marks (marks_in ts ms) ≡ push_all ts (read_marks ms)
  marks_in_again none ms = refl
  marks_in_again (more t ts) ms = marks_again t (marks_in ts ms) ∙ ap (push t) (marks_in_again ts ms)

abbrev pub only : List Trees → Tree
only [] = branch none
only (none ∷ rs) = branch none
only (more t r ∷ rs) = t

abbrev pub to_marks : Tree → List Mark
to_marks t = marks t (row ∷ [])

abbrev pub from_marks : List Mark → Tree
from_marks ms = only (read_marks ms)

pub tree_again : (t : Tree) → from_marks (to_marks t) ≡ t
tree_again t = ap only (marks_again t (row ∷ []))

abbrev pub tree_code : Coded Tree
tree_code =
    code_by (List Mark) (coded_list (code_by (ℕ × List ℕ) (coded× coded_ℕ (coded_list coded_ℕ)) mark_pair pair_mark mark_again))
    to_marks from_marks tree_again

-- trees by number
abbrev pub trees_code : Coded (List Tree)
trees_code = coded_list tree_code
