-- What is told of a tree: its parts, its groups and its weight.
use Rattle.std.specs.Prelude.{ℕ, zero, suc, ◌+◌, ◌-◌, ◌*◌, max, Option, Some, None}
use Rattle.posix_ere.specs.Tree.{Tree, Trees}
use Rattle.posix_ere.specs.Tree.Tree.{atom, alt, branch, group, rep}
use Rattle.posix_ere.specs.Tree.Trees.{none, more}

-- how many parts
abbrev pub count_of : Trees → ℕ
count_of none = 0
count_of (more t ts) = suc (count_of ts)

-- the part with this number, from 0
abbrev pub part : Trees → ℕ → Tree
part none k = branch none
part (more t ts) zero = t
part (more t ts) (suc k) = part ts k

-- the parts of a tree, in the order of the text
abbrev pub parts_of : Tree → Trees
parts_of (atom x) = none
parts_of (alt ts) = ts
parts_of (branch ts) = ts
parts_of (group g t) = more t none
parts_of (rep m n t) = more t none

abbrev mutual
  -- how many groups are in a tree
  pub groups : Tree → ℕ
  groups (atom x) = 0
  groups (alt ts) = groups_in ts
  groups (branch ts) = groups_in ts
  groups (group g t) = suc (groups t)
  groups (rep m n t) = groups t

  pub groups_in : Trees → ℕ
  groups_in none = 0
  groups_in (more t ts) = groups t + groups_in ts

-- by what the weight of a repeated part is multiplied: the upper number, or the lower where there is no upper, at
-- least 1
abbrev pub times : ℕ → Option ℕ → ℕ
times m None = max m 1
times m (Some n) = max n 1

abbrev mutual
  -- the weight of a tree (this project's own)
  pub weight : Tree → ℕ
  weight (atom x) = 1
  weight (alt ts) = weights ts + (count_of ts - 1)
  weight (branch none) = 1
  weight (branch (more t ts)) = weight t + weights ts
  weight (group g t) = 1 + weight t
  weight (rep m n t) = 1 + times m n * weight t

  pub weights : Trees → ℕ
  weights none = 0
  weights (more t ts) = weight t + weights ts
