-- Trees kept as a list of cells, each after its parts: a cell takes as many trees as it has parts and gives one.
use Rattle.std.specs.Prelude.{ℕ, ◌+◌, ◌-◌, ◌*◌, ◌^◌, ◌≡◌, ◌<◌, ◌≤◌, ◌==◌, min, Bool, false, cond, List, [], ◌∷◌, length, take, drop, filter, slice_index_or}
use Rattle.posix_ere.specs.Tree.{Tree, Trees}
use Rattle.posix_ere.specs.Tree.Atom.{byte, any, set, start, end}
use Rattle.posix_ere.specs.Tree.Tree.{atom, alt, branch, group, rep}
use Rattle.posix_ere.specs.Tree.Trees.{none, more}
use Rattle.posix_ere.specs.Parts.{part, weight, times, groups as groups_of}
use Rattle.posix_ere.specs.Nodes.{whole}
use Rattle.posix_ere.specs.Bracket.{ascii}
use Rattle.posix_ere.specs.declared.node.Node.{Node}
use Rattle.posix_ere.specs.declared.node.Node.TheVariants as n
use Rattle.posix_ere.specs.declared.cell.Cell.{Cell}

-- the marked bytes, rising
abbrev pub listed_by : List Bool → List ℕ
listed_by marks = filter (λ b. slice_index_or marks b false) ascii

-- the tree of a node with these marks and parts
abbrev pub tree_of : Node → List Bool → Trees → Tree
tree_of n.Alt marks ts = alt ts
tree_of n.Branch marks ts = branch ts
tree_of (n.Byte b) marks ts = atom (byte b)
tree_of n.Any marks ts = atom any
tree_of (n.Set negated) marks ts = atom (set negated (listed_by marks))
tree_of n.Start marks ts = atom start
tree_of n.End marks ts = atom end
tree_of (n.Group g) marks ts = group g (part ts 0)
tree_of (n.Rep m upto) marks ts = rep m upto (part ts 0)

-- trees, the last first, before other parts
abbrev pub gather : List Tree → Trees → Trees
gather [] ts = ts
gather (t ∷ back) ts = gather back (more t ts)

-- the tree that a node makes of so many trees on a stack, the last first, and the stack after it
abbrev pub made : Node → List Bool → ℕ → List Tree → Tree
made node marks count stack = tree_of node marks (gather (take count stack) none)

abbrev pub put : Node → List Bool → ℕ → List Tree → List Tree
put node marks count stack = made node marks count stack ∷ drop count stack

-- the stack after the cells
abbrev pub stack_from : List Tree → List Cell → List Tree
stack_from stack [] = stack
stack_from stack (c ∷ cs) = stack_from (put c.node c.marks c.count stack) cs

abbrev pub stack_of : List Cell → List Tree
stack_of cells = stack_from [] cells

-- the tree of each cell
abbrev pub trees_from : List Tree → List Cell → List Tree
trees_from stack [] = []
trees_from stack (c ∷ cs) = made c.node c.marks c.count stack ∷ trees_from (put c.node c.marks c.count stack) cs

abbrev pub trees_of : List Cell → List Tree
trees_of cells = trees_from [] cells

-- how many parts a node may have
abbrev pub FitsNode : Node → ℕ → Type 0
FitsNode n.Alt count = Unit {0}
FitsNode n.Branch count = Unit {0}
FitsNode (n.Byte b) count = count ≡ 0
FitsNode n.Any count = count ≡ 0
FitsNode (n.Set negated) count = count ≡ 0
FitsNode n.Start count = count ≡ 0
FitsNode n.End count = count ≡ 0
FitsNode (n.Group g) count = count ≡ 1
FitsNode (n.Rep m upto) count = count ≡ 1

-- the greatest weight that is told
abbrev pub most : ℕ
most = 1_000_000

-- the weight of a node over parts that weigh so much together, at most the greatest that is told
abbrev pub capped : Node → ℕ → ℕ → ℕ
capped n.Alt inside count = min (inside + (count - 1)) most
capped n.Branch inside count = cond (count == 0) 1 inside
capped (n.Byte b) inside count = 1
capped n.Any inside count = 1
capped (n.Set negated) inside count = 1
capped n.Start inside count = 1
capped n.End inside count = 1
capped (n.Group g) inside count = min (1 + inside) most
capped (n.Rep m upto) inside count = min (1 + times m upto * inside) most

-- what trees weigh together
abbrev pub total : List Tree → ℕ
total [] = 0
total (t ∷ ts) = total ts + weight t

-- a cell that stands after others: its parts are there, begin at its start, and its weight is theirs
pub record Settled (before : List Cell) (c : Cell) : Type 0 where
  pub enough : c.count ≤ length (stack_of before)
  pub fits : FitsNode c.node c.count
  pub below : c.start ≤ length before
  pub rest : stack_of (take c.start before) ≡ drop c.count (stack_of before)
  pub weighs : c.weight ≡ min (weight (made c.node c.marks c.count (stack_of before))) most

-- each cell stands so after those before it
abbrev pub AreCells : List Cell → Type 0
AreCells cells = (k : ℕ) (d : Cell) → k < length cells → Settled (take k cells) (slice_index_or cells k d)

-- the trees before the cell `high` that end at the cell `low`: so many, of this weight together
pub record Walked (cells : List Cell) (low high back weight : ℕ) : Type 0 where
  pub within : low ≤ high
  pub stack : stack_of (take low cells) ≡ drop back (stack_of (take high cells))
  pub weighs : weight ≡ min (total (take back (stack_of (take high cells)))) most

-- cells whose last tree weighs at most 512 and has so many groups
pub record IsExpressionOf (cells : List Cell) (groups : ℕ) : Type 0 where
  pub some : 0 < length cells
  pub small : length cells < 2 ^ 32
  pub light : weight (whole (trees_of cells)) ≤ 512
  pub numbered : groups ≡ groups_of (whole (trees_of cells))
