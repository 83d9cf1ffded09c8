-- What is told of a tree node by node.
use Rattle.std.specs.Prelude.{ℕ, ◌-◌, List, [], length, slice_index_or}
use Rattle.posix_ere.specs.Tree.{Tree}
use Rattle.posix_ere.specs.Tree.Atom.{byte, any, set, start, end}
use Rattle.posix_ere.specs.Tree.Tree.{atom, alt, branch, group, rep}
use Rattle.posix_ere.specs.Tree.Trees.{none}
use Rattle.posix_ere.specs.declared.node.Node.{Node}
use Rattle.posix_ere.specs.declared.node.Node.TheVariants as n

-- the node of a tree
abbrev pub node_of : Tree → Node
node_of (atom (byte b)) = n.Byte b
node_of (atom any) = n.Any
node_of (atom (set negated bytes)) = n.Set negated
node_of (atom start) = n.Start
node_of (atom end) = n.End
node_of (alt ts) = n.Alt
node_of (branch ts) = n.Branch
node_of (group g t) = n.Group g
node_of (rep m upto t) = n.Rep m upto

-- the bytes that a bracket lists
abbrev pub listed_of : Tree → List ℕ
listed_of (atom (set negated bytes)) = bytes
listed_of _ = []

-- a tree that is a bracket
abbrev pub IsSet : Tree → Type 0
IsSet (atom (set negated bytes)) = Unit {0}
IsSet _ = ⊥

-- the tree with this number
abbrev pub tree_at : List Tree → ℕ → Tree
tree_at trees at = slice_index_or trees at (branch none)

-- the whole tree, which is the last
abbrev pub whole : List Tree → Tree
whole trees = tree_at trees (length trees - 1)
