use Rattle.std.proofs.Common.{◌≡◌, ℕ, ◌<◌, length, subst, sym}
use Rattle.posix_ere.specs.Parts.{parts_of, count_of, weight, weights}
use Rattle.posix_ere.specs.Nodes.{tree_at}
use Rattle.submatch.specs.Ends.{IsLeaf}
use Rattle.submatch.specs.Table.{IsMade, AreAlive, IsShare, column_at, square}
use Rattle.submatch.proofs.AddingLemmas.{map_ok}
use Rattle.submatch.proofs.EndsOfNodesLemmas.{is_leaf}
use Rattle.submatch.proofs.MakingLemmas.{group_passes, single_alive, group_inside, one_inside, one_alive, one_dead}
use Rattle.submatch.proofs.SharesLemmas.{share_leaf, share_group, share_rep}
use Rattle.submatch.proofs.search.Search.made.Goals as goal

pub made_through-requires-clause-passes : goal.made_through-requires-clause-passes
made_through-requires-clause-passes g c =
    group_passes c.args.self.now.fold c.args.self.now.text.now c.args.self.now.ere.now
    (tree_at c.args.self.now.ere.now c.args.at) c.in-Group.field-0 (sym c.in-Group.ensures)

pub made_leaf-requires-clause-leaf : goal.made_leaf-requires-clause-leaf
made_leaf-requires-clause-leaf g c = (subst IsLeaf c.node.ensures (is_leaf c.node.result c.in-Byte.is))

pub returns-in-Group-clause-made : goal.returns-in-Group-clause-made
returns-in-Group-clause-made g c = c.made_through.ensures.made

pub returns-in-Group-clause-most : goal.returns-in-Group-clause-most
returns-in-Group-clause-most g c =
    λ from h. (share_group (AreAlive c.args.table.now c.args.inside.items) ⊥
    (tree_at c.args.self.now.ere.now c.args.at) c.in-Group.field-0
    (square c.args.self.now.text.now) from c.args.steps.now
    (sym c.in-Group.ensures) (λ a. absurd a) h).most

pub returns-in-Group-clause-share : goal.returns-in-Group-clause-share
returns-in-Group-clause-share g c =
    let one : length c.args.inside.items ≡ 1 =
    group_inside c.args.self.now.ere.now c.args.table.now c.args.at c.in-Group.field-0 c.args.inside.items
    (sym c.in-Group.ensures) c.requires.inside in
    λ from h. share_group (AreAlive c.args.table.now c.args.inside.items)
    (0 < length (column_at c.args.table.now c.made_through.result.own))
    (tree_at c.args.self.now.ere.now c.args.at) c.in-Group.field-0
    (square c.args.self.now.text.now) from c.args.steps.now
    (sym c.in-Group.ensures) (single_alive c.args.table.now c.args.inside.items c.made_through.result.own one c.made_through.ensures.same) h

pub returns-in-Byte-clause-most : goal.returns-in-Byte-clause-most
returns-in-Byte-clause-most g c =
    λ from h. (share_leaf (AreAlive c.args.table.now c.args.inside.items) ⊥ (tree_at c.args.self.now.ere.now c.args.at)
    (square c.args.self.now.text.now) from c.args.steps.now
    (subst IsLeaf c.node.ensures (is_leaf c.node.result c.in-Byte.is)) h).most

pub returns-in-Byte-clause-share : goal.returns-in-Byte-clause-share
returns-in-Byte-clause-share g c =
    map_ok (IsMade c.args.self.now.fold c.args.self.now.text.now c.args.self.now.ere.now c.args.table.now
    c.made_leaf.new.table c.args.at)
    (λ p. (from : ℕ) → IsShare (AreAlive c.args.table.now c.args.inside.items)
    (count_of (parts_of (tree_at c.args.self.now.ere.now c.args.at)))
    (weights (parts_of (tree_at c.args.self.now.ere.now c.args.at)))
    (square c.args.self.now.text.now) from c.args.steps.now
    → IsShare (0 < length (column_at c.made_leaf.new.table p.own)) 1
    (weight (tree_at c.args.self.now.ere.now c.args.at))
    (square c.args.self.now.text.now) from c.args.steps.now) c.made_leaf.result
    (λ p made from h. share_leaf (AreAlive c.args.table.now c.args.inside.items)
    (0 < length (column_at c.made_leaf.new.table p.own)) (tree_at c.args.self.now.ere.now c.args.at)
    (square c.args.self.now.text.now) from c.args.steps.now
    (subst IsLeaf c.node.ensures (is_leaf c.node.result c.in-Byte.is)) h)
    c.made_leaf.ensures

pub returns-in-Rep-clause-most : goal.returns-in-Rep-clause-most
returns-in-Rep-clause-most g c =
    let one : length c.args.inside.items ≡ 1 =
    one_inside c.args.self.now.ere.now c.args.table.now c.args.at c.in-Rep.least c.in-Rep.most c.args.inside.items
    (sym c.in-Rep.ensures) c.requires.inside in
    λ from h. (share_rep (AreAlive c.args.table.now c.args.inside.items) ⊥
    (tree_at c.args.self.now.ere.now c.args.at) c.in-Rep.least c.in-Rep.most
    (square c.args.self.now.text.now) from c.args.steps.now c.made_rep.new.steps
    (sym c.in-Rep.ensures) c.made_rep.ensures.most (λ dead. c.made_rep.ensures.idle (one_dead c.args.table.now c.args.inside.items one dead))
    (one_alive c.args.table.now c.args.inside.items one) h).most

pub returns-in-Rep-clause-share : goal.returns-in-Rep-clause-share
returns-in-Rep-clause-share g c =
    let one : length c.args.inside.items ≡ 1 =
    one_inside c.args.self.now.ere.now c.args.table.now c.args.at c.in-Rep.least c.in-Rep.most c.args.inside.items
    (sym c.in-Rep.ensures) c.requires.inside in
    map_ok (IsMade c.args.self.now.fold c.args.self.now.text.now c.args.self.now.ere.now c.args.table.now
    c.made_rep.new.table c.args.at)
    (λ p. (from : ℕ) → IsShare (AreAlive c.args.table.now c.args.inside.items)
    (count_of (parts_of (tree_at c.args.self.now.ere.now c.args.at)))
    (weights (parts_of (tree_at c.args.self.now.ere.now c.args.at)))
    (square c.args.self.now.text.now) from c.args.steps.now
    → IsShare (0 < length (column_at c.made_rep.new.table p.own)) 1
    (weight (tree_at c.args.self.now.ere.now c.args.at))
    (square c.args.self.now.text.now) from c.made_rep.new.steps) c.made_rep.result
    (λ p made from h. share_rep (AreAlive c.args.table.now c.args.inside.items)
    (0 < length (column_at c.made_rep.new.table p.own))
    (tree_at c.args.self.now.ere.now c.args.at) c.in-Rep.least c.in-Rep.most
    (square c.args.self.now.text.now) from c.args.steps.now c.made_rep.new.steps
    (sym c.in-Rep.ensures) c.made_rep.ensures.most (λ dead. c.made_rep.ensures.idle (one_dead c.args.table.now c.args.inside.items one dead))
    (one_alive c.args.table.now c.args.inside.items one) h)
    c.made_rep.ensures.made
