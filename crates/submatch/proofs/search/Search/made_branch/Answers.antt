use Rattle.std.proofs.Common.{◌≡◌, ℕ, ◌<◌, ◌≤◌, ◌∙◌, length, subst, sym, arith, true}
use Rattle.std.proofs.lemmas.Bool.{eqb-true}
use Rattle.std.specs.Vec.{vec_len}
use Rattle.posix_ere.specs.Parts.{parts_of, count_of, weight, weights}
use Rattle.posix_ere.specs.Nodes.{tree_at}
use Rattle.submatch.specs.Table.{IsMade, AreAlive, IsShare, column_at, square}
use Rattle.submatch.proofs.AddingLemmas.{map_ok}
use Rattle.submatch.proofs.MakingLemmas.{dead_branch, some_of}
use Rattle.submatch.proofs.SharesLemmas.{share_dead, share_empty, share_pieces, branch_weighs}
use Rattle.submatch.proofs.search.Search.made_branch.Goals as goal

pub made_empty-requires-clause-empty : goal.made_empty-requires-clause-empty
made_empty-requires-clause-empty g c =
    let z : vec_len c.args.inside ≡ 0 = eqb-true (vec_len c.args.inside) 0 (sym c.is_empty.ensures ∙ c.if-is_empty.true) in
    let none : length c.args.inside.items ≡ 0 = omega arith in sym c.requires.inside.count ∙ none

pub made_pieces-requires-clause-some : goal.made_pieces-requires-clause-some
made_pieces-requires-clause-some g c = let some : 1 ≤ vec_len c.args.inside =
    some_of (vec_len c.args.inside) (sym c.is_empty.ensures ∙ c.if-is_empty.false) in omega arith

pub made_dead-requires-clause-never : goal.made_dead-requires-clause-never
made_dead-requires-clause-never g c =
    dead_branch c.args.self.now.fold c.args.self.now.text.now c.args.self.now.ere.now c.args.table.now c.args.at
    c.args.inside.items c.requires.kind c.requires.parts c.requires.inside
    (λ alive. let e : c.are_alive.result ≡ true = c.are_alive.ensures.1 (subst (λ xs. AreAlive c.args.table.now xs) (sym c.as_slice.ensures.value) alive) in
    cc (e, c.if-are_alive.false))

pub returns-then-is_empty-clause-most : goal.returns-then-is_empty-clause-most
returns-then-is_empty-clause-most g c =
    λ from h. (share_dead (AreAlive c.args.table.now c.args.inside.items) ⊥
    (count_of (parts_of (tree_at c.args.self.now.ere.now c.args.at)))
    (weights (parts_of (tree_at c.args.self.now.ere.now c.args.at)))
    (weight (tree_at c.args.self.now.ere.now c.args.at)) (square c.args.self.now.text.now) from c.args.steps.now
    (λ a. a) (branch_weighs (tree_at c.args.self.now.ere.now c.args.at) c.requires.kind) h).most

pub returns-then-is_empty-clause-share : goal.returns-then-is_empty-clause-share
returns-then-is_empty-clause-share g c =
    let none : count_of (parts_of (tree_at c.args.self.now.ere.now c.args.at)) ≡ 0 =
    (let z : vec_len c.args.inside
    ≡ 0 = eqb-true (vec_len c.args.inside) 0 (sym c.is_empty.ensures ∙ c.if-is_empty.true) in
    let empty : length c.args.inside.items ≡ 0 = omega arith in sym c.requires.inside.count ∙ empty) in
    map_ok (IsMade c.args.self.now.fold c.args.self.now.text.now c.args.self.now.ere.now c.args.table.now
    c.made_empty.new.table c.args.at)
    (λ p. (from : ℕ) → IsShare (AreAlive c.args.table.now c.args.inside.items)
    (count_of (parts_of (tree_at c.args.self.now.ere.now c.args.at)))
    (weights (parts_of (tree_at c.args.self.now.ere.now c.args.at)))
    (square c.args.self.now.text.now) from c.args.steps.now
    → IsShare (0 < length (column_at c.made_empty.new.table p.own)) 1
    (weight (tree_at c.args.self.now.ere.now c.args.at))
    (square c.args.self.now.text.now) from c.args.steps.now) c.made_empty.result
    (λ p made from h. share_empty (AreAlive c.args.table.now c.args.inside.items)
    (0 < length (column_at c.made_empty.new.table p.own)) (tree_at c.args.self.now.ere.now c.args.at)
    (square c.args.self.now.text.now) from c.args.steps.now c.requires.kind none h)
    c.made_empty.ensures.made

pub returns-then-are_alive-clause-most : goal.returns-then-are_alive-clause-most
returns-then-are_alive-clause-most g c =
    λ from h. (share_pieces (AreAlive c.args.table.now c.args.inside.items) ⊥
    (count_of (parts_of (tree_at c.args.self.now.ere.now c.args.at)))
    (weights (parts_of (tree_at c.args.self.now.ere.now c.args.at)))
    (weight (tree_at c.args.self.now.ere.now c.args.at))
    (square c.args.self.now.text.now) from c.args.steps.now c.made_pieces.new.steps
    (subst (λ xs. AreAlive c.args.table.now xs) c.as_slice.ensures.value (c.are_alive.ensures.0 c.if-are_alive.true))
    (let some : 1 ≤ vec_len c.args.inside = some_of (vec_len c.args.inside)
    (sym c.is_empty.ensures ∙ c.if-is_empty.false)
    in let count : length c.args.inside.items ≡ count_of (parts_of (tree_at c.args.self.now.ere.now c.args.at)) =
    c.requires.inside.count in omega arith)
    (branch_weighs (tree_at c.args.self.now.ere.now c.args.at) c.requires.kind) c.made_pieces.ensures.most h).most

pub returns-then-are_alive-clause-share : goal.returns-then-are_alive-clause-share
returns-then-are_alive-clause-share g c =
    map_ok (IsMade c.args.self.now.fold c.args.self.now.text.now c.args.self.now.ere.now c.args.table.now
    c.made_pieces.new.table c.args.at)
    (λ p. (from : ℕ) → IsShare (AreAlive c.args.table.now c.args.inside.items)
    (count_of (parts_of (tree_at c.args.self.now.ere.now c.args.at)))
    (weights (parts_of (tree_at c.args.self.now.ere.now c.args.at)))
    (square c.args.self.now.text.now) from c.args.steps.now
    → IsShare (0 < length (column_at c.made_pieces.new.table p.own)) 1
    (weight (tree_at c.args.self.now.ere.now c.args.at))
    (square c.args.self.now.text.now) from c.made_pieces.new.steps) c.made_pieces.result
    (λ p made from h. share_pieces (AreAlive c.args.table.now c.args.inside.items)
    (0 < length (column_at c.made_pieces.new.table p.own))
    (count_of (parts_of (tree_at c.args.self.now.ere.now c.args.at)))
    (weights (parts_of (tree_at c.args.self.now.ere.now c.args.at)))
    (weight (tree_at c.args.self.now.ere.now c.args.at))
    (square c.args.self.now.text.now) from c.args.steps.now c.made_pieces.new.steps
    (subst (λ xs. AreAlive c.args.table.now xs) c.as_slice.ensures.value (c.are_alive.ensures.0 c.if-are_alive.true))
    (let some : 1 ≤ vec_len c.args.inside = some_of (vec_len c.args.inside)
    (sym c.is_empty.ensures ∙ c.if-is_empty.false)
    in let count : length c.args.inside.items ≡ count_of (parts_of (tree_at c.args.self.now.ere.now c.args.at)) =
    c.requires.inside.count in omega arith)
    (branch_weighs (tree_at c.args.self.now.ere.now c.args.at) c.requires.kind) c.made_pieces.ensures.most h)
    c.made_pieces.ensures.made

pub returns-clause-most : goal.returns-clause-most
returns-clause-most g c =
    λ from h. (share_dead (AreAlive c.args.table.now c.args.inside.items) ⊥
    (count_of (parts_of (tree_at c.args.self.now.ere.now c.args.at)))
    (weights (parts_of (tree_at c.args.self.now.ere.now c.args.at)))
    (weight (tree_at c.args.self.now.ere.now c.args.at)) (square c.args.self.now.text.now) from c.args.steps.now
    (λ a. a) (branch_weighs (tree_at c.args.self.now.ere.now c.args.at) c.requires.kind) h).most

pub returns-clause-share : goal.returns-clause-share
returns-clause-share g c =
    map_ok (λ p. length (column_at c.made_dead.new.table p.own) ≡ 0)
    (λ p. (from : ℕ) → IsShare (AreAlive c.args.table.now c.args.inside.items)
    (count_of (parts_of (tree_at c.args.self.now.ere.now c.args.at)))
    (weights (parts_of (tree_at c.args.self.now.ere.now c.args.at)))
    (square c.args.self.now.text.now) from c.args.steps.now
    → IsShare (0 < length (column_at c.made_dead.new.table p.own)) 1
    (weight (tree_at c.args.self.now.ere.now c.args.at))
    (square c.args.self.now.text.now) from c.args.steps.now) c.made_dead.result
    (λ p dead from h. share_dead (AreAlive c.args.table.now c.args.inside.items)
    (0 < length (column_at c.made_dead.new.table p.own))
    (count_of (parts_of (tree_at c.args.self.now.ere.now c.args.at)))
    (weights (parts_of (tree_at c.args.self.now.ere.now c.args.at)))
    (weight (tree_at c.args.self.now.ere.now c.args.at)) (square c.args.self.now.text.now) from c.args.steps.now
    (λ a. omega arith) (branch_weighs (tree_at c.args.self.now.ere.now c.args.at) c.requires.kind) h)
    c.made_dead.ensures.dead
