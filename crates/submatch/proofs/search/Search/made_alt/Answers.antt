use Rattle.std.proofs.Common.{◌≡◌, ℕ, ◌<◌, ◌≤◌, ◌∙◌, length, sym, arith}
use Rattle.std.proofs.lemmas.Bool.{eqb-true}
use Rattle.std.specs.Vec.{vec_len}
use Rattle.posix_ere.specs.Parts.{parts_of, count_of, weight, weights}
use Rattle.posix_ere.specs.Nodes.{tree_at}
use Rattle.submatch.specs.Table.{IsMade, AreAlive, IsShare, column_at, square}
use Rattle.submatch.proofs.AddingLemmas.{map_ok}
use Rattle.submatch.proofs.MakingLemmas.{single_passes, single_alive, two_of}
use Rattle.submatch.proofs.EndsOfNodesLemmas.{no_branches}
use Rattle.submatch.proofs.SharesLemmas.{share_dead, share_same, share_several, alt_weighs}
use Rattle.submatch.proofs.search.Search.made_alt.Goals as goal

pub made_dead-requires-clause-never : goal.made_dead-requires-clause-never
made_dead-requires-clause-never g c =
    let z : vec_len c.args.inside ≡ 0 = eqb-true (vec_len c.args.inside) 0 (sym c.is_empty.ensures ∙ c.if-is_empty.true) in
    let none : length c.args.inside.items ≡ 0 = omega arith in
    λ i j within h. no_branches c.args.self.now.fold c.args.self.now.text.now
    (tree_at c.args.self.now.ere.now c.args.at) c.requires.kind (sym c.requires.inside.count ∙ none) i j h

pub made_through-requires-clause-passes : goal.made_through-requires-clause-passes
made_through-requires-clause-passes g c =
    let one : length c.args.inside.items ≡ 1 = omega (arith, c.len.ensures, c.if-len-eq1.true) in
    single_passes c.args.self.now.fold c.args.self.now.text.now c.args.self.now.ere.now
    (tree_at c.args.self.now.ere.now c.args.at) c.requires.kind (sym c.requires.inside.count ∙ one)

pub returns-then-is_empty-clause-most : goal.returns-then-is_empty-clause-most
returns-then-is_empty-clause-most g c =
    λ from h. (share_dead (AreAlive c.args.table.now c.args.inside.items) ⊥
    (count_of (parts_of (tree_at c.args.self.now.ere.now c.args.at)))
    (weights (parts_of (tree_at c.args.self.now.ere.now c.args.at)))
    (weight (tree_at c.args.self.now.ere.now c.args.at)) (square c.args.self.now.text.now) from c.args.steps.now
    (λ a. a) (alt_weighs (tree_at c.args.self.now.ere.now c.args.at) c.requires.kind) h).most

pub returns-then-is_empty-clause-share : goal.returns-then-is_empty-clause-share
returns-then-is_empty-clause-share g c =
    map_ok (λ p. length (column_at c.made_dead.new.table p.own) ≡ 0)
    (λ p. (from : ℕ) → IsShare (AreAlive c.args.table.now c.args.inside.items)
    (count_of (parts_of (tree_at c.args.self.now.ere.now c.args.at)))
    (weights (parts_of (tree_at c.args.self.now.ere.now c.args.at)))
    (square c.args.self.now.text.now) from c.args.steps.now
    → IsShare (0 < length (column_at c.made_dead.new.table p.own)) 1
    (weight (tree_at c.args.self.now.ere.now c.args.at))
    (square c.args.self.now.text.now) from c.args.steps.now) c.made_dead.result
    (λ p dead from h. share_dead (AreAlive c.args.table.now c.args.inside.items)
    (0 < length (column_at c.made_dead.new.table p.own))
    (count_of (parts_of (tree_at c.args.self.now.ere.now c.args.at)))
    (weights (parts_of (tree_at c.args.self.now.ere.now c.args.at)))
    (weight (tree_at c.args.self.now.ere.now c.args.at)) (square c.args.self.now.text.now) from c.args.steps.now
    (λ a. omega arith) (alt_weighs (tree_at c.args.self.now.ere.now c.args.at) c.requires.kind) h)
    c.made_dead.ensures.dead

pub returns-then-len-eq1-clause-made : goal.returns-then-len-eq1-clause-made
returns-then-len-eq1-clause-made g c = c.made_through.ensures.made

pub returns-then-len-eq1-clause-most : goal.returns-then-len-eq1-clause-most
returns-then-len-eq1-clause-most g c =
    λ from h. (share_dead (AreAlive c.args.table.now c.args.inside.items) ⊥
    (count_of (parts_of (tree_at c.args.self.now.ere.now c.args.at)))
    (weights (parts_of (tree_at c.args.self.now.ere.now c.args.at)))
    (weight (tree_at c.args.self.now.ere.now c.args.at)) (square c.args.self.now.text.now) from c.args.steps.now
    (λ a. a) (alt_weighs (tree_at c.args.self.now.ere.now c.args.at) c.requires.kind) h).most

pub returns-then-len-eq1-clause-share : goal.returns-then-len-eq1-clause-share
returns-then-len-eq1-clause-share g c =
    let one : length c.args.inside.items ≡ 1 = omega (arith, c.len.ensures, c.if-len-eq1.true) in
    let count : length c.args.inside.items ≡ count_of (parts_of (tree_at c.args.self.now.ere.now c.args.at)) = c.requires.inside.count in
    λ from h. share_same (AreAlive c.args.table.now c.args.inside.items)
    (0 < length (column_at c.args.table.now c.made_through.result.own))
    (count_of (parts_of (tree_at c.args.self.now.ere.now c.args.at)))
    (weights (parts_of (tree_at c.args.self.now.ere.now c.args.at)))
    (weight (tree_at c.args.self.now.ere.now c.args.at)) (square c.args.self.now.text.now) from c.args.steps.now
    (single_alive c.args.table.now c.args.inside.items c.made_through.result.own one c.made_through.ensures.same)
    (λ a. omega arith) (alt_weighs (tree_at c.args.self.now.ere.now c.args.at) c.requires.kind) h

pub returns-clause-most : goal.returns-clause-most
returns-clause-most g c =
    λ from h. (share_several (AreAlive c.args.table.now c.args.inside.items) ⊥
    (tree_at c.args.self.now.ere.now c.args.at)
    (length c.args.self.now.text.now) from c.args.steps.now c.made_several.new.steps
    c.requires.kind (let two : 2 ≤ vec_len c.args.inside = two_of (vec_len c.args.inside)
    (sym c.is_empty.ensures ∙ c.if-is_empty.false) (λ e. c.if-len-eq1.false (c.len.ensures ∙ e))
    in let count : length c.args.inside.items ≡ count_of (parts_of (tree_at c.args.self.now.ere.now c.args.at)) =
    c.requires.inside.count in omega arith) c.made_several.ensures.most h).most

pub returns-clause-share : goal.returns-clause-share
returns-clause-share g c =
    map_ok (IsMade c.args.self.now.fold c.args.self.now.text.now c.args.self.now.ere.now c.args.table.now
    c.made_several.new.table c.args.at)
    (λ p. (from : ℕ) → IsShare (AreAlive c.args.table.now c.args.inside.items)
    (count_of (parts_of (tree_at c.args.self.now.ere.now c.args.at)))
    (weights (parts_of (tree_at c.args.self.now.ere.now c.args.at)))
    (square c.args.self.now.text.now) from c.args.steps.now
    → IsShare (0 < length (column_at c.made_several.new.table p.own)) 1
    (weight (tree_at c.args.self.now.ere.now c.args.at))
    (square c.args.self.now.text.now) from c.made_several.new.steps) c.made_several.result
    (λ p made from h. share_several (AreAlive c.args.table.now c.args.inside.items)
    (0 < length (column_at c.made_several.new.table p.own)) (tree_at c.args.self.now.ere.now c.args.at)
    (length c.args.self.now.text.now) from c.args.steps.now c.made_several.new.steps
    c.requires.kind (let two : 2 ≤ vec_len c.args.inside = two_of (vec_len c.args.inside)
    (sym c.is_empty.ensures ∙ c.if-is_empty.false) (λ e. c.if-len-eq1.false (c.len.ensures ∙ e))
    in let count : length c.args.inside.items ≡ count_of (parts_of (tree_at c.args.self.now.ere.now c.args.at)) =
    c.requires.inside.count in omega arith) c.made_several.ensures.most h)
    c.made_several.ensures.made
