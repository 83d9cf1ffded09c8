use Rattle.std.proofs.Common.{◌≡◌, ◌+◌, ◌-◌, ◌*◌, ◌<◌, ◌≤◌, ◌∙◌, length, subst, sym, arith, refl}
use Rattle.posix_ere.specs.Parts.{parts_of, part, count_of, weight}
use Rattle.submatch.specs.Parses.{IsParse, ArePieces}
use Rattle.submatch.specs.Ends.{Reaches, RowReaches, AddsGroups, parts_from}
use Rattle.submatch.specs.Table.{tree_of, square}
use Rattle.submatch.proofs.CompilingLemmas.{weights_to}
use Rattle.submatch.proofs.RebuildingLemmas.{HaveCome, have_begun, have_gone_on, have_ended, have_not_stopped}
use Rattle.submatch.proofs.RebuildingLemmas.{have_taken_all, not_zero, earliest_rebuilt, branch_is_rebuilt}
use Rattle.submatch.proofs.RebuildingLemmas.{group_rebuilt, rep_rebuilt, rep_empty, branch_reaches, reaches_inside}
use Rattle.submatch.proofs.SpendingLemmas.{weighs, spent_alt, spent_piece, spent_last, spent_empty, spent_no_turn, spent_turns, places_within}
use Rattle.submatch.proofs.search.Search.+rebuild.Goals as goal

pub rebuild_group-returns-clause-groups : goal.rebuild_group-returns-clause-groups
rebuild_group-returns-clause-groups g t c =
    let F = c.args.self.now.fold in
    let W = c.args.self.now.text.now in
    let tree = tree_of c.args.self.now.ere.now c.args.table.now c.args.number in
    group_rebuilt F W c.args.over.from c.args.over.to c.args.groups.now c.rebuild.new.groups tree c.args.group c.requires.kind
    (subst (λ x. AddsGroups F W (part (parts_of tree) 0) c.args.over x c.rebuild.new.groups) c.take.ensures
    (subst (λ x. AddsGroups F W x c.args.over c.take.new.self c.rebuild.new.groups) c.inside-part.ensures.tree c.rebuild.ensures.groups))

pub rebuild_alt-earliest-branch-requires-clause-end : goal.rebuild_alt-earliest-branch-requires-clause-end
rebuild_alt-earliest-branch-requires-clause-end g t c = reaches_inside c.args.self.now.fold c.args.self.now.text.now
    (tree_of c.args.self.now.ere.now c.args.table.now c.args.number) c.args.over.from c.args.over.to c.requires.within c.requires.reached

pub rebuild_alt-returns-clause-groups : goal.rebuild_alt-returns-clause-groups
rebuild_alt-returns-clause-groups g t c = earliest_rebuilt c.args.self.now.fold c.args.self.now.text.now
    (tree_of c.args.self.now.ere.now c.args.table.now c.args.number) (tree_of c.args.self.now.ere.now c.args.table.now c.earliest-branch.result)
    c.args.over c.args.groups.now c.rebuild.new.groups c.requires.kind c.earliest-branch.ensures.first
    c.earliest-branch.ensures.reached c.rebuild.ensures.groups

pub rebuild_alt-returns-clause-most : goal.rebuild_alt-returns-clause-most
rebuild_alt-returns-clause-most g t c =
    let tree = tree_of c.args.self.now.ere.now c.args.table.now c.args.number in
    let q = square c.args.self.now.text.now in
    spent_alt tree c.earliest-branch.ensures.first.number (count_of (parts_of tree) - 1) q c.args.steps.now c.earliest-branch.new.steps c.rebuild.new.steps
    c.requires.kind c.earliest-branch.ensures.first.among
    (let less : c.earliest-branch.ensures.first.number < count_of (parts_of tree) = c.earliest-branch.ensures.first.among in omega arith)
    (let a : length c.args.self.now.text.now + 1 ≤ q = places_within (length c.args.self.now.text.now) in omega arith)
    (omega (arith, c.earliest-branch.ensures.most))
    (subst (λ x. c.rebuild.new.steps + 2 * q ≤ c.earliest-branch.new.steps + 4 * (weight x * q)) c.earliest-branch.ensures.first.is c.rebuild.ensures.most)

pub rebuild_branch-returns-then-count-eq0-clause-groups : goal.rebuild_branch-returns-then-count-eq0-clause-groups
rebuild_branch-returns-then-count-eq0-clause-groups g t c =
    let F = c.args.self.now.fold in
    let W = c.args.self.now.text.now in
    let tree = tree_of c.args.self.now.ere.now c.args.table.now c.args.number in
    branch_is_rebuilt F W c.args.over.from c.args.over.to c.args.groups.now c.args.groups.now tree c.requires.kind
    (have_ended F W (parts_of tree) c.args.over.from c.args.over.to 0 c.args.over.from c.args.groups.now c.args.groups.now
    (sym c.if-count-eq0.true ∙ c.count_inside-count.ensures)
    (have_begun F W (parts_of tree) c.args.over.from c.args.over.to c.args.groups.now c.requires.within
    (branch_reaches F W tree c.args.over.from c.args.over.to c.requires.kind c.requires.reached)))

pub rebuild_branch-returns-then-count-eq0-clause-most : goal.rebuild_branch-returns-then-count-eq0-clause-most
rebuild_branch-returns-then-count-eq0-clause-most g t c = spent_empty (tree_of c.args.self.now.ere.now c.args.table.now c.args.number)
    (square c.args.self.now.text.now) c.args.steps.now c.requires.kind (sym c.count_inside-count.ensures ∙ c.if-count-eq0.true)

pub rebuild_branch-loop-k-init : goal.rebuild_branch-loop-k-init
rebuild_branch-loop-k-init g t c = (
  have_begun c.args.self.now.fold c.args.self.now.text.now
      (parts_of (tree_of c.args.self.now.ere.now c.args.table.now c.args.number)) c.args.over.from c.args.over.to
      c.args.groups.now c.requires.within
      (branch_reaches c.args.self.now.fold c.args.self.now.text.now
      (tree_of c.args.self.now.ere.now c.args.table.now c.args.number) c.args.over.from c.args.over.to
      c.requires.kind c.requires.reached),
  omega arith,
)

pub rebuild_branch-piece_end-requires-clause-rests : goal.rebuild_branch-piece_end-requires-clause-rests
rebuild_branch-piece_end-requires-clause-rests g t c = (c.requires.parts c.args.number c.requires.there).rests c.args.over.from c.args.over.to
    c.requires.within c.requires.reached

pub rebuild_branch-piece_end-requires-clause-end : goal.rebuild_branch-piece_end-requires-clause-end
rebuild_branch-piece_end-requires-clause-end g t c = reaches_inside c.args.self.now.fold c.args.self.now.text.now
    (tree_of c.args.self.now.ere.now c.args.table.now c.args.number) c.args.over.from c.args.over.to c.requires.within c.requires.reached

pub rebuild_branch-returns-in_default-clause-groups : goal.rebuild_branch-returns-in_default-clause-groups
rebuild_branch-returns-in_default-clause-groups g t c = absurd (have_not_stopped c.args.self.now.fold c.args.self.now.text.now
    (parts_of
    (tree_of c.args.self.now.ere.now c.args.table.now c.args.number)) c.args.over.from c.args.over.to c.loop-k.k
    c.loop-k.place c.args.groups.now c.loop-k.groups
    (omega (arith, c.loop-k-test.true, c.count_inside-count.ensures)) c.in_default.ensures.end c.loop-k.invariant.0)

pub rebuild_branch-returns-in_default-clause-most : goal.rebuild_branch-returns-in_default-clause-most
rebuild_branch-returns-in_default-clause-most g t c = absurd (have_not_stopped c.args.self.now.fold c.args.self.now.text.now
    (parts_of
    (tree_of c.args.self.now.ere.now c.args.table.now c.args.number)) c.args.over.from c.args.over.to c.loop-k.k
    c.loop-k.place c.args.groups.now c.loop-k.groups
    (omega (arith, c.loop-k-test.true, c.count_inside-count.ensures)) c.in_default.ensures.end c.loop-k.invariant.0)

pub rebuild_branch-loop-k-preserved : goal.rebuild_branch-loop-k-preserved
rebuild_branch-loop-k-preserved g t c =
    let F = c.args.self.now.fold in
    let W = c.args.self.now.text.now in
    let ts = parts_of (tree_of c.args.self.now.ere.now c.args.table.now c.args.number) in
    let less : c.loop-k.k < count_of ts = omega (arith, c.loop-k-test.true, c.count_inside-count.ensures) in (
      have_gone_on F W ts c.args.over.from c.args.over.to c.loop-k.k c.loop-k.place c.in-Some.end c.args.groups.now c.loop-k.groups c.rebuild.new.groups less
          c.in-Some.ensures.end
          (subst (λ x. AddsGroups F W x
          (record {
            from = c.loop-k.place;
            to = c.in-Some.end;
          }) c.loop-k.groups c.rebuild.new.groups) c.inside-piece.ensures.tree c.rebuild.ensures.groups)
          c.loop-k.invariant.0,
      spent_piece ts c.loop-k.k
          (length W) c.args.steps.now c.loop-k.steps c.piece_end.new.steps c.rebuild.new.steps less c.loop-k.invariant.1 c.in-Some.ensures.most
          (subst (λ x. c.rebuild.new.steps + 2 * square W ≤ c.piece_end.new.steps + 4 *
          (weight x * square W)) c.inside-piece.ensures.tree c.rebuild.ensures.most),
    )

pub rebuild_branch-last_piece-piece-requires-clause-some : goal.rebuild_branch-last_piece-piece-requires-clause-some
rebuild_branch-last_piece-piece-requires-clause-some g t c =
    subst (λ x. 0 < x) c.count_inside-count.ensures (not_zero c.count_inside-count.result c.if-count-eq0.false)

pub rebuild_branch-last_piece-piece-requires-clause-left : goal.rebuild_branch-last_piece-piece-requires-clause-left
rebuild_branch-last_piece-piece-requires-clause-left g t c =
    let ts = parts_of (tree_of c.args.self.now.ere.now c.args.table.now c.args.number) in
    let end : c.loop-k.k ≡ count_of ts - 1 = omega (arith, c.loop-k-test.false, c.loop-k.auto.k-end, c.count_inside-count.ensures) in
    subst (λ x. RowReaches (ArePieces c.args.self.now.fold c.args.self.now.text.now
    (parts_from x ts)) c.loop-k.place c.args.over.to) end c.loop-k.invariant.0.reached

pub rebuild_branch-returns-clause-groups : goal.rebuild_branch-returns-clause-groups
rebuild_branch-returns-clause-groups g t c =
    let F = c.args.self.now.fold in
    let W = c.args.self.now.text.now in
    let tree = tree_of c.args.self.now.ere.now c.args.table.now c.args.number in
    let some : 0 < count_of (parts_of tree) =
    subst (λ x. 0 < x) c.count_inside-count.ensures (not_zero c.count_inside-count.result c.if-count-eq0.false) in
    let end : c.loop-k.k ≡ count_of (parts_of tree) - 1 = omega (arith, c.loop-k-test.false, c.loop-k.auto.k-end, c.count_inside-count.ensures) in
    branch_is_rebuilt F W c.args.over.from c.args.over.to c.args.groups.now c.rebuild-2.new.groups tree c.requires.kind
    (have_taken_all F W (parts_of tree) c.args.over.from c.args.over.to
    (count_of (parts_of tree) - 1) c.loop-k.place c.args.groups.now c.loop-k.groups c.rebuild-2.new.groups
    (omega (arith, some))
    (subst (λ x. AddsGroups F W x
    (record {
      from = c.loop-k.place;
      to = c.args.over.to;
    }) c.loop-k.groups c.rebuild-2.new.groups) c.last_piece-piece.ensures.tree c.rebuild-2.ensures.groups)
    (subst (λ x. HaveCome F W (parts_of tree) c.args.over.from c.args.over.to x c.loop-k.place c.args.groups.now c.loop-k.groups) end c.loop-k.invariant.0))

pub rebuild_branch-returns-clause-most : goal.rebuild_branch-returns-clause-most
rebuild_branch-returns-clause-most g t c =
    let q = square c.args.self.now.text.now in
    let tree = tree_of c.args.self.now.ere.now c.args.table.now c.args.number in
    let some : 0 < count_of (parts_of tree) =
    subst (λ x. 0 < x) c.count_inside-count.ensures (not_zero c.count_inside-count.result c.if-count-eq0.false) in
    let end : c.loop-k.k ≡ count_of (parts_of tree) - 1 = omega (arith, c.loop-k-test.false, c.loop-k.auto.k-end, c.count_inside-count.ensures) in
    spent_last tree (count_of (parts_of tree) - 1) q c.args.steps.now c.loop-k.steps c.rebuild-2.new.steps c.requires.kind (omega (arith, some))
    (subst (λ x. c.loop-k.steps ≤ c.args.steps.now + 4 * (weights_to x (parts_of tree) * q)) end c.loop-k.invariant.1)
    (subst (λ x. c.rebuild-2.new.steps + 2 * q ≤ c.loop-k.steps + 4 * (weight x * q)) c.last_piece-piece.ensures.tree c.rebuild-2.ensures.most)

pub rebuild_rep-last_iteration-requires-clause-rests : goal.rebuild_rep-last_iteration-requires-clause-rests
rebuild_rep-last_iteration-requires-clause-rests g t c = (c.requires.parts c.args.rep.number c.requires.there).rests c.args.over.from c.args.over.to
    c.requires.within c.requires.reached

pub rebuild_rep-last_iteration-requires-clause-end : goal.rebuild_rep-last_iteration-requires-clause-end
rebuild_rep-last_iteration-requires-clause-end g t c = reaches_inside c.args.self.now.fold c.args.self.now.text.now
    (tree_of c.args.self.now.ere.now c.args.table.now c.args.rep.number) c.args.over.from c.args.over.to c.requires.within c.requires.reached

pub rebuild_rep-returns-in-Some-clause-groups : goal.rebuild_rep-returns-in-Some-clause-groups
rebuild_rep-returns-in-Some-clause-groups g t c =
    let F = c.args.self.now.fold in
    let W = c.args.self.now.text.now in
    let tree = tree_of c.args.self.now.ere.now c.args.table.now c.args.rep.number in
    rep_rebuilt F W c.args.over.from c.args.over.to c.args.groups.now c.rebuild.new.groups tree c.args.rep.least c.args.rep.most c.in-Some.last c.requires.kind
    c.in-Some.ensures.groups
    (subst (λ x. AddsGroups F W x c.in-Some.last c.args.groups.now c.rebuild.new.groups) c.inside-part.ensures.tree c.rebuild.ensures.groups)

pub rebuild_rep-returns-in-Some-clause-most : goal.rebuild_rep-returns-in-Some-clause-most
rebuild_rep-returns-in-Some-clause-most g t c =
    let F = c.args.self.now.fold in
    let W = c.args.self.now.text.now in
    let tree = tree_of c.args.self.now.ere.now c.args.table.now c.args.rep.number in
    let r : Reaches (IsParse F W (part (parts_of tree) 0)) c.in-Some.last.from c.in-Some.last.to = c.in-Some.ensures.reached in
    spent_turns tree c.args.rep.least c.args.rep.most (length W) c.args.steps.now c.last_iteration.new.steps c.rebuild.new.steps c.requires.kind
    (weighs F W (part (parts_of tree) 0) c.in-Some.last.from c.in-Some.last.to r.0 r.1 r.2) c.in-Some.ensures.most
    (subst (λ x. c.rebuild.new.steps + 2 * square W ≤ c.last_iteration.new.steps + 4 * (weight x * square W)) c.inside-part.ensures.tree c.rebuild.ensures.most)

pub rebuild_rep-returns-in_default-clause-groups : goal.rebuild_rep-returns-in_default-clause-groups
rebuild_rep-returns-in_default-clause-groups g t c = rep_empty c.args.self.now.fold c.args.self.now.text.now c.args.over.from c.args.over.to
    c.args.groups.now c.args.groups.now (tree_of c.args.self.now.ere.now c.args.table.now c.args.rep.number) c.args.rep.least c.args.rep.most c.requires.kind
    c.in_default.ensures.groups refl

pub rebuild_rep-returns-in_default-clause-most : goal.rebuild_rep-returns-in_default-clause-most
rebuild_rep-returns-in_default-clause-most g t c = spent_no_turn (tree_of c.args.self.now.ere.now c.args.table.now c.args.rep.number)
    c.args.rep.least c.args.rep.most (length c.args.self.now.text.now) c.args.steps.now c.last_iteration.new.steps c.requires.kind c.in_default.ensures.none
