use Rattle.std.proofs.Common.{◌-◌, ◌∙◌, subst, sym, ap, arith}
use Rattle.posix_ere.specs.Parts.{parts_of, part, count_of}
use Rattle.submatch.specs.Parses.{IsParse}
use Rattle.submatch.specs.Ends.{Reaches}
use Rattle.submatch.specs.Table.{tree_of}
use Rattle.submatch.proofs.RebuildingLemmas.{last_reached}
use Rattle.submatch.proofs.search.Search.last_piece.Goals as goal

pub returns-clause-tree : goal.returns-clause-tree
returns-clause-tree g c = c.inside.ensures.tree
    ∙ ap (λ x. part (parts_of (tree_of c.args.self.now.ere.now c.args.table.now c.args.number))
    (x - 1)) c.count_inside-count.ensures

pub returns-clause-reached : goal.returns-clause-reached
returns-clause-reached g c =
    let ts = parts_of (tree_of c.args.self.now.ere.now c.args.table.now c.args.number) in
    let F = c.args.self.now.fold in
    let W = c.args.self.now.text.now in
    subst (λ x. Reaches (IsParse F W x) c.args.left.from c.args.left.to)
    (sym (c.inside.ensures.tree ∙ ap (λ x. part ts (x - 1)) c.count_inside-count.ensures))
    (last_reached F W ts 0 c.args.left.to (count_of ts - 1) c.args.left.from (omega (arith, c.requires.some)) c.requires.left)
