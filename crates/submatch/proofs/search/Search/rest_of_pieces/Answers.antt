use Rattle.std.proofs.Common.{◌-◌, length, ap, subst, sym}
use Rattle.posix_ere.specs.Parts.{parts_of}
use Rattle.submatch.specs.Parses.{ArePieces}
use Rattle.submatch.specs.Ends.{RowReaches, parts_from}
use Rattle.submatch.specs.Rows.{IsColumn}
use Rattle.submatch.specs.Table.{part_at, tree_of}
use Rattle.submatch.proofs.TurningLemmas.{rest_of_branch}
use Rattle.submatch.proofs.search.Search.rest_of_pieces.Goals as goal

pub rest-requires-clause-column : goal.rest-requires-clause-column
rest-requires-clause-column g c = (rest_of_branch c.args.self.now.fold c.args.self.now.text.now c.args.table.now (part_at c.args.table.now c.args.number).rests
    (tree_of c.args.self.now.ere.now c.args.table.now c.args.number) c.args.k (c.count_inside.result - 1 - c.args.k) c.requires.kind c.requires.kth
    (ap (λ x. x - 1 - c.args.k) c.count_inside.ensures) c.requires.rests).column.there

pub returns : goal.returns
returns g c =
    let tree = tree_of c.args.self.now.ere.now c.args.table.now c.args.number in
    subst (λ rows. IsColumn (length c.args.self.now.text.now)
    (RowReaches (ArePieces c.args.self.now.fold c.args.self.now.text.now
    (parts_from c.args.k (parts_of tree)))) rows)
    (sym c.rest.ensures) (rest_of_branch c.args.self.now.fold c.args.self.now.text.now c.args.table.now (part_at c.args.table.now c.args.number).rests
    tree c.args.k (c.count_inside.result - 1 - c.args.k) c.requires.kind c.requires.kth
    (ap (λ x. x - 1 - c.args.k) c.count_inside.ensures) c.requires.rests).column.exact
