use Rattle.std.proofs.Common.{◌-◌, length, ap, subst, sym, ◌∙◌}
use Rattle.posix_ere.specs.Parts.{parts_of, part}
use Rattle.submatch.specs.Parses.{IsParse, AreIterations}
use Rattle.submatch.specs.Ends.{RowReaches}
use Rattle.submatch.specs.Rows.{IsColumn}
use Rattle.submatch.specs.Table.{part_at, tree_of}
use Rattle.submatch.proofs.TurningLemmas.{rest_of_rep}
use Rattle.submatch.proofs.search.Search.rest_of_iterations.Goals as goal

pub returns : goal.returns
returns g c =
    let tree = tree_of c.args.self.now.ere.now c.args.table.now c.args.rep.number in
    subst (λ rows. IsColumn (length c.args.self.now.text.now)
    (RowReaches (AreIterations (IsParse c.args.self.now.fold c.args.self.now.text.now (part (parts_of tree) 0))
    c.args.rep.least c.args.rep.most c.args.k)) rows)
    (sym c.rest.ensures) (rest_of_rep c.args.self.now.fold c.args.self.now.text.now c.args.table.now (part_at c.args.table.now c.args.rep.number).rests
    tree c.args.rep.least c.args.rep.most c.args.k c.saturating_sub.result c.requires.kind c.requires.allowed
    (c.saturating_sub.ensures ∙ ap (λ x. x - c.args.k) (c.from-last.ensures ∙ c.last_count.ensures)) c.requires.rests).column.exact
