use Rattle.std.proofs.Common.{◌≡◌, Some, None, max, length, IsTrue, IfOk, subst, sym, ◌∙◌, ap}
use Rattle.std.proofs.Math.Dec.{leb}
use Rattle.std.proofs.lemmas.Bool.{leb-true, le-leb}
use Rattle.posix_ere.specs.Nodes.{tree_at}
use Rattle.submatch.specs.Rows.{IsColumn}
use Rattle.submatch.specs.Table.{PartValue, part_at, last_count}
use Rattle.submatch.proofs.AddingLemmas.{map_ok}
use Rattle.submatch.proofs.EndsOfRowsLemmas.{Iterations, last_iterations}
use Rattle.submatch.proofs.search.Search.last_column.Goals as goal

pub returns-in-Some-clause-column : goal.returns-in-Some-clause-column
returns-in-Some-clause-column g c =
    let tree = tree_at c.args.self.now.ere.now (part_at c.args.table.now c.args.part).at in
    let F = c.args.self.now.fold in
    let W = c.args.self.now.text.now in
    subst (λ o. IfOk c.stay.result (IsColumn (length W) (Iterations F W tree c.args.least o (last_count c.args.least o)))) (sym c.in-Some.is)
    (map_ok (IsColumn (length W) (λ i j. IsTrue (leb c.args.least c.in-Some.most) × (i ≡ j)))
    (IsColumn (length W) (Iterations F W tree c.args.least (Some c.in-Some.most) c.in-Some.most)) c.stay.result
    (λ rows. last_iterations F W tree c.args.least c.in-Some.most (leb c.args.least c.in-Some.most) rows
    (le-leb c.args.least c.in-Some.most) (leb-true c.args.least c.in-Some.most)) c.stay.ensures.column)

pub returns-in-None-clause-column : goal.returns-in-None-clause-column
returns-in-None-clause-column g c =
    let F = c.args.self.now.fold in
    let W = c.args.self.now.text.now in
    subst (λ o. IfOk c.looped.result
    (IsColumn (length W) (Iterations F W
    (tree_at c.args.self.now.ere.now (part_at c.args.table.now c.args.part).at) c.args.least o
    (last_count c.args.least o)))) (sym c.in-None.is)
    (subst (λ a. IfOk c.looped.result (IsColumn (length W) (Iterations F W (tree_at c.args.self.now.ere.now a) c.args.least None (max c.args.least 1))))
    (c.at.ensures ∙ ap (λ (p : PartValue). p.at) c.part.ensures) c.looped.ensures.column)
