use Rattle.std.proofs.Common.{◌≡◌, ◌<◌, max, length, subst, ap, ◌∙◌, refl, arith}
use Rattle.std.proofs.Math.Dec.{ltb}
use Rattle.std.proofs.lemmas.Bool.{ltb-true, lt-ltb}
use Rattle.posix_ere.specs.Parts.{parts_of, part}
use Rattle.submatch.specs.Parses.{IsParse, IsBelow}
use Rattle.submatch.specs.Ends.{Reaches}
use Rattle.submatch.specs.Rows.{IsColumn}
use Rattle.submatch.specs.Table.{tree_of}
use Rattle.submatch.proofs.EndsOfRowsLemmas.{forward_column}
use Rattle.submatch.proofs.TurningLemmas.{iteration_turns}
use Rattle.submatch.proofs.search.Search.iteration_end.Goals as goal

pub longest_turn-requires-clause-forward : goal.longest_turn-requires-clause-forward
longest_turn-requires-clause-forward g c = forward_column c.args.self.now.fold c.args.self.now.text.now
    (tree_of c.args.self.now.ere.now c.args.table.now c.inside.result) c.own-part.result.now c.own-part.ensures.column

pub returns-clause-end : goal.returns-clause-end
returns-clause-end g c =
    let F = c.args.self.now.fold in
    let W = c.args.self.now.text.now in
    let tree = tree_of c.args.self.now.ere.now c.args.table.now c.args.rep.number in
    let one : IsColumn (length W) (Reaches (IsParse F W (part (parts_of tree) 0))) c.own-part.result.now =
    subst (λ t. IsColumn (length W) (Reaches (IsParse F W t)) c.own-part.result.now) c.inside.ensures.tree c.own-part.ensures.column in
    let below : IsBelow c.args.done c.args.rep.most = c.if-not-is_below.ensures.0 refl in
    let top : c.max.result ≡ max c.args.rep.least 1 = c.max.ensures ∙ ap (λ x. max x 1) c.from.ensures in
    iteration_turns F W (part (parts_of tree) 0) c.args.rep.least c.args.rep.most c.args.done c.args.over.from c.args.over.to (ltb c.args.done c.max.result)
    c.own-part.result.now c.rest_of_iterations-rest.result.now c.longest_turn.result c.requires.within below
    (λ up. lt-ltb c.args.done c.max.result (omega arith))
    (λ e. let less : c.args.done < c.max.result = ltb-true c.args.done c.max.result e in omega arith)
    one c.rest_of_iterations-rest.ensures c.longest_turn.ensures.end
