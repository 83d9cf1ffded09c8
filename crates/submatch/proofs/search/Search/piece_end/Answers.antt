use Rattle.std.proofs.Common.{length, subst}
use Rattle.posix_ere.specs.Parts.{parts_of, part}
use Rattle.submatch.specs.Parses.{IsParse}
use Rattle.submatch.specs.Ends.{Reaches}
use Rattle.submatch.specs.Rows.{IsColumn}
use Rattle.submatch.specs.Table.{tree_of}
use Rattle.submatch.proofs.EndsOfRowsLemmas.{forward_column}
use Rattle.submatch.proofs.TurningLemmas.{piece_turns}
use Rattle.submatch.proofs.search.Search.piece_end.Goals as goal

pub longest_turn-requires-clause-forward : goal.longest_turn-requires-clause-forward
longest_turn-requires-clause-forward g c = forward_column c.args.self.now.fold c.args.self.now.text.now
    (tree_of c.args.self.now.ere.now c.args.table.now c.inside.result) c.own-piece.result.now c.own-piece.ensures.column

pub returns-clause-end : goal.returns-clause-end
returns-clause-end g c =
    let F = c.args.self.now.fold in
    let W = c.args.self.now.text.now in
    let one : IsColumn (length W)
    (Reaches
    (IsParse F W
    (part (parts_of
    (tree_of c.args.self.now.ere.now c.args.table.now c.args.number)) c.args.k))) c.own-piece.result.now =
    subst (λ t. IsColumn (length W) (Reaches (IsParse F W t)) c.own-piece.result.now) c.inside.ensures.tree c.own-piece.ensures.column in
    piece_turns F W
    (parts_of
    (tree_of c.args.self.now.ere.now c.args.table.now c.args.number)) c.args.k c.args.over.from c.args.over.to
    c.own-piece.result.now c.rest_of_pieces-rest.result.now
    c.longest_turn.result c.requires.within one c.rest_of_pieces-rest.ensures c.longest_turn.ensures.end
