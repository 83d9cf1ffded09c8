use Rattle.std.proofs.Common.{◌+◌, ◌*◌, ◌≤◌, length}
use Rattle.posix_ere.specs.Parts.{parts_of}
use Rattle.posix_ere.specs.Nodes.{tree_at}
use Rattle.submatch.specs.Table.{square}
use Rattle.submatch.proofs.EndsOfRowsLemmas.{Pieces}
use Rattle.submatch.proofs.GrowingLemmas.{AreBuilt}
use Rattle.submatch.proofs.search.Search.made_pieces.Given as goal

abbrev pub invariant-loop-k : goal.invariant-loop-k
invariant-loop-k g l = AreBuilt (length l.self.text.now) (Pieces l.self.fold l.self.text.now (parts_of (tree_at l.self.ere.now l.at))) l.fn.table l.table
    l.last l.k l.own l.rests.items × (l.steps + l.k * (2 * square l.self.text.now) ≤ l.fn.steps + l.last * (2 * square l.self.text.now))
