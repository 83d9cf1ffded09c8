use Rattle.std.proofs.Common.{◌≡◌, ◌+◌, ◌*◌, ◌≤◌, length, slice_index}
use Rattle.posix_ere.specs.Parts.{parts_of, part}
use Rattle.posix_ere.specs.Nodes.{tree_at}
use Rattle.submatch.specs.Table.{square, column_at, part_at}
use Rattle.submatch.proofs.EndsOfRowsLemmas.{Iterations}
use Rattle.submatch.proofs.GrowingLemmas.{AreBuilt}
use Rattle.submatch.proofs.search.Search.made_rep.Given as goal

abbrev pub invariant-loop-k : goal.invariant-loop-k
invariant-loop-k g l = AreBuilt (length l.self.text.now)
    (Iterations l.self.fold l.self.text.now (part (parts_of (tree_at l.self.ere.now l.at)) 0) l.least l.fn.most) l.fn.table l.table
    l.last l.k l.own l.rests.items ×
    (l.steps + l.k * (2 * square l.self.text.now) ≤ l.fn.steps + 2 * square l.self.text.now + l.last * (2 * square l.self.text.now)) ×
    (length (column_at l.fn.table (part_at l.fn.table (slice_index l.inside.items 0)).own) ≡ 0 → l.steps ≡ l.fn.steps)
