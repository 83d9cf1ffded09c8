use Rattle.std.proofs.Common.{◌+◌, ◌≤◌}
use Rattle.submatch.specs.Rows.{AreEnds}
use Rattle.submatch.specs.Table.{LeadsSome}
use Rattle.submatch.proofs.search.Search.merged_row.Given as goal

abbrev pub invariant-loop-part : goal.invariant-loop-part
invariant-loop-part g l = AreEnds (λ j. LeadsSome l.table l.inside l.part-index l.from j) l.row × (l.steps ≤ l.fn.steps + l.part-index)
