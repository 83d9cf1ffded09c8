use Rattle.std.proofs.Common.{◌+◌, ◌*◌, ◌∙◌, length}
use Rattle.submatch.specs.Rows.{StopsOrGoes}
use Rattle.submatch.proofs.ColumnLemmas.{filled_next}
use Rattle.submatch.proofs.ClosedLemmas.{closed_after}
use Rattle.submatch.proofs.CountsLemmas.{row_more}
use Rattle.submatch.proofs.search.Search.joined.Goals as goal

pub joined_row-row-requires-clause-closed : goal.joined_row-row-requires-clause-closed
joined_row-row-requires-clause-closed g c = λ closed. closed_after (c.loop-from.from + 1) c.args.rest.now (c.requires.closed closed)

pub loop-from-preserved : goal.loop-from-preserved
loop-from-preserved g c = (
  filled_next c.loop-from.from (StopsOrGoes c.args.joint.stops c.args.joint.empties c.args.part.now c.args.rest.now) c.loop-from.column c.push.new.self
      c.joined_row-row.result c.in_ok-push.ensures c.joined_row-row.ensures.row c.loop-from.invariant.0,
  row_more c.args.steps.now c.loop-from.steps c.joined_row-row.new.steps c.loop-from.from (2 * (length c.args.self.now.text.now + 1))
      c.loop-from.invariant.1 c.joined_row-row.ensures.most,
  (λ e. c.joined_row-row.ensures.idle e ∙ c.loop-from.invariant.2 e),
)
