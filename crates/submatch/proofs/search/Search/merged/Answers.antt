use Rattle.std.proofs.Common.{length}
use Rattle.submatch.specs.Table.{LeadsSome}
use Rattle.submatch.proofs.ColumnLemmas.{filled_next}
use Rattle.submatch.proofs.CountsLemmas.{row_more}
use Rattle.submatch.proofs.search.Search.merged.Goals as goal

pub loop-from-preserved : goal.loop-from-preserved
loop-from-preserved g c = (
  filled_next c.loop-from.from (λ i j. LeadsSome c.args.table.now c.args.inside.now (length c.args.inside.now) i j) c.loop-from.column c.push.new.self
      c.merged_row.result c.in_ok-push.ensures c.merged_row.ensures.row c.loop-from.invariant.0,
  row_more c.args.steps.now c.loop-from.steps c.merged_row.new.steps c.loop-from.from (length c.args.inside.now)
      c.loop-from.invariant.1 c.merged_row.ensures.most,
)
