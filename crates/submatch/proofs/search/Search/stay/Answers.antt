use Rattle.std.proofs.Common.{◌≡◌, IsTrue}
use Rattle.submatch.proofs.ColumnLemmas.{filled_next}
use Rattle.submatch.proofs.search.Search.stay.Goals as goal

pub loop-from-preserved : goal.loop-from-preserved
loop-from-preserved g c = filled_next c.loop-from.from (λ i j. IsTrue c.args.stops × (i ≡ j)) c.loop-from.column c.push.new.self
    c.one.result c.in_ok-push.ensures c.one.ensures c.loop-from.invariant
