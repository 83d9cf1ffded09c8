use Rattle.std.proofs.Common.{ℕ, ◌<◌, slice_index}
use Rattle.submatch.specs.Table.{IsAlive}
use Rattle.submatch.proofs.search.Search.are_alive.Given as goal

abbrev pub invariant-loop-part : goal.invariant-loop-part
invariant-loop-part g l = (k : ℕ) → k < l.part-index → IsAlive l.table (slice_index l.inside k)
