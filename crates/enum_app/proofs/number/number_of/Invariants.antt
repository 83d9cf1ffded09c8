use Rattle.std.proofs.Common.{length}
use Rattle.enum_app.proofs.FromKeyLemmas.{IsTaken}
use Rattle.enum_app.proofs.number.number_of.Given as goal

abbrev pub invariant-loop-rest : goal.invariant-loop-rest
invariant-loop-rest l = IsTaken l.fn.labels l.rest l.row l.len

abbrev pub decreases-loop-rest : goal.decreases-loop-rest
decreases-loop-rest l = length l.rest
