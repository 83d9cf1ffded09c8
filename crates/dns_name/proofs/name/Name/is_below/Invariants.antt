use Rattle.std.proofs.Common.{length}
use Rattle.dns_name.proofs.BelowLemmas.{AreRest}
use Rattle.dns_name.proofs.name.Name.is_below.Given as goal

abbrev pub invariant-loop-rest : goal.invariant-loop-rest
invariant-loop-rest l = AreRest l.rest l.self l.other

abbrev pub decreases-loop-rest : goal.decreases-loop-rest
decreases-loop-rest l = length l.rest
