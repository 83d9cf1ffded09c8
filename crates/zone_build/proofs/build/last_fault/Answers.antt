use Rattle.zone_build.proofs.FaultLemmas.{large_last}
use Rattle.zone_build.proofs.build.last_fault.Goals as goal

pub returns-in-Some-clause-some : goal.returns-in-Some-clause-some
returns-in-Some-clause-some c = large_last c.args.kept.now c.args.cut c.in-Some.place c.record_at-one.result.now c.in-Some.ensures.first c.record_at-one.ensures
