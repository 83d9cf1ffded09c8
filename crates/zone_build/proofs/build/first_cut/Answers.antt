use Rattle.zone_build.proofs.FaultLemmas.{cut_at}
use Rattle.zone_build.proofs.build.first_cut.Goals as goal

pub returns-in-Some : goal.returns-in-Some
returns-in-Some c = cut_at c.args.given.now c.in-Some.place c.record_at.result.now c.fold.result c.in-Some.ensures.some c.record_at.ensures c.fold.ensures
