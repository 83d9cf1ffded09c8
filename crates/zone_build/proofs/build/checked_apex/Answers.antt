use Rattle.zone_build.proofs.BuildLemmas.{mixed_within}
use Rattle.zone_build.proofs.FaultLemmas.{soa_fault, outside_fault, mixed_fault, unmixed_apex}
use Rattle.zone_build.proofs.build.checked_apex.Goals as goal

pub returns-in-Err-clause-err : goal.returns-in-Err-clause-err
returns-in-Err-clause-err c = soa_fault c.args.given.now c.args.entries.now c.in-Err.fault c.requires.givens c.in-Err.ensures.err

pub returns-in-Some-clause-err : goal.returns-in-Some-clause-err
returns-in-Some-clause-err c =
    outside_fault c.args.given.now c.args.entries.now c.in-Ok.apex c.in-Some.place c.requires.givens c.in-Ok.ensures.ok c.in-Some.ensures.some

pub record_at-requires : goal.record_at-requires
record_at-requires c = mixed_within c.args.given.now c.args.entries.now c.in-Some-first_mixed.place c.requires.givens c.in-Some-first_mixed.ensures

pub returns-in-Some-first_mixed-clause-err : goal.returns-in-Some-first_mixed-clause-err
returns-in-Some-first_mixed-clause-err c =
    mixed_fault c.args.given.now c.args.entries.now c.in-Ok.apex c.in-Some-first_mixed.place c.record_at.result.now
    c.fold.result c.requires.givens c.in-Ok.ensures.ok c.in_default.ensures.none c.in-Some-first_mixed.ensures
    (mixed_within c.args.given.now c.args.entries.now c.in-Some-first_mixed.place c.requires.givens
    c.in-Some-first_mixed.ensures) c.record_at.ensures c.fold.ensures

pub returns-clause-ok : goal.returns-clause-ok
returns-clause-ok c =
    unmixed_apex c.args.given.now c.args.entries.now c.in-Ok.apex c.requires.givens c.in-Ok.ensures.ok
    c.in_default.ensures.none c.in_default-first_mixed.ensures
