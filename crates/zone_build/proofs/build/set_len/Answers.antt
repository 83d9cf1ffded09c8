use Rattle.zone_build.proofs.SetRunLemmas.{one_set_head, one_set_more, set_ends, set_whole}
use Rattle.zone_build.proofs.build.set_len.Goals as goal

pub loop-at-init : goal.loop-at-init
loop-at-init c = one_set_head c.args.rest.now c.index-rest-0.result c.index-rest-0.is c.requires.some

pub returns-in_default-clause-run : goal.returns-in_default-clause-run
returns-in_default-clause-run c =
    set_ends c.args.rest.now c.index-rest-0.result c.index-rest-at.result c.loop-at.at c.cmp_sets.result
    c.requires.rising c.index-rest-0.is c.index-rest-at.is c.loop-at-test.true c.loop-at.invariant
    c.cmp_sets.ensures.order c.in_default.not-Equal

pub loop-at-preserved : goal.loop-at-preserved
loop-at-preserved c =
    one_set_more c.args.rest.now c.index-rest-0.result c.index-rest-at.result c.loop-at.at c.index-rest-at.is
    c.loop-at-test.true c.loop-at.invariant (c.cmp_sets.ensures.alike c.in-Equal.is)

pub returns-clause-run : goal.returns-clause-run
returns-clause-run c = set_whole c.args.rest.now c.index-rest-0.result c.loop-at.at c.requires.some c.loop-at-test.false c.loop-at.invariant
