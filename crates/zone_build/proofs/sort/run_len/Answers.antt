use Rattle.zone_build.proofs.RunLemmas.{run_ends, run_all, alike_head, alike_more}
use Rattle.zone_build.proofs.sort.run_len.Goals as goal

pub loop-at-init : goal.loop-at-init
loop-at-init c = alike_head c.args.key c.args.rest.now c.index-rest-0.result c.index-rest-0.is c.requires.some

pub returns-in_default : goal.returns-in_default
returns-in_default c =
    run_ends c.args.key c.args.rest.now c.index-rest-0.result c.index-rest-at.result c.loop-at.at c.cmp_by.result
    c.requires.ordered c.index-rest-0.is c.index-rest-at.is c.loop-at-test.true c.loop-at.invariant
    c.cmp_by.ensures.order c.in_default.not-Equal

pub loop-at-preserved : goal.loop-at-preserved
loop-at-preserved c =
    alike_more c.args.key c.args.rest.now c.index-rest-0.result c.index-rest-at.result c.loop-at.at c.index-rest-at.is
    c.loop-at-test.true c.loop-at.invariant (c.cmp_by.ensures.alike c.in-Equal.is)

pub returns : goal.returns
returns c =
    run_all c.args.key c.args.rest.now c.index-rest-0.result c.loop-at.at c.requires.some c.loop-at-test.false c.loop-at.invariant
