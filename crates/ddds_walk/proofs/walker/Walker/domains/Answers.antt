use Rattle.ddds_walk.proofs.StandLemmas.{domains_step, domains_end}
use Rattle.ddds_walk.proofs.walker.Walker.domains.Goals as goal

pub loop-frame-preserved : goal.loop-frame-preserved
loop-frame-preserved c = domains_step c.as_slice-frame-items.result.now c.loop-frame.frame-index c.frame-item.result c.loop-frame.names
    c.push_domain.new.names c.loop-frame-test.true c.frame-item.is c.loop-frame.invariant c.in_ok-push_domain.ensures

pub returns : goal.returns
returns c =
    domains_end c.as_slice-frame-items.result.now c.args.self.now.below c.loop-frame.frame-index c.loop-frame.names
    c.push_domain-2.new.names c.push.new.self
    c.args.self.now.top.domain c.args.last.now c.as_slice-frame-items.ensures c.loop-frame-test.false
    c.loop-frame.invariant c.in_ok-push_domain-2.ensures c.in_ok-push.ensures.ok
