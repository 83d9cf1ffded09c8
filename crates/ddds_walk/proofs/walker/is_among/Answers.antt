use Rattle.std.specs.Prelude.{Some}
use Rattle.ddds_walk.proofs.StandLemmas.{among_step}
use Rattle.ddds_walk.proofs.walker.is_among.Goals as goal

pub loop-frame-preserved : goal.loop-frame-preserved
loop-frame-preserved c =
    among_step c.args.frames.now c.loop-frame.frame-index c.frame-item.result
    (Some c.args.domain.now) c.loop-frame-test.true c.frame-item.is
    (λ x. let t = c.if-is_domain.ensures.1 x in cc) c.loop-frame.invariant
