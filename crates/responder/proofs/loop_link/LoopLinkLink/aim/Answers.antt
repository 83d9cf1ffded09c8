use Rattle.std.proofs.Common.{◌≡◌, ap, arith}
use Rattle.enum_base.specs.Causes.{one_more}
use Rattle.responder.specs.Loops.{MemoryLink}
use Rattle.responder.proofs.loop_link.LoopLinkLink.aim.Goals as goal

pub returns-then-is_listed-clause-cause : goal.returns-then-is_listed-clause-cause
returns-then-is_listed-clause-cause c =
    let raised : c.fault.new.self.faults ≡ one_more c.args.self.now.faults = ap (λ (l : MemoryLink). l.faults) c.fault.ensures.raised in
    record { later = c.fault.ensures.later; failed = omega (arith, raised); kept = tt }
