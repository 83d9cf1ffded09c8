use Rattle.std.proofs.Common.{subst, arith}
use Rattle.dns_name.specs.Wire.{PointerAt}
use Rattle.dns_name.proofs.TargetLemmas.{hops-first}
use Rattle.dns_name.proofs.targets.target_at.Goals as goal

pub returns-then-offset-targets : goal.returns-then-offset-targets
returns-then-offset-targets c =
    let low = c.if-offset-targets.true in
    let before = c.requires.before in
    hops-first c.args.message.now c.args.at c.in-Ok-Pointer.offset _
    (subst (λ place. PointerAt c.args.message.now place c.in-Ok-Pointer.offset) c.from.ensures
    (rw c.in-Ok-Pointer.field-0-is at c.in-Ok-Pointer.ensures)) (omega arith)
    (c.requires.targets c.in-Ok-Pointer.offset low)
