use Rattle.std.proofs.Common.{refl}
use Rattle.enum_base.specs.Stages.Then.{goes}
use Rattle.dns_wire.proofs.StepLemmas.{stop}
use Rattle.dns_wire.proofs.rdata.read_srv.Goals as goal

pub returns-in_err-priority : goal.returns-in_err-priority
returns-in_err-priority c =
    stop _ _ c.in_err-priority.field-0.0 _ c.in_err-priority.ensures.number c.from_residual.ensures.1

pub returns-in_err-weight : goal.returns-in_err-weight
returns-in_err-weight c =
    goes (c.in_ok-priority.priority, c.in_ok-priority.at_weight) c.in_ok-priority.ensures.number
    (stop _ _ c.in_err-weight.field-0.0 _ c.in_err-weight.ensures.number c.from_residual-in_err-weight.ensures.1)

pub returns-in_err-port : goal.returns-in_err-port
returns-in_err-port c =
    goes (c.in_ok-priority.priority, c.in_ok-priority.at_weight) c.in_ok-priority.ensures.number
    (goes (c.in_ok-weight.weight, c.in_ok-weight.at_port) c.in_ok-weight.ensures.number
    (stop _ _ c.in_err-port.field-0.0 _ c.in_err-port.ensures.number c.from_residual-in_err-port.ensures.1))

pub returns-in_err-target : goal.returns-in_err-target
returns-in_err-target c =
    goes (c.in_ok-priority.priority, c.in_ok-priority.at_weight) c.in_ok-priority.ensures.number
    (goes (c.in_ok-weight.weight, c.in_ok-weight.at_port) c.in_ok-weight.ensures.number
    (goes (c.in_ok-port.port, c.in_ok-port.at_target) c.in_ok-port.ensures.number
    (stop _ _ c.in_err-target.field-0.0 _ c.in_err-target.ensures c.from_residual-in_err-target.ensures.1)))

pub returns : goal.returns
returns c =
    goes (c.in_ok-priority.priority, c.in_ok-priority.at_weight) c.in_ok-priority.ensures.number
    (goes (c.in_ok-weight.weight, c.in_ok-weight.at_port) c.in_ok-weight.ensures.number
    (goes (c.in_ok-port.port, c.in_ok-port.at_target) c.in_ok-port.ensures.number
    (goes c.in_ok-target.target c.in_ok-target.ensures (refl))))
