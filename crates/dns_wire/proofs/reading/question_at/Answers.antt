use Rattle.std.proofs.Common.{refl}
use Rattle.enum_base.specs.Stages.Then.{goes}
use Rattle.dns_wire.proofs.StepLemmas.{stop}
use Rattle.dns_wire.proofs.reading.question_at.Goals as goal

pub returns-in_err-name-clause-question : goal.returns-in_err-name-clause-question
returns-in_err-name-clause-question c =
    stop _ _ c.in_err-name.field-0.0 _ c.in_err-name.ensures.name c.from_residual.ensures.1

pub returns-in_err-kind-clause-question : goal.returns-in_err-kind-clause-question
returns-in_err-kind-clause-question c =
    goes (c.in_ok-name.name, c.in_ok-name.at_kind) c.in_ok-name.ensures.name
    (stop _ _ c.in_err-kind.field-0.0 _ c.in_err-kind.ensures.number c.from_residual-in_err-kind.ensures.1)

pub returns-in_err-class-clause-question : goal.returns-in_err-class-clause-question
returns-in_err-class-clause-question c =
    goes (c.in_ok-name.name, c.in_ok-name.at_kind) c.in_ok-name.ensures.name
    (goes (c.in_ok-kind.kind, c.in_ok-kind.at_class) c.in_ok-kind.ensures.number
    (stop _ _ c.in_err-class.field-0.0 _ c.in_err-class.ensures.number c.from_residual-in_err-class.ensures.1))

pub returns-clause-question : goal.returns-clause-question
returns-clause-question c =
    goes (c.in_ok-name.name, c.in_ok-name.at_kind) c.in_ok-name.ensures.name
    (goes (c.in_ok-kind.kind, c.in_ok-kind.at_class) c.in_ok-kind.ensures.number
    (goes (c.in_ok-class.class, c.in_ok-class.end) c.in_ok-class.ensures.number (refl)))
