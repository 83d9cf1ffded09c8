use Rattle.enum_base.specs.Stages.Then.{goes}
use Rattle.dns_wire.proofs.StepLemmas.{stop}
use Rattle.dns_wire.proofs.rdata.read_last_name.Goals as goal

pub returns-in_err-name : goal.returns-in_err-name
returns-in_err-name c =
    stop _ _ c.in_err-name.field-0.0 _ c.in_err-name.ensures.name c.from_residual.ensures.1

pub returns : goal.returns
returns c =
    goes (c.in_ok-name.name, c.in_ok-name.end) c.in_ok-name.ensures.name (c.ends_in.ensures)
