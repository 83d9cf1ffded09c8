use Rattle.enum_base.specs.Stages.Then.{goes}
use Rattle.dns_wire.proofs.StepLemmas.{stop}
use Rattle.dns_wire.proofs.rdata.read_address.Goals as goal

pub returns-in_err-bytes : goal.returns-in_err-bytes
returns-in_err-bytes g c =
    stop _ _ c.in_err-bytes.field-0.0 _ c.in_err-bytes.ensures.address c.from_residual.ensures.1

pub returns : goal.returns
returns g c =
    goes (c.in_ok-bytes.bytes, c.in_ok-bytes.end) c.in_ok-bytes.ensures.address (c.ends_in.ensures)
