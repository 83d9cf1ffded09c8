use Rattle.enum_base.specs.Stages.Then.{goes}
use Rattle.dns_wire.proofs.StepLemmas.{stop}
use Rattle.dns_wire.proofs.rdata.read_soa.Goals as goal

pub returns-in_err-soa : goal.returns-in_err-soa
returns-in_err-soa c =
    stop _ _ c.in_err-soa.field-0.0 _ c.in_err-soa.ensures.soa c.from_residual.ensures.1

pub returns : goal.returns
returns c =
    goes (c.in_ok-soa.soa, c.in_ok-soa.end) c.in_ok-soa.ensures.soa (c.ends_in.ensures)
