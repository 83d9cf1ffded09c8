use Rattle.std.proofs.Common.{refl}
use Rattle.enum_base.specs.Stages.Then.{goes}
use Rattle.dns_wire.proofs.StepLemmas.{stop}
use Rattle.dns_wire.proofs.rdata.read_mx.Goals as goal

pub returns-in_err-preference : goal.returns-in_err-preference
returns-in_err-preference c =
    stop _ _ c.in_err-preference.field-0.0 _ c.in_err-preference.ensures.number c.from_residual.ensures.1

pub returns-in_err-exchange : goal.returns-in_err-exchange
returns-in_err-exchange c =
    goes (c.in_ok-preference.preference, c.in_ok-preference.at_exchange) c.in_ok-preference.ensures.number
    (stop _ _ c.in_err-exchange.field-0.0 _ c.in_err-exchange.ensures c.from_residual-in_err-exchange.ensures.1)

pub returns : goal.returns
returns c =
    goes (c.in_ok-preference.preference, c.in_ok-preference.at_exchange) c.in_ok-preference.ensures.number
    (goes c.in_ok-exchange.exchange c.in_ok-exchange.ensures (refl))
