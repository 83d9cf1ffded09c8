use Rattle.std.proofs.Common.{refl}
use Rattle.enum_base.specs.Stages.Then.{goes}
use Rattle.dns_wire.proofs.StepLemmas.{stop}
use Rattle.dns_wire.proofs.rdata.soa_in.Goals as goal

pub returns-in_err-mname-clause-soa : goal.returns-in_err-mname-clause-soa
returns-in_err-mname-clause-soa c =
    stop _ _ c.in_err-mname.field-0.0 _ c.in_err-mname.ensures.name c.from_residual.ensures.1

pub returns-in_err-rname-clause-soa : goal.returns-in_err-rname-clause-soa
returns-in_err-rname-clause-soa c =
    goes (c.in_ok-mname.mname, c.in_ok-mname.at_rname) c.in_ok-mname.ensures.name
    (stop _ _ c.in_err-rname.field-0.0 _ c.in_err-rname.ensures.name c.from_residual-in_err-rname.ensures.1)

pub returns-in_err-serial-clause-soa : goal.returns-in_err-serial-clause-soa
returns-in_err-serial-clause-soa c =
    goes (c.in_ok-mname.mname, c.in_ok-mname.at_rname) c.in_ok-mname.ensures.name
    (goes (c.in_ok-rname.rname, c.in_ok-rname.at_serial) c.in_ok-rname.ensures.name
    (stop _ _ c.in_err-serial.field-0.0 _ c.in_err-serial.ensures.number c.from_residual-in_err-serial.ensures.1))

pub returns-in_err-refresh-clause-soa : goal.returns-in_err-refresh-clause-soa
returns-in_err-refresh-clause-soa c =
    goes (c.in_ok-mname.mname, c.in_ok-mname.at_rname) c.in_ok-mname.ensures.name
    (goes (c.in_ok-rname.rname, c.in_ok-rname.at_serial) c.in_ok-rname.ensures.name
    (goes (c.in_ok-serial.serial, c.in_ok-serial.at_refresh) c.in_ok-serial.ensures.number
    (stop _ _ c.in_err-refresh.field-0.0 _ c.in_err-refresh.ensures.number
    c.from_residual-in_err-refresh.ensures.1)))

pub returns-in_err-retry-clause-soa : goal.returns-in_err-retry-clause-soa
returns-in_err-retry-clause-soa c =
    goes (c.in_ok-mname.mname, c.in_ok-mname.at_rname) c.in_ok-mname.ensures.name
    (goes (c.in_ok-rname.rname, c.in_ok-rname.at_serial) c.in_ok-rname.ensures.name
    (goes (c.in_ok-serial.serial, c.in_ok-serial.at_refresh) c.in_ok-serial.ensures.number
    (goes (c.in_ok-refresh.refresh, c.in_ok-refresh.at_retry) c.in_ok-refresh.ensures.number
    (stop _ _ c.in_err-retry.field-0.0 _ c.in_err-retry.ensures.number c.from_residual-in_err-retry.ensures.1))))

pub returns-in_err-expire-clause-soa : goal.returns-in_err-expire-clause-soa
returns-in_err-expire-clause-soa c =
    goes (c.in_ok-mname.mname, c.in_ok-mname.at_rname) c.in_ok-mname.ensures.name
    (goes (c.in_ok-rname.rname, c.in_ok-rname.at_serial) c.in_ok-rname.ensures.name
    (goes (c.in_ok-serial.serial, c.in_ok-serial.at_refresh) c.in_ok-serial.ensures.number
    (goes (c.in_ok-refresh.refresh, c.in_ok-refresh.at_retry) c.in_ok-refresh.ensures.number
    (goes (c.in_ok-retry.retry, c.in_ok-retry.at_expire) c.in_ok-retry.ensures.number
    (stop _ _ c.in_err-expire.field-0.0 _ c.in_err-expire.ensures.number
    c.from_residual-in_err-expire.ensures.1)))))

pub returns-in_err-minimum-clause-soa : goal.returns-in_err-minimum-clause-soa
returns-in_err-minimum-clause-soa c =
    goes (c.in_ok-mname.mname, c.in_ok-mname.at_rname) c.in_ok-mname.ensures.name
    (goes (c.in_ok-rname.rname, c.in_ok-rname.at_serial) c.in_ok-rname.ensures.name
    (goes (c.in_ok-serial.serial, c.in_ok-serial.at_refresh) c.in_ok-serial.ensures.number
    (goes (c.in_ok-refresh.refresh, c.in_ok-refresh.at_retry) c.in_ok-refresh.ensures.number
    (goes (c.in_ok-retry.retry, c.in_ok-retry.at_expire) c.in_ok-retry.ensures.number
    (goes (c.in_ok-expire.expire, c.in_ok-expire.at_minimum) c.in_ok-expire.ensures.number
    (stop _ _ c.in_err-minimum.field-0.0 _ c.in_err-minimum.ensures.number
    c.from_residual-in_err-minimum.ensures.1))))))

pub returns-clause-soa : goal.returns-clause-soa
returns-clause-soa c =
    goes (c.in_ok-mname.mname, c.in_ok-mname.at_rname) c.in_ok-mname.ensures.name
    (goes (c.in_ok-rname.rname, c.in_ok-rname.at_serial) c.in_ok-rname.ensures.name
    (goes (c.in_ok-serial.serial, c.in_ok-serial.at_refresh) c.in_ok-serial.ensures.number
    (goes (c.in_ok-refresh.refresh, c.in_ok-refresh.at_retry) c.in_ok-refresh.ensures.number
    (goes (c.in_ok-retry.retry, c.in_ok-retry.at_expire) c.in_ok-retry.ensures.number
    (goes (c.in_ok-expire.expire, c.in_ok-expire.at_minimum) c.in_ok-expire.ensures.number
    (goes (c.in_ok-minimum.minimum, c.in_ok-minimum.end) c.in_ok-minimum.ensures.number (refl)))))))
