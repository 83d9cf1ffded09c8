use Rattle.std.proofs.Common.{inr}
use Rattle.rule_check.proofs.CheckLemmas.{uri_first}
use Rattle.rule_check.proofs.check.checked.Goals as goal

pub returns-in-Some-uri_fault-clause-err : goal.returns-in-Some-uri_fault-clause-err
returns-in-Some-uri_fault-clause-err g c =
    inr (uri_first c.one_reading.ensures.no_fault (g.P.DddsApp.meaning c.args.app.now) c.args.rule.now c.in-Some-uri_fault.fault
    c.in_default.ensures c.in_default-services_fault.ensures c.in_ok-check_regexp.ensures.ok c.in-Some-uri_fault.ensures)
