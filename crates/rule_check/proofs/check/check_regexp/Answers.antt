use Rattle.std.proofs.Common.{rules, subst, sym}
use Rattle.rule_check.specs.Checking.{IsFaultOfRegexp}
use Rattle.rule_check.proofs.CheckLemmas.{regexp_err}
use Rattle.rule_check.proofs.check.check_regexp.Goals as goal

pub returns-in-Err-clause-err : goal.returns-in-Err-clause-err
returns-in-Err-clause-err g c =
    let m = g.P.DddsApp.meaning c.args.app.now in
    subst (λ f. IsFaultOfRegexp m c.args.rule.now f) (sym c.from.ensures)
    (regexp_err m c.args.rule.now c.in-Err.fault (search rules) c.in-Err.ensures.err)
