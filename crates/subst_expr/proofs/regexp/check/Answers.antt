use Rattle.subst_expr.proofs.EachAnswerLemmas.{check_refuses}
use Rattle.subst_expr.proofs.regexp.check.Goals as goal

pub returns-clause-refuses : goal.returns-clause-refuses
returns-clause-refuses g c =
    check_refuses c.one_fault.ensures c.one_reading.ensures.no_fault c.args.text.now c.checked.result c.checked.ensures.ok c.checked.ensures.err
