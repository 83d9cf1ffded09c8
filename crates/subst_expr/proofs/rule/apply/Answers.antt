use Rattle.subst_expr.proofs.EachAnswerLemmas.{output_comes, no_match_comes, refusal_comes, too_long_comes}
use Rattle.subst_expr.proofs.rule.apply.Goals as goal

pub returns-clause-output : goal.returns-clause-output
returns-clause-output g c =
    output_comes c.one_output.ensures.output c.one_output.ensures.unmatched c.one_reading.ensures.no_fault
    c.args.text.now c.args.aus.now _ _ c.append_output.result c.append_output.ensures.ok c.append_output.ensures.err

pub returns-clause-no_match : goal.returns-clause-no_match
returns-clause-no_match g c =
    no_match_comes c.one_output.ensures.output c.one_output.ensures.unmatched c.one_reading.ensures.no_fault
    c.args.text.now c.args.aus.now _ _ c.append_output.result c.append_output.ensures.ok c.append_output.ensures.err

pub returns-clause-too_long : goal.returns-clause-too_long
returns-clause-too_long g c =
    too_long_comes c.one_output.ensures.output c.one_output.ensures.unmatched c.one_reading.ensures.no_fault
    c.args.text.now c.args.aus.now _ _ c.append_output.result c.append_output.ensures.ok c.append_output.ensures.err

pub returns-clause-ill_formed : goal.returns-clause-ill_formed
returns-clause-ill_formed g c =
    refusal_comes c.one_fault.ensures c.one_reading.ensures.no_fault c.args.text.now c.args.aus.now _ _
    c.append_output.result c.append_output.ensures.ok c.append_output.ensures.err
