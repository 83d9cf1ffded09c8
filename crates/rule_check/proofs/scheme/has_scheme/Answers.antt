use Rattle.rule_check.proofs.CheckLemmas.{scheme_iff, no_scheme}
use Rattle.rule_check.proofs.scheme.has_scheme.Goals as goal

pub returns-in-Ok : goal.returns-in-Ok
returns-in-Ok c =
    scheme_iff c.split_has_pieces.ensures c.args.regexp.now c.in-Ok.subst c.gives_scheme.result
    c.in-Ok.ensures.answer c.in-Ok.ensures.only c.gives_scheme.ensures

pub returns-in-Err : goal.returns-in-Err
returns-in-Err c = (λ t. cc, λ h. absurd (no_scheme c.args.regexp.now c.in-Err.field-0 c.in-Err.ensures.only h))
