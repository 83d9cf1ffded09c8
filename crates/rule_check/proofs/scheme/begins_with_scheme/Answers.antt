use Rattle.rule_check.proofs.CheckLemmas.{scheme_cut, scheme_none}
use Rattle.rule_check.proofs.scheme.begins_with_scheme.Goals as goal

pub returns-in-Some : goal.returns-in-Some
returns-in-Some c =
    let text = c.args.text.now in
    let front = c.in-Some.scheme.now in
    let back = c.in-Some.field-0-1.now in (
      λ t. (front, back, c.in-Some.ensures.0, c.is_scheme.ensures.0 t),
      λ u. c.is_scheme.ensures.1 (scheme_cut text front back c.in-Some.ensures.0 c.in-Some.ensures.1 u),
    )

pub returns-in-None : goal.returns-in-None
returns-in-None c = (λ t. cc, λ u. absurd (scheme_none c.args.text.now c.in-None.ensures u))
