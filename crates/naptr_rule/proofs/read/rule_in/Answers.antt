use Rattle.enum_base.specs.Stages.Then.{goes, stops}
use Rattle.naptr_rule.proofs.RdataLemmas.{is_err}
use Rattle.naptr_rule.proofs.read.rule_in.Goals as goal

pub returns-in_err-front : goal.returns-in_err-front
returns-in_err-front c = stops c.in_err-front.field-0.0 c.in_err-front.ensures.front (is_err _ _ c.from_residual.ensures.1)

pub returns-in_err-replacement : goal.returns-in_err-replacement
returns-in_err-replacement c =
    goes (c.in_ok-front.front, c.in_ok-front.at) c.in_ok-front.ensures.front
    (stops c.in_err-replacement.field-0.0 c.in_err-replacement.ensures.name (is_err _ _ c.from_residual-in_err-replacement.ensures.1))

pub returns : goal.returns
returns c =
    goes (c.in_ok-front.front, c.in_ok-front.at) c.in_ok-front.ensures.front
    (goes (c.in_ok-replacement.replacement, c.in_ok-replacement.at) c.in_ok-replacement.ensures.name c.ends_in.ensures)
