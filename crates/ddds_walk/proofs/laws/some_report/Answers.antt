use Rattle.ddds_walk.proofs.SomeReportLemmas.{some_report}
use Rattle.ddds_walk.proofs.laws.some_report.Goals as goal

pub returns-clause-apart : goal.returns-clause-apart
returns-clause-apart c = λ client zones key apart.
    some_report c.one_offer.ensures c.one_output.ensures.output c.output_or_none.ensures.output client zones
    (λ name. c.some_offer.ensures.apart zones name apart) key

pub returns-clause-rules : goal.returns-clause-rules
returns-clause-rules c = λ client zones key hold.
    some_report c.one_offer.ensures c.one_output.ensures.output c.output_or_none.ensures.output client zones
    (λ name. c.some_offer.ensures.rules zones name hold) key
