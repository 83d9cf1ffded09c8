use Rattle.ddds_walk.proofs.OneReportLemmas.{one_report}
use Rattle.ddds_walk.proofs.laws.one_report.Goals as goal

pub returns : goal.returns
returns c = λ client zones key xs ys a b.
    one_report c.one_offer.ensures c.one_output.ensures.output client zones key xs ys a b
