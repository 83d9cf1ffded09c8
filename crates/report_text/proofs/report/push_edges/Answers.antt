use Rattle.std.proofs.Common.{arith}
use Rattle.report_text.proofs.PrintLemmas.{no_more_edges, one_domain}
use Rattle.report_text.proofs.report.push_edges.Goals as goal

pub returns-in_default : goal.returns-in_default
returns-in_default c =
    let few = c.in_default.len_below in
    no_more_edges _ _ _ _ (omega arith) c.loop-rank.invariant

pub returns-in_default-rest : goal.returns-in_default-rest
returns-in_default-rest c = no_more_edges _ _ _ _ (one_domain _ c.in_default-rest.len_below) c.loop-rank.invariant
