use Rattle.std.proofs.Common.{IsTrue}
use Rattle.cases_rules.proofs.KeptLemmas.{has_second}
use Rattle.cases_rules.proofs.kept.has.Goals as goal

pub returns-else-same : goal.returns-else-same
returns-else-same c = has_second c.args.kept c.in-Two.first c.in-Two.second c.args.name c.in-Two.is
    (λ e. let t : IsTrue c.same-in-Two.result = c.same-in-Two.ensures.1 e in cc (t, c.if-same.false)) c.same-else-same.result c.same-else-same.ensures
