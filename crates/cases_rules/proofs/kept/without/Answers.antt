use Rattle.cases_rules.proofs.KeptLemmas.{without_one, without_first, without_second}
use Rattle.cases_rules.proofs.kept.without.Goals as goal

pub returns-then-same : goal.returns-then-same
returns-then-same c = without_one c.args.kept c.in-One.first c.args.name c.in-One.is (c.same.ensures.0 c.if-same.true)

pub returns-then-same-2 : goal.returns-then-same-2
returns-then-same-2 c = without_first c.args.kept c.in-Two.first c.in-Two.second c.args.name c.in-Two.is (c.same-in-Two.ensures.0 c.if-same-2.true)

pub returns-then-same-3 : goal.returns-then-same-3
returns-then-same-3 c = without_second c.args.kept c.in-Two.first c.in-Two.second c.args.name c.in-Two.is (c.same-else-same-2.ensures.0 c.if-same-3.true)
