use Rattle.cases_rules.proofs.KeptLemmas.{rising_by}
use Rattle.cases_rules.proofs.listed.+is_rising.Goals as goal

pub returns-then-are_after : goal.returns-then-are_after
returns-then-are_after t c = λ rest.
    rising_by c.args.rules.now c.one-item.result c.in-len1-up.len_at_least c.one-item.is (c.are_after.ensures c.if-are_after.true) (c.is_rising.ensures rest)
