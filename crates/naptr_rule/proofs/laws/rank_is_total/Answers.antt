use Rattle.naptr_rule.proofs.RuleLemmas.{rank_of-total, rank_of-equal}
use Rattle.naptr_rule.proofs.laws.rank_is_total.Goals as goal

pub returns-clause-total : goal.returns-clause-total
returns-clause-total c = rank_of-total

pub returns-clause-apart : goal.returns-clause-apart
returns-clause-apart c = rank_of-equal
