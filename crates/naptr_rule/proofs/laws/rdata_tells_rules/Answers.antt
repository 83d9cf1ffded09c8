use Rattle.naptr_rule.proofs.RuleLemmas.{rdata-injective}
use Rattle.naptr_rule.proofs.laws.rdata_tells_rules.Goals as goal

pub returns : goal.returns
returns c = rdata-injective
