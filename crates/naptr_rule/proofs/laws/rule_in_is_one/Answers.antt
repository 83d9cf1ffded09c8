use Rattle.naptr_rule.proofs.InLemmas.{IsSingle-rule_in, IsTotal-rule_in}
use Rattle.naptr_rule.proofs.RdataLemmas.{rdata_stands}
use Rattle.naptr_rule.proofs.laws.rule_in_is_one.Goals as goal

pub returns-clause-read : goal.returns-clause-read
returns-clause-read c = rdata_stands

pub returns-clause-one : goal.returns-clause-one
returns-clause-one c = λ message from to one other h k. (IsSingle-rule_in message from to).same one other h k

pub returns-clause-some : goal.returns-clause-some
returns-clause-some c = λ message from to fits all. let some = IsTotal-rule_in message from to all fits in (some.result, some.comes)
