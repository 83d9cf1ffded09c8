use Rattle.registry.proofs.LawLemmas.{one_refusal}
use Rattle.registry.proofs.laws.one_refusal.Goals as goal

pub returns : goal.returns
returns c = one_refusal c.one_rule_fault.ensures.one
