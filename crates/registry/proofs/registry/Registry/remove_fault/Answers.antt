use Rattle.registry.proofs.registry.Registry.remove_fault.Goals as goal

pub returns-else-not-has_rule-clause-there : goal.returns-else-not-has_rule-clause-there
returns-else-not-has_rule-clause-there c = c.has_rule.ensures.0 c.if-not-has_rule.false
