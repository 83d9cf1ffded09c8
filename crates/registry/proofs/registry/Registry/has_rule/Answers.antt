use Rattle.std.proofs.Common.{refl}
use Rattle.registry.proofs.LookLemmas.{free_lacks, taken_has}
use Rattle.registry.proofs.registry.Registry.has_rule.Goals as goal

pub returns-in-Taken : goal.returns-in-Taken
returns-in-Taken c = (
  λ t. taken_has c.args.self.now c.rules_at.result.now c.args.owner.now c.args.rule.now c.in-Taken.field-0 c.rules_at.ensures.set c.in-Taken.ensures,
  λ h. refl,
)

pub returns-in_default : goal.returns-in_default
returns-in_default c = (
  λ t. cc t,
  λ h. absurd (free_lacks c.args.self.now c.rules_at.result.now c.args.owner.now c.args.rule.now c.in_default.field-0 c.rules_at.ensures.set
      c.in_default.ensures h),
)
