use Rattle.std.proofs.Common.{◌∙◌}
use Rattle.zone_build.specs.declared.entry.Key.TheVariants.{Whole}
use Rattle.zone_build.proofs.OrderLemmas.{alike_equal}
use Rattle.zone_build.proofs.soa.is_repeat.Goals as goal

pub returns-in_default : goal.returns-in_default
returns-in_default c = (
  λ t. absurd (cc),
  λ a. absurd (c.in_default.not-Equal (c.cmp_by.ensures.order ∙ alike_equal Whole c.args.one.now.given c.args.other.now.given a)),
)
