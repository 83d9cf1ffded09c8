use Rattle.std.proofs.Common.{ap, ◌∙◌}
use Rattle.zone_build.specs.Zone.{owner_order}
use Rattle.zone_build.specs.Building.{Given}
use Rattle.zone_build.proofs.OrderLemmas.{keys_apart}
use Rattle.zone_build.proofs.entry.Entry.cmp_owner.Goals as goal

pub returns-in_default : goal.returns-in_default
returns-in_default c =
    keys_apart c.self.inside.given.now c.other.inside.given.now _ _ _ _ _ _ _ _ c.cmp.result c.self.invariant
    c.other.invariant c.cmp.ensures c.in_default.not-Equal
    ∙ ap (λ (g : Given). owner_order g.given c.other.inside.given.now) c.self.view_is
    ∙ ap (λ (g : Given). owner_order c.args.self.now.given g.given) c.other.view_is
