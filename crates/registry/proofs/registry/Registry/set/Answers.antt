use Rattle.std.proofs.Common.{subst}
use Rattle.zone_build.specs.Zone.{Zone, IsSet}
use Rattle.registry.proofs.LookLemmas.{set_after_soa}
use Rattle.registry.proofs.registry.Registry.set.Goals as goal

pub returns-clause-set : goal.returns-clause-set
returns-clause-set c =
    subst (λ (z : Zone). IsSet z.records c.args.owner.now c.args.kind c.set.result.now) c.self.view_is
    (set_after_soa c.self.inside.soa c.self.inside.sets c.set.result.now c.args.owner.now c.args.kind c.self.invariant.order.0
    c.requires c.set.ensures.set)
