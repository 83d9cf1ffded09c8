use Rattle.std.proofs.Common.{subst, sym}
use Rattle.dns_wire.specs.Kinds.{cname}
use Rattle.dns_wire.specs.declared.record.Record.{Record}
use Rattle.zone_build.specs.Zone.{IsIn}
use Rattle.zone_db.specs.LookUp.{HasKind}
use Rattle.registry.specs.Commands.{IsWith}
use Rattle.registry.proofs.ChangeLemmas.{zone_of}
use Rattle.registry.proofs.CommandLemmas.{alias_taken}
use Rattle.registry.proofs.registry.Registry.take_alias.Goals as goal

pub invariant_of-self : goal.invariant_of-self
invariant_of-self c =
    (alias_taken c.self.inside.apex c.self.inside.soa c.self.inside.sets c.self.invariant c.args.owner.now c.set-alias.result.now
    c.set-alias.ensures.set c.set-alias.ensures.held c.take.new.self
    (subst (λ z. HasKind z c.args.owner.now cname) (sym c.self.view_is) c.requires)
    (c.take.ensures.taken c.set-alias.result.now c.set-alias.ensures.set) c.take.ensures.rising).0

pub returns : goal.returns
returns c =
    subst (λ z. (gone : Record) × IsIn c.args.owner.now cname gone
    × IsWith (zone_of c.self.inside.apex c.self.inside.soa c.take.new.self) gone z) c.self.view_is
    (alias_taken c.self.inside.apex c.self.inside.soa c.self.inside.sets c.self.invariant c.args.owner.now c.set-alias.result.now
    c.set-alias.ensures.set c.set-alias.ensures.held c.take.new.self
    (subst (λ z. HasKind z c.args.owner.now cname) (sym c.self.view_is) c.requires)
    (c.take.ensures.taken c.set-alias.result.now c.set-alias.ensures.set) c.take.ensures.rising).1
