use Rattle.std.proofs.Common.{subst, sym}
use Rattle.dns_name.specs.Name.{IsBelow}
use Rattle.dns_wire.specs.declared.content.Content.TheVariants as content
use Rattle.dns_wire.specs.declared.record.Record.{Record}
use Rattle.zone_build.specs.Zone.{Zone}
use Rattle.registry.specs.Commands.{HasRecord, IsNew, IsWith}
use Rattle.registry.proofs.ChangeLemmas.{zone_of}
use Rattle.registry.proofs.CommandLemmas.{alias_held, alias_put}
use Rattle.registry.proofs.registry.Registry.put_alias.Goals as goal

pub put-requires : goal.put-requires
put-requires c =
    alias_held c.self.inside.apex c.self.inside.soa c.self.inside.sets c.self.invariant c.args.owner.now c.set-set.result.now
    c.set-set.ensures.set c.set-set.ensures.held c.args.target.now c.fresh_record-one.result c.in_ok-more.more
    (record {
      at = c.fresh_record-one.ensures.owner;
      kind = c.fresh_record-one.ensures.kind;
      class = c.fresh_record-one.ensures.class;
      content = c.fresh_record-one.ensures.content;
      ttl = c.fresh_record-one.ensures.ttl;
    })
    (subst (λ z. ¬ HasRecord z c.args.owner.now) (sym c.self.view_is) c.requires.new)
    c.in_ok-more.ensures

pub invariant_of-self-2 : goal.invariant_of-self-2
invariant_of-self-2 c =
    (alias_put c.self.inside.apex c.self.inside.soa c.self.inside.sets c.self.invariant c.args.owner.now c.set-set.result.now
    c.set-set.ensures.set c.set-set.ensures.held c.args.target.now c.fresh_record-one.result c.in_ok-more.more c.put.new.self
    c.wire-wire.ensures.name.short
    (record {
      at = c.fresh_record-one.ensures.owner;
      kind = c.fresh_record-one.ensures.kind;
      class = c.fresh_record-one.ensures.class;
      content = c.fresh_record-one.ensures.content;
      ttl = c.fresh_record-one.ensures.ttl;
    })
    (subst (λ z. ¬ HasRecord z c.args.owner.now) (sym c.self.view_is) c.requires.new)
    c.in_ok-more.ensures (c.in_ok-put.ensures.put c.set-set.result.now c.set-set.ensures.set) c.in_ok-put.ensures.rising
    (subst (λ (z : Zone). IsBelow c.args.owner.now z.apex) (sym c.self.view_is) c.requires.inside)).0

pub returns-clause-ok : goal.returns-clause-ok
returns-clause-ok c =
    subst (λ z. (one : Record) × IsNew z c.args.owner.now (content.Cname c.args.target.now) one
    × IsWith z one (zone_of c.self.inside.apex c.self.inside.soa c.put.new.self)) c.self.view_is
    (alias_put c.self.inside.apex c.self.inside.soa c.self.inside.sets c.self.invariant c.args.owner.now c.set-set.result.now
    c.set-set.ensures.set c.set-set.ensures.held c.args.target.now c.fresh_record-one.result c.in_ok-more.more c.put.new.self
    c.wire-wire.ensures.name.short
    (record {
      at = c.fresh_record-one.ensures.owner;
      kind = c.fresh_record-one.ensures.kind;
      class = c.fresh_record-one.ensures.class;
      content = c.fresh_record-one.ensures.content;
      ttl = c.fresh_record-one.ensures.ttl;
    })
    (subst (λ z. ¬ HasRecord z c.args.owner.now) (sym c.self.view_is) c.requires.new)
    c.in_ok-more.ensures (c.in_ok-put.ensures.put c.set-set.result.now c.set-set.ensures.set) c.in_ok-put.ensures.rising
    (subst (λ (z : Zone). IsBelow c.args.owner.now z.apex) (sym c.self.view_is) c.requires.inside)).1
