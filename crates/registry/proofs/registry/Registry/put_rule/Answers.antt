use Rattle.std.proofs.Common.{subst, sym, arith}
use Rattle.dns_name.specs.Name.{IsBelow}
use Rattle.dns_wire.specs.Kinds.{cname, naptr}
use Rattle.dns_wire.specs.declared.content.Content.TheVariants as content
use Rattle.dns_wire.specs.declared.record.Record.{Record}
use Rattle.zone_build.specs.Zone.{Zone}
use Rattle.zone_db.specs.LookUp.{HasKind}
use Rattle.registry.specs.Commands.{HasNoRoom, HasRule, IsNew, IsWith}
use Rattle.registry.proofs.ChangeLemmas.{zone_of}
use Rattle.registry.proofs.CommandLemmas.{free_place, free_within, rule_held, rule_put}
use Rattle.registry.proofs.LookLemmas.{are_rules, set_after_soa}
use Rattle.registry.proofs.registry.Registry.put_rule.Goals as goal

pub place_of-requires-clause-rules : goal.place_of-requires-clause-rules
place_of-requires-clause-rules c =
    are_rules (zone_of c.self.inside.apex c.self.inside.soa c.self.inside.sets) c.set-set.result.now c.args.owner.now c.self.invariant
    (set_after_soa c.self.inside.soa c.self.inside.sets c.set-set.result.now c.args.owner.now naptr c.self.invariant.order.0
    (λ e. omega (arith, e)) c.set-set.ensures.set)

pub with_record-requires : goal.with_record-requires
with_record-requires c =
    free_within c.self.inside.apex c.self.inside.soa c.self.inside.sets c.self.invariant c.args.owner.now c.args.rule.now c.set-set.result.now
    c.set-set.ensures.set c.set-set.ensures.held c.at-at.result
    (free_place c.self.inside.apex c.self.inside.soa c.self.inside.sets c.self.invariant c.args.owner.now c.args.rule.now c.set-set.result.now
    c.set-set.ensures.set c.set-set.ensures.held c.place_of.result c.at-at.result
    c.place_of.ensures c.at-at.ensures (subst (λ z. ¬ HasRule z c.args.owner.now c.args.rule.now) (sym c.self.view_is) c.requires.new))

pub put-requires : goal.put-requires
put-requires c =
    rule_held c.self.inside.apex c.self.inside.soa c.self.inside.sets c.self.invariant c.args.owner.now c.args.rule.now c.set-set.result.now
    c.set-set.ensures.set c.set-set.ensures.held c.at-at.result c.fresh_record-one.result c.in_ok-more.more
    (free_place c.self.inside.apex c.self.inside.soa c.self.inside.sets c.self.invariant c.args.owner.now c.args.rule.now c.set-set.result.now
    c.set-set.ensures.set c.set-set.ensures.held c.place_of.result c.at-at.result
    c.place_of.ensures c.at-at.ensures (subst (λ z. ¬ HasRule z c.args.owner.now c.args.rule.now) (sym c.self.view_is) c.requires.new))
    (record {
      at = c.fresh_record-one.ensures.owner;
      kind = c.fresh_record-one.ensures.kind;
      class = c.fresh_record-one.ensures.class;
      content = c.fresh_record-one.ensures.content;
      ttl = c.fresh_record-one.ensures.ttl;
    })
    c.in_ok-more.ensures

pub invariant_of-self-2 : goal.invariant_of-self-2
invariant_of-self-2 c =
    (rule_put c.self.inside.apex c.self.inside.soa c.self.inside.sets c.self.invariant c.args.owner.now c.args.rule.now c.set-set.result.now
    c.set-set.ensures.set c.set-set.ensures.held c.at-at.result c.fresh_record-one.result c.in_ok-more.more c.put.new.self
    (free_place c.self.inside.apex c.self.inside.soa c.self.inside.sets c.self.invariant c.args.owner.now c.args.rule.now c.set-set.result.now
    c.set-set.ensures.set c.set-set.ensures.held c.place_of.result c.at-at.result
    c.place_of.ensures c.at-at.ensures (subst (λ z. ¬ HasRule z c.args.owner.now c.args.rule.now) (sym c.self.view_is) c.requires.new))
    (record {
      at = c.fresh_record-one.ensures.owner;
      kind = c.fresh_record-one.ensures.kind;
      class = c.fresh_record-one.ensures.class;
      content = c.fresh_record-one.ensures.content;
      ttl = c.fresh_record-one.ensures.ttl;
    })
    c.in_ok-more.ensures
    (c.in_ok-put.ensures.put c.set-set.result.now c.set-set.ensures.set) c.in_ok-put.ensures.rising
    (subst (λ (z : Zone). IsBelow c.args.owner.now z.apex) (sym c.self.view_is) c.requires.inside)
    (subst (λ z. ¬ HasKind z c.args.owner.now cname) (sym c.self.view_is) c.requires.unaliased)
    (subst (λ z. ¬ HasNoRoom z c.args.owner.now c.args.rule.now) (sym c.self.view_is) c.requires.room)).0

pub returns-clause-ok : goal.returns-clause-ok
returns-clause-ok c =
    subst (λ z. (one : Record) × IsNew z c.args.owner.now (content.Naptr c.args.rule.now) one
    × IsWith z one (zone_of c.self.inside.apex c.self.inside.soa c.put.new.self)) c.self.view_is
    (rule_put c.self.inside.apex c.self.inside.soa c.self.inside.sets c.self.invariant c.args.owner.now c.args.rule.now c.set-set.result.now
    c.set-set.ensures.set c.set-set.ensures.held c.at-at.result c.fresh_record-one.result c.in_ok-more.more c.put.new.self
    (free_place c.self.inside.apex c.self.inside.soa c.self.inside.sets c.self.invariant c.args.owner.now c.args.rule.now c.set-set.result.now
    c.set-set.ensures.set c.set-set.ensures.held c.place_of.result c.at-at.result
    c.place_of.ensures c.at-at.ensures (subst (λ z. ¬ HasRule z c.args.owner.now c.args.rule.now) (sym c.self.view_is) c.requires.new))
    (record {
      at = c.fresh_record-one.ensures.owner;
      kind = c.fresh_record-one.ensures.kind;
      class = c.fresh_record-one.ensures.class;
      content = c.fresh_record-one.ensures.content;
      ttl = c.fresh_record-one.ensures.ttl;
    })
    c.in_ok-more.ensures
    (c.in_ok-put.ensures.put c.set-set.result.now c.set-set.ensures.set) c.in_ok-put.ensures.rising
    (subst (λ (z : Zone). IsBelow c.args.owner.now z.apex) (sym c.self.view_is) c.requires.inside)
    (subst (λ z. ¬ HasKind z c.args.owner.now cname) (sym c.self.view_is) c.requires.unaliased)
    (subst (λ z. ¬ HasNoRoom z c.args.owner.now c.args.rule.now) (sym c.self.view_is) c.requires.room)).1
