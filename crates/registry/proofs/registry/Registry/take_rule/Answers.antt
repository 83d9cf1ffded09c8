use Rattle.std.proofs.Common.{subst, sym, arith}
use Rattle.dns_wire.specs.Kinds.{naptr}
use Rattle.dns_wire.specs.declared.record.Record.{Record}
use Rattle.registry.specs.Commands.{HasRule, IsRuleAt, IsWith}
use Rattle.registry.proofs.ChangeLemmas.{zone_of}
use Rattle.registry.proofs.CommandLemmas.{last_rule_taken, rule_taken, taken_held}
use Rattle.registry.proofs.LookLemmas.{are_rules, free_lacks, set_after_soa}
use Rattle.registry.proofs.registry.Registry.take_rule.Goals as goal

pub invariant_of-self : goal.invariant_of-self
invariant_of-self c =
    (last_rule_taken c.self.inside.apex c.self.inside.soa c.self.inside.sets c.self.invariant c.args.owner.now c.args.rule.now c.set-set.result.now
    c.set-set.ensures.set c.set-set.ensures.held c.take.new.self
    (subst (λ z. HasRule z c.args.owner.now c.args.rule.now) (sym c.self.view_is) c.requires) c.if-set-lt2.true
    (c.take.ensures.taken c.set-set.result.now c.set-set.ensures.set) c.take.ensures.rising).0

pub returns-then-set-lt2-clause-ok : goal.returns-then-set-lt2-clause-ok
returns-then-set-lt2-clause-ok c =
    subst (λ z. (gone : Record) × IsRuleAt c.args.owner.now c.args.rule.now gone
    × IsWith (zone_of c.self.inside.apex c.self.inside.soa c.take.new.self) gone z) c.self.view_is
    (last_rule_taken c.self.inside.apex c.self.inside.soa c.self.inside.sets c.self.invariant c.args.owner.now c.args.rule.now c.set-set.result.now
    c.set-set.ensures.set c.set-set.ensures.held c.take.new.self
    (subst (λ z. HasRule z c.args.owner.now c.args.rule.now) (sym c.self.view_is) c.requires) c.if-set-lt2.true
    (c.take.ensures.taken c.set-set.result.now c.set-set.ensures.set) c.take.ensures.rising).1

pub place_of-requires-clause-rules : goal.place_of-requires-clause-rules
place_of-requires-clause-rules c =
    are_rules (zone_of c.self.inside.apex c.self.inside.soa c.self.inside.sets) c.set-set.result.now c.args.owner.now c.self.invariant
    (set_after_soa c.self.inside.soa c.self.inside.sets c.set-set.result.now c.args.owner.now naptr c.self.invariant.order.0
    (λ e. omega (arith, e)) c.set-set.ensures.set)

pub put-requires : goal.put-requires
put-requires c =
    taken_held c.self.inside.apex c.self.inside.soa c.self.inside.sets c.self.invariant c.args.owner.now c.args.rule.now c.set-set.result.now
    c.set-set.ensures.set c.set-set.ensures.held c.in-Taken.at c.in_ok-less-in-Taken.less
    c.in-Taken.ensures c.in_ok-less-in-Taken.ensures

pub invariant_of-self-in-Taken : goal.invariant_of-self-in-Taken
invariant_of-self-in-Taken c =
    (rule_taken c.self.inside.apex c.self.inside.soa c.self.inside.sets c.self.invariant c.args.owner.now c.args.rule.now c.set-set.result.now
    c.set-set.ensures.set c.set-set.ensures.held c.in-Taken.at c.in_ok-less-in-Taken.less c.put.new.self
    c.in-Taken.ensures c.in_ok-less-in-Taken.ensures
    (c.in_ok-put-in-Taken.ensures.put c.set-set.result.now c.set-set.ensures.set) c.in_ok-put-in-Taken.ensures.rising).0

pub returns-in_ok-put-in-Taken-clause-ok : goal.returns-in_ok-put-in-Taken-clause-ok
returns-in_ok-put-in-Taken-clause-ok c =
    subst (λ z. (gone : Record) × IsRuleAt c.args.owner.now c.args.rule.now gone
    × IsWith (zone_of c.self.inside.apex c.self.inside.soa c.put.new.self) gone z) c.self.view_is
    (rule_taken c.self.inside.apex c.self.inside.soa c.self.inside.sets c.self.invariant c.args.owner.now c.args.rule.now c.set-set.result.now
    c.set-set.ensures.set c.set-set.ensures.held c.in-Taken.at c.in_ok-less-in-Taken.less c.put.new.self
    c.in-Taken.ensures c.in_ok-less-in-Taken.ensures
    (c.in_ok-put-in-Taken.ensures.put c.set-set.result.now c.set-set.ensures.set) c.in_ok-put-in-Taken.ensures.rising).1

pub returns-in-Free-clause-ok : goal.returns-in-Free-clause-ok
returns-in-Free-clause-ok c =
    absurd (free_lacks (zone_of c.self.inside.apex c.self.inside.soa c.self.inside.sets) c.set-set.result.now c.args.owner.now c.args.rule.now c.in-Free.field-0
    (set_after_soa c.self.inside.soa c.self.inside.sets c.set-set.result.now c.args.owner.now naptr c.self.invariant.order.0
    (λ e. omega (arith, e)) c.set-set.ensures.set)
    c.in-Free.ensures
    (subst (λ z. HasRule z c.args.owner.now c.args.rule.now) (sym c.self.view_is) c.requires))
