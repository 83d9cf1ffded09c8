use Rattle.std.proofs.Common.{[], sym, subst}
use Rattle.zone_db.proofs.RuleLemmas.{HasRulesOf, has_none, has_next, has_all}
use Rattle.registry.proofs.listing.rules_in.Goals as goal

pub loop-one-init : goal.loop-one-init
loop-one-init c = subst (HasRulesOf []) (sym c.new-rules.ensures) has_none

pub loop-one-preserved : goal.loop-one-preserved
loop-one-preserved c =
    has_next c.args.set.now c.loop-one.one-index c.one-item.result c.loop-one.rules c.push_rule.new.rules c.requires
    c.loop-one-test.true c.one-item.is c.loop-one.invariant c.in_ok-push_rule.ensures

pub returns : goal.returns
returns c = (has_all c.args.set.now c.loop-one.one-index c.loop-one.rules c.loop-one-test.false c.loop-one.invariant).are
