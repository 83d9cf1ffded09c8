use Rattle.std.proofs.Common.{arith}
use Rattle.zone_build.proofs.CountLemmas.{count_in_more}
use Rattle.zone_build.proofs.zone.count_in.Goals as goal
use Rattle.zone_build.proofs.zone.count_in.Goals.{then-is_rule_or_alias, else-is_rule_or_alias}

pub loop-one-preserved : goal.loop-one-preserved
loop-one-preserved c =
    let more =
    count_in_more c.args.records.now c.loop-one.one-index c.one-item.result c.loop-one.count c.loop-one-test.true
    c.one-item.is c.loop-one.invariant.count in
    elim c.if-is_rule_or_alias.branch [
      | then-is_rule_or_alias w ↦
          record { count = omega (arith, more, w.count-is, w.if-is_rule_or_alias.ensures); few = omega (arith, w.count-is) }
      | else-is_rule_or_alias w ↦
          record { count = omega (arith, more, w.count-is, w.if-is_rule_or_alias.ensures); few = omega (arith, w.count-is) }
    ]
