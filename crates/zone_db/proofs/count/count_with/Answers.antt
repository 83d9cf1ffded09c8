use Rattle.std.proofs.Common.{◌≤◌, ◌+◌, arith}
use Rattle.zone_db.proofs.CountLemmas.{counts_with, few_with}
use Rattle.zone_db.proofs.count.count_with.Goals as goal

pub overflow_cast-result : goal.overflow_cast-result
overflow_cast-result c =
    let few : c.args.count + c.rules_and_aliases.result ≤ 400_000 =
    few_with c.args.zones.now c.args.zone.now c.args.count c.rules_and_aliases.result c.requires.fits c.requires.count
    c.rules_and_aliases.ensures.few in
    omega (arith, few)

pub overflow_add-result : goal.overflow_add-result
overflow_add-result c =
    let few : c.args.count + c.rules_and_aliases.result ≤ 400_000 =
    few_with c.args.zones.now c.args.zone.now c.args.count c.rules_and_aliases.result c.requires.fits c.requires.count
    c.rules_and_aliases.ensures.few in
    omega (arith, few)

pub returns : goal.returns
returns c = counts_with c.args.zones.now c.args.zone.now c.args.count c.rules_and_aliases.result c.requires.count c.rules_and_aliases.ensures.count
