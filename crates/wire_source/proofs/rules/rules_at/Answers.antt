use Rattle.std.proofs.Common.{subst}
use Rattle.std.specs.Prelude.{IfOk}
use Rattle.wire_source.specs.Sorting.{AreOnce}
use Rattle.wire_source.proofs.SortLemmas.{once_rules, once_few}
use Rattle.wire_source.proofs.rules.rules_at.Goals as goal

pub returns-clause-rules : goal.returns-clause-rules
returns-clause-rules c =
    once_rules c.args.name.now c.args.records.now c.in_ok-given.given.items c.sort.new.rules.items c.each_once.result c.in_ok-given.ensures
    c.sort.ensures.same (subst (λ l. IfOk c.each_once.result (AreOnce l)) c.as_slice.ensures.value c.each_once.ensures.once)

pub returns-clause-few : goal.returns-clause-few
returns-clause-few c =
    once_few c.args.name.now c.args.records.now c.in_ok-given.given.items c.sort.new.rules.items c.each_once.result c.in_ok-given.ensures
    c.sort.ensures.same (subst (λ l. IfOk c.each_once.result (AreOnce l)) c.as_slice.ensures.value c.each_once.ensures.once)
