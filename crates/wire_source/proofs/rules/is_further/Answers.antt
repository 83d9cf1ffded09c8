use Rattle.wire_source.proofs.SortLemmas.{after_all, among_all}
use Rattle.wire_source.proofs.rules.is_further.Goals as goal

pub returns-in-Some-clause-after : goal.returns-in-Some-clause-after
returns-in-Some-clause-after c = λ t s k.
    after_all c.args.before.now c.in-Some.last.now c.args.rule.now c.in-Some.ensures.value c.requires.rising (c.comes_after.ensures.less.0 t) s k

pub returns-in-Some-clause-among : goal.returns-in-Some-clause-among
returns-in-Some-clause-among c = λ f.
    among_all c.args.before.now c.in-Some.last.now c.args.rule.now c.in-Some.ensures.value c.comes_after.ensures.rules.0
    c.comes_after.ensures.rules.1 c.requires.ordered (λ less. absurd (cc (c.comes_after.ensures.less.1 less)))
