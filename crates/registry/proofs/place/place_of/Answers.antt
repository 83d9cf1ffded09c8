use Rattle.std.proofs.Common.{sym, ◌∙◌}
use Rattle.registry.proofs.PlaceLemmas.{place_equal, place_greater, place_less}
use Rattle.registry.proofs.place.place_of.Goals as goal

pub returns-in-Less : goal.returns-in-Less
returns-in-Less c =
    place_less c.args.set.now c.args.rule.now c.loop-at.at c.index-set-at.result c.loop-at-test.true c.index-set-at.is
    c.requires.rising (sym c.cmp_rule.ensures ∙ c.in-Less.is) c.loop-at.invariant

pub returns-in-Equal : goal.returns-in-Equal
returns-in-Equal c =
    place_equal c.args.set.now c.args.rule.now c.loop-at.at c.index-set-at.result c.loop-at-test.true c.index-set-at.is
    (sym c.cmp_rule.ensures ∙ c.in-Equal.is)

pub loop-at-preserved : goal.loop-at-preserved
loop-at-preserved c =
    place_greater c.args.set.now c.args.rule.now c.loop-at.at c.index-set-at.result c.loop-at-test.true c.index-set-at.is
    (sym c.cmp_rule.ensures ∙ c.in-Greater.is) c.loop-at.invariant
