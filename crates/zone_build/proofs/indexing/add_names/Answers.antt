use Rattle.std.proofs.Common.{subst, sym}
use Rattle.zone_build.specs.Indexing.{CoversAbove, HasBelow}
use Rattle.zone_build.proofs.IndexNamesLemmas.{names_none, names_more, names_all, owner_there}
use Rattle.zone_build.proofs.indexing.add_names.Goals as goal

pub loop-first-init : goal.loop-first-init
loop-first-init c = names_none c.args.records.now c.args.apex.now c.args.index.now c.requires.owners

pub add_above-requires-clause-there : goal.add_above-requires-clause-there
add_above-requires-clause-there c =
    subst (HasBelow c.args.records.now c.loop-first.index) (sym c.owner_at-owner.ensures)
    (owner_there c.args.records.now c.loop-first.index c.loop-first.first c.loop-first.invariant.owners
    c.loop-first.invariant.some c.loop-first-test.true)

pub loop-first-preserved : goal.loop-first-preserved
loop-first-preserved c =
    names_more c.args.records.now c.args.apex.now c.loop-first.first c.end_of-end.result c.loop-first.index
    c.add_above.new.index c.loop-first.invariant c.end_of-end.ensures c.in_ok-add_above.ensures.grown
    (subst (λ n. CoversAbove c.args.records.now c.args.apex.now n c.add_above.new.index) c.owner_at-owner.ensures
    c.in_ok-add_above.ensures.above)

pub returns : goal.returns
returns c = names_all c.args.records.now c.args.apex.now c.loop-first.first c.loop-first.index c.loop-first-test.false c.loop-first.invariant
