use Rattle.std.proofs.Common.{◌∙◌, length, arith}
use Rattle.posix_ere.specs.Parts.{weight}
use Rattle.submatch.specs.Table.{IsAlive, column_at, part_at, tree_of}
use Rattle.submatch.proofs.FindingLemmas.{none_below_more, best_of}
use Rattle.submatch.proofs.SpendingLemmas.{spent_nothing, spent_found, some_or_none}
use Rattle.submatch.proofs.search.Search.best.Goals as goal

pub loop-start-preserved : goal.loop-start-preserved
loop-start-preserved g c = record {
  none = none_below_more c.args.self.now.fold c.args.self.now.text.now (tree_of c.args.self.now.ere.now c.args.table.now c.args.whole) c.loop-start.start
      c.loop-start.invariant.none c.in_default.ensures.greatest;
  looked = omega (arith, c.loop-start.invariant.looked, c.in_default.ensures.none);
  idle = λ dead. c.in_default.ensures.idle dead ∙ c.loop-start.invariant.idle dead;
}

pub returns-in-Some-clause-best : goal.returns-in-Some-clause-best
returns-in-Some-clause-best g c = best_of c.args.self.now.fold c.args.self.now.text.now (tree_of c.args.self.now.ere.now c.args.table.now c.args.whole)
    c.loop-start.start c.in-Some.spans
    (omega (
      arith,
      c.loop-start-test.true,
      c.places-start-end.ensures,
    )) c.loop-start.invariant.none c.in-Some.ensures.greatest

pub returns-in-Some-clause-most : goal.returns-in-Some-clause-most
returns-in-Some-clause-most g c = spent_found (weight (tree_of c.args.self.now.ere.now c.args.table.now c.args.whole)) (length c.args.self.now.text.now)
    c.loop-start.start c.args.steps.now c.loop-start.steps c.best_from.new.steps (omega (arith, c.loop-start-test.true, c.places-start-end.ensures))
    c.loop-start.invariant.looked c.in-Some.ensures.some

pub returns-clause-best : goal.returns-clause-best
returns-clause-best g c = λ i within. c.loop-start.invariant.none i (omega (arith, c.loop-start-test.false, c.places-start-end.ensures, within))

pub returns-clause-most : goal.returns-clause-most
returns-clause-most g c = spent_nothing (IsAlive c.args.table.now c.args.whole) (weight (tree_of c.args.self.now.ere.now c.args.table.now c.args.whole))
    (length c.args.self.now.text.now) c.args.steps.now c.loop-start.steps
    (some_or_none (length (column_at c.args.table.now (part_at c.args.table.now c.args.whole).own)))
    c.requires.heavy (omega (arith, c.loop-start.auto.start-end, c.places-start-end.ensures, c.loop-start.invariant.looked)) c.loop-start.invariant.idle
