use Rattle.std.proofs.Common.{◌≤◌, ◌+◌, arith}
use Rattle.submatch.proofs.JoiningLemmas.{word_none, word_next, word_all}
use Rattle.submatch.proofs.column.Column.join_word.Goals as goal

pub loop-left-init : goal.loop-left-init
loop-left-init g c = record {
  gone = word_none c.args.self.now c.args.word c.args.start c.args.row.now;
  looked = omega arith;
  up = omega arith;
}

pub loop-left-preserved : goal.loop-left-preserved
loop-left-preserved g c = record {
  gone = word_next c.args.self.now c.args.word c.args.start c.args.row.now c.loop-left.left c.loop-left.at c.loop-left.row c.join_row_where.new.row
      c.ranges.word.fits c.loop-left-test.true c.join_row_where.ensures.row c.loop-left.invariant.gone;
  looked = omega (arith, c.loop-left.invariant.looked, c.join_row_where.ensures.steps);
  up = omega (arith, c.loop-left.invariant.up, c.join_row_where.ensures.up);
}

pub returns-clause-row : goal.returns-clause-row
returns-clause-row g c = word_all c.args.self.now c.args.word c.args.start c.args.row.now c.loop-left.left c.loop-left.at c.loop-left.row
    c.loop-left-test.false c.loop-left.invariant.gone

pub returns-clause-steps : goal.returns-clause-steps
returns-clause-steps g c = λ n bits.
    let few : c.loop-left.at ≤ c.args.start + n = c.loop-left.invariant.gone.few n bits in omega (arith, few, c.loop-left.invariant.looked)
