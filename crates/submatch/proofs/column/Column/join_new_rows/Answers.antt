use Rattle.std.proofs.Common.{arith}
use Rattle.submatch.proofs.JoiningLemmas.{places_all}
use Rattle.submatch.proofs.ClosedLemmas.{joined_none, joined_next, looked_more}
use Rattle.submatch.proofs.column.Column.join_new_rows.Goals as goal

pub loop-at-init : goal.loop-at-init
loop-at-init g c = record {
  within = c.requires.from;
  joined = joined_none c.args.self.now c.args.places.now c.args.from c.args.row.now c.requires.row;
  looked = omega arith;
  most = λ n after bound. omega arith;
  up = omega arith;
}

pub loop-at-preserved : goal.loop-at-preserved
loop-at-preserved g c = record {
  within = omega (arith, c.next_new-next.ensures.within);
  joined = joined_next c.args.self.now c.args.places.now c.args.from c.loop-at.at c.next_new-next.result c.has.result c.args.row.now c.loop-at.row
      c.join_row_where.new.row c.requires.rows c.next_new-next.ensures.later c.next_new-next.ensures.passed c.has.ensures c.join_row_where.ensures.row
      c.loop-at.invariant.joined;
  looked = omega (arith, c.loop-at.invariant.looked, c.join_row_where.ensures.steps, c.next_new-next.ensures.later);
  most = λ n after bound. looked_more c.loop-at.steps c.args.steps.now c.join_row_where.new.steps c.next_new-next.result c.args.from n c.has.result
      (omega (arith, c.loop-at.invariant.looked, c.next_new-next.ensures.later)) (c.loop-at.invariant.most n after bound)
      c.join_row_where.ensures.steps c.join_row_where.ensures.idle (λ held. bound c.next_new-next.result (c.has.ensures.0 held));
  up = omega (arith, c.loop-at.invariant.up, c.join_row_where.ensures.up);
}

pub returns-clause-row : goal.returns-clause-row
returns-clause-row g c = places_all c.args.self.now c.args.places.now c.args.from c.loop-at.at c.end_of_rows-end.result c.args.row.now c.loop-at.row
    c.end_of_rows-end.ensures.past (omega (arith, c.loop-at-test.false))
    c.loop-at.invariant.joined.adds
