use Rattle.std.proofs.Common.{◌+◌, ◌-◌, ◌%◌, ◌<◌, ◌≤◌, arith}
use Rattle.submatch.proofs.JoiningLemmas.{places_none, places_next, places_all}
use Rattle.submatch.proofs.column.Column.join_rows.Goals as goal

pub loop-at-init : goal.loop-at-init
loop-at-init g c = record {
  later = omega arith;
  within = c.requires.from;
  adds = places_none c.args.self.now c.args.places.now c.args.from c.args.row.now;
  looked = omega arith;
  most = λ n after bound. omega arith;
  up = omega arith;
}

pub loop-at-preserved : goal.loop-at-preserved
loop-at-preserved g c =
    let inside : c.loop-at.at < 256 = omega (arith, c.loop-at-test.true, c.end_of_rows-end.ensures.within) in
    let word : c.join_word.new.steps ≤ c.loop-at.steps + (64 - c.loop-at.at % 64) =
    c.join_word.ensures.steps (64 - c.loop-at.at % 64) (λ bit one. ((c.word_from.ensures bit).0 one).0) in
    let so_far : c.loop-at.steps + c.args.from ≤ c.args.steps.now + c.loop-at.at = c.loop-at.invariant.looked in
    let up : c.args.from ≤ c.loop-at.at = c.loop-at.invariant.later in
    record {
      later = omega arith;
      within = omega arith;
      adds = places_next c.args.self.now c.args.places.now c.args.from c.loop-at.at c.word_from.result c.args.row.now c.loop-at.row c.join_word.new.row up
          c.word_from.ensures c.join_word.ensures.row c.loop-at.invariant.adds;
      looked = omega arith;
      most = λ n after bound.
          let here : c.join_word.new.steps ≤ c.loop-at.steps + (n - c.loop-at.at) = c.join_word.ensures.steps (n - c.loop-at.at)
          (λ bit one. let less : c.loop-at.at + bit < n = bound (c.loop-at.at + bit) ((c.word_from.ensures bit).0 one).1 in omega arith) in
          let before : c.loop-at.steps + c.args.from ≤ c.args.steps.now + n = c.loop-at.invariant.most n after bound in omega arith;
      up = omega (arith, c.loop-at.invariant.up, c.join_word.ensures.up);
    }

pub returns-clause-row : goal.returns-clause-row
returns-clause-row g c = places_all c.args.self.now c.args.places.now c.args.from c.loop-at.at c.end_of_rows-end.result c.args.row.now c.loop-at.row
    c.end_of_rows-end.ensures.past (omega (arith, c.loop-at-test.false))
    c.loop-at.invariant.adds

pub join_new_rows-requires-clause-rows : goal.join_new_rows-requires-clause-rows
join_new_rows-requires-clause-rows g c = c.requires.rows c.if-closed.true
