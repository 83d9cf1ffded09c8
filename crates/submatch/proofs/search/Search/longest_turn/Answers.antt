use Rattle.std.proofs.Common.{◌≡◌, ◌-◌, ◌≤◌, length, arith, true}
use Rattle.submatch.specs.Rows.{IsTurn}
use Rattle.submatch.proofs.TurningLemmas.{none_from, longest_here}
use Rattle.submatch.proofs.search.Search.longest_turn.Goals as goal

pub loop-end-init : goal.loop-end-init
loop-end-init g c = (
  (λ f past turn. let inside : f ≤ length c.args.self.now.text.now = (c.requires.forward c.args.over.from f turn.leads).1 in omega arith),
  omega (arith, c.row-first.ensures.steps),
)

pub loop-end-preserved : goal.loop-end-preserved
loop-end-preserved g c = (
  none_from (IsTurn c.args.empties c.args.part.now c.args.rest.now c.args.over.from c.args.over.to) (c.loop-end.end - 1) c.loop-end.end (omega arith)
      (λ turn. let here : c.has.result ≡ true = c.has.ensures.1 (c.row_after-next.ensures.row.all c.args.over.to
      (c.row-first.ensures.row.all (c.loop-end.end - 1) turn.leads, turn.allowed, turn.others)) in cc (here, c.if-has.false))
      c.loop-end.invariant.0,
  omega (arith, c.loop-end.invariant.1, c.row_after-next.ensures.most),
)

pub returns-then-has-clause-end : goal.returns-then-has-clause-end
returns-then-has-clause-end g c =
    let there = c.row_after-next.ensures.row.each c.args.over.to (c.has.ensures.0 c.if-has.true) in
    longest_here (IsTurn c.args.empties c.args.part.now c.args.rest.now c.args.over.from c.args.over.to) (c.loop-end.end - 1) c.loop-end.end (omega arith)
    (record { leads = c.row-first.ensures.row.each (c.loop-end.end - 1) there.0; allowed = there.1; others = there.2 }) c.loop-end.invariant.0

pub returns-then-has-clause-most : goal.returns-then-has-clause-most
returns-then-has-clause-most g c = omega (arith, c.loop-end.invariant.1, c.row_after-next.ensures.most)

pub returns-clause-end : goal.returns-clause-end
returns-clause-end g c = λ f turn.
    let from_here : c.args.over.from ≤ f = (c.requires.forward c.args.over.from f turn.leads).0 in c.loop-end.invariant.0 f (omega arith) turn

pub returns-clause-most : goal.returns-clause-most
returns-clause-most g c = omega (arith, c.loop-end.invariant.1)
