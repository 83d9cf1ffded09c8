use Rattle.std.proofs.Common.{ap, ◌∙◌, length, arith}
use Rattle.std.proofs.lemmas.List.{length-set}
use Rattle.std.proofs.lemmas.List.Edits.{length-swap}
use Rattle.zone_build.proofs.ArrangeLemmas.{arranging_none, arranging_next, next_within}
use Rattle.zone_build.proofs.arrange.arrange.Goals as goal

pub loop-next-init : goal.loop-next-init
loop-next-init c = arranging_none c.args.records.now c.args.keeps.now c.args.who.now c.args.at.now c.requires.who c.requires.at

pub bounds-who-next : goal.bounds-who-next
bounds-who-next c =
    (next_within c.args.records.now c.args.keeps.now c.loop-next.next c.loop-next.records c.loop-next.who
    c.loop-next.at c.loop-next.invariant c.requires.apart c.loop-next-test.true).1

pub change-requires-clause-one : goal.change-requires-clause-one
change-requires-clause-one c =
    (next_within c.args.records.now c.args.keeps.now c.loop-next.next c.loop-next.records c.loop-next.who
    c.loop-next.at c.loop-next.invariant c.requires.apart c.loop-next-test.true).0

pub bounds-records-next : goal.bounds-records-next
bounds-records-next c =
    let l = (next_within c.args.records.now c.args.keeps.now c.loop-next.next c.loop-next.records c.loop-next.who
    c.loop-next.at c.loop-next.invariant c.requires.apart c.loop-next-test.true).0 in
    let e = ap length c.change.ensures ∙ length-swap c.loop-next.records c.loop-next.next _ in
    omega (arith, l, e)

pub bounds-who-next-in-loop-next : goal.bounds-who-next-in-loop-next
bounds-who-next-in-loop-next c =
    let l = (next_within c.args.records.now c.args.keeps.now c.loop-next.next c.loop-next.records c.loop-next.who
    c.loop-next.at c.loop-next.invariant c.requires.apart c.loop-next-test.true).1 in
    rw (length-set c.loop-next.who _ _) l

pub loop-next-preserved : goal.loop-next-preserved
loop-next-preserved c =
    arranging_next c.args.records.now c.args.keeps.now c.loop-next.next c.loop-next.records c.change.new.records
    c.loop-next.who c.loop-next.at c.index-records-next.result c.settle.new.one c.loop-next.invariant
    c.requires.apart c.loop-next-test.true c.change.ensures c.index-records-next.is c.settle.ensures
