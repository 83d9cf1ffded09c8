use Rattle.std.proofs.Common.{◌≡◌, ◌-◌, ◌≤◌, length, subst, sym, arith, true}
use Rattle.submatch.specs.Parses.{IsParse}
use Rattle.submatch.specs.Ends.{Reaches}
use Rattle.submatch.specs.Table.{column_at, part_at, tree_of}
use Rattle.submatch.proofs.EndsLemmas.{IsWithin, parse_within}
use Rattle.submatch.proofs.TurningLemmas.{none_from, longest_here}
use Rattle.submatch.proofs.SpendingLemmas.{no_rows}
use Rattle.submatch.proofs.search.Search.longest_end.Goals as goal

pub loop-end-init : goal.loop-end-init
loop-end-init g c = λ f past h.
    let e : IsWithin (length c.args.self.now.text.now) c.args.from f =
    parse_within c.args.self.now.fold c.args.self.now.text.now (tree_of c.args.self.now.ere.now c.args.table.now c.args.number) c.args.from f h.0 h.1 h.2 in
    let inside : f ≤ length c.args.self.now.text.now = e.inside c.requires.within in omega (arith, past, c.places-end.ensures)

pub loop-end-preserved : goal.loop-end-preserved
loop-end-preserved g c =
    none_from (Reaches (IsParse c.args.self.now.fold c.args.self.now.text.now (tree_of c.args.self.now.ere.now c.args.table.now c.args.number)) c.args.from)
    (c.loop-end.end - 1) c.loop-end.end (omega arith)
    (λ h. let here : c.has.result
    ≡ true = c.has.ensures.1
    (c.row-row.ensures.row.all (c.loop-end.end - 1)
    (c.own.ensures.column.all c.args.from (c.loop-end.end - 1) c.requires.within h)) in
    cc (here, c.if-has.false))
    c.loop-end.invariant

pub returns-then-has-clause-end : goal.returns-then-has-clause-end
returns-then-has-clause-end g c =
    longest_here (Reaches (IsParse c.args.self.now.fold c.args.self.now.text.now (tree_of c.args.self.now.ere.now c.args.table.now c.args.number)) c.args.from)
    (c.loop-end.end - 1) c.loop-end.end (omega arith)
    (c.own.ensures.column.each c.args.from (c.loop-end.end - 1) (c.row-row.ensures.row.each (c.loop-end.end - 1) (c.has.ensures.0 c.if-has.true)))
    c.loop-end.invariant

pub returns-then-has-clause-idle : goal.returns-then-has-clause-idle
returns-then-has-clause-idle g c = λ dead. c.row-row.ensures.idle (subst (λ rows. length rows ≡ 0) (sym c.own.ensures.rows)
    (no_rows (length (column_at c.args.table.now (part_at c.args.table.now c.args.number).own)) dead))

pub returns-clause-end : goal.returns-clause-end
returns-clause-end g c = λ f h.
    let e : IsWithin (length c.args.self.now.text.now) c.args.from f =
    parse_within c.args.self.now.fold c.args.self.now.text.now (tree_of c.args.self.now.ere.now c.args.table.now c.args.number) c.args.from f h.0 h.1 h.2 in
    let up : c.args.from ≤ f = e.forward in c.loop-end.invariant f (omega arith) h

pub returns-clause-idle : goal.returns-clause-idle
returns-clause-idle g c = λ dead. c.row-row.ensures.idle (subst (λ rows. length rows ≡ 0) (sym c.own.ensures.rows)
    (no_rows (length (column_at c.args.table.now (part_at c.args.table.now c.args.number).own)) dead))
