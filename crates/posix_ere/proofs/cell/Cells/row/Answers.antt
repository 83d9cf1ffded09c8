use Rattle.std.proofs.Common.{arith, subst, sym, ℕ, ◌+◌}
use Rattle.posix_ere.specs.Cells.{AreCells, Walked}
use Rattle.posix_ere.proofs.ToldLemmas.{row_some, row_step}
use Rattle.posix_ere.proofs.cell.Cells.row.Goals as goal

pub overflow_sub-start : goal.overflow_sub-start
overflow_sub-start g c =
    row_some c.args.self.now c.loop-done.start c.args.end c.loop-done._done c.loop-done.weight (subst AreCells c.self.view_is c.self.invariant)
    c.requires.within c.loop-done.invariant (omega arith)

pub overflow_add-weight : goal.overflow_add-weight
overflow_add-weight g c =
    let s = row_step c.self.inside.items.items c.args.self.now c.loop-done.start c.args.end c.loop-done._done c.loop-done.weight
    c.index-cell.result.now c.self.view_is c.self.invariant c.index-cell.ensures c.requires.within c.loop-done.invariant (omega arith) in
    omega (arith, s.small, c.loop-done.invariant.weighs)

pub loop-done-preserved : goal.loop-done-preserved
loop-done-preserved g c =
    let s = row_step c.self.inside.items.items c.args.self.now c.loop-done.start c.args.end c.loop-done._done c.loop-done.weight
    c.index-cell.result.now c.self.view_is c.self.invariant c.index-cell.ensures c.requires.within c.loop-done.invariant (omega arith) in
    let P : ℕ → Type 0 = λ w. Walked c.args.self.now c.index-cell.result.now.start c.args.end (c.loop-done._done + 1) w in
    subst P (sym c.min-weight.ensures) s.more
