use Rattle.posix_ere.specs.Cells.{Walked}
use Rattle.posix_ere.proofs.cell.Cells.row.Given as goal

abbrev pub invariant-loop-done : goal.invariant-loop-done
invariant-loop-done g l = Walked l.self l.start l.end l._done l.weight
