use Rattle.posix_ere.specs.Bracket.Item.{range}
use Rattle.posix_ere.proofs.MarksLemmas.{Marking}
use Rattle.posix_ere.proofs.bracket.mark_range.Given as goal

abbrev pub invariant-loop-byte : goal.invariant-loop-byte
invariant-loop-byte l = Marking (range l.first l.last) l.byte l.fn.marks l.marks
