use Rattle.posix_ere.specs.Bracket.Item.{members}
use Rattle.posix_ere.proofs.MarksLemmas.{Marking}
use Rattle.posix_ere.proofs.bracket.mark_class.Given as goal

abbrev pub invariant-loop-byte : goal.invariant-loop-byte
invariant-loop-byte l = Marking (members l.class) l.byte l.fn.marks l.marks
