use Rattle.posix_ere.specs.Machine.{state_of}
use Rattle.posix_ere.proofs.ReadingLemmas.{Going}
use Rattle.posix_ere.proofs.ere.Ere.read.Given as goal

abbrev pub invariant-loop-at : goal.invariant-loop-at
invariant-loop-at g l = Going l.text l.at (state_of l.reader)
