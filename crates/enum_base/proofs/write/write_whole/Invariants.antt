use Rattle.std.proofs.Common.{◌-◌, length}
use Rattle.enum_base.proofs.WrittenLemmas.{IsWritten}
use Rattle.enum_base.proofs.write.write_whole.Given as goal

abbrev pub invariant-loop-written : goal.invariant-loop-written
invariant-loop-written g l =
    IsWritten (g.K.Sink.state l.initial.sink) (g.K.Sink.state l.sink) l.written l.bytes

abbrev pub decreases-loop-written : goal.decreases-loop-written
decreases-loop-written g l = length l.bytes - l.written
