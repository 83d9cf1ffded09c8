use Rattle.std.proofs.Common.{◌+◌, ◌-◌, length}
use Rattle.enum_base.proofs.LoadedLemmas.{IsLoaded}
use Rattle.enum_base.proofs.input.load.Given as goal

abbrev pub invariant-pieces : goal.invariant-pieces
invariant-pieces g l =
    IsLoaded (l.most + 4096) (g.I.Source.state l.initial.input).left (g.I.Source.state l.input).left
    (g.I.Source.state l.initial.input).faults (g.I.Source.state l.input).faults l.bytes

abbrev pub decreases-pieces : goal.decreases-pieces
decreases-pieces g l = l.most + 1 - length l.bytes
