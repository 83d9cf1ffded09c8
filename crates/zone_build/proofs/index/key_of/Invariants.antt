use Rattle.std.proofs.Common.{◌≡◌}
use Rattle.enum_base.specs.Folding.{folded}
use Rattle.zone_build.specs.Indexing.{state_after}
use Rattle.zone_build.proofs.index.key_of.Given as goal

abbrev pub invariant-loop-turn : goal.invariant-loop-turn
invariant-loop-turn l = l.state ≡ state_after l.seed (folded l.wire) l.turn
