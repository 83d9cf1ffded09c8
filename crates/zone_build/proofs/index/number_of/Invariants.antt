use Rattle.std.proofs.Common.{◌≡◌, take}
use Rattle.enum_base.specs.Folding.{folded}
use Rattle.zone_build.specs.Indexing.{number_after}
use Rattle.zone_build.proofs.index.number_of.Given as goal

abbrev pub invariant-loop-byte : goal.invariant-loop-byte
invariant-loop-byte l = l.number ≡ number_after 0 (folded (take l.byte-index l.byte-items))
