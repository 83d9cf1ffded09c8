use Rattle.std.proofs.Common.{◌≡◌}
use Rattle.enum_base.specs.Folding.{folded}
use Rattle.zone_build.specs.Building.{front_of}
use Rattle.zone_build.proofs.FrontLemmas.{BytesBelow}
use Rattle.zone_build.proofs.entry.front_of.Given as goal

abbrev pub invariant-loop-at : goal.invariant-loop-at
invariant-loop-at l = record {
  value : l.front ≡ front_of l.at (folded l.text);
  bytes : BytesBelow l.at (folded l.text);
}
