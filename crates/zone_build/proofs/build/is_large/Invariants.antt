use Rattle.std.proofs.Common.{◌≡◌, ◌≤◌, take}
use Rattle.zone_build.specs.Zone.{weight}
use Rattle.zone_build.proofs.build.is_large.Given as goal

abbrev pub invariant-loop-one : goal.invariant-loop-one
invariant-loop-one l = record {
  sum : l.sum ≡ weight (take l.one-index l.set);
  few : l.sum ≤ 60_000;
}
