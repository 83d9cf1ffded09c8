use Rattle.std.proofs.Common.{◌≡◌, ◌≤◌, take}
use Rattle.std.specs.Prelude.{Contains}
use Rattle.zone_build.specs.Building.{Given}
use Rattle.zone_build.proofs.build.least_place.Given as goal

abbrev pub invariant-loop-entry : goal.invariant-loop-entry
invariant-loop-entry l = record {
  some : (one : Given) × Contains l.owner one × (one.place ≡ l.least);
  least : (one : Given) → Contains (take l.entry-index l.owner) one → l.least ≤ one.place;
}
