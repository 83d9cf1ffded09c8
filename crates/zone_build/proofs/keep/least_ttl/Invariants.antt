use Rattle.std.proofs.Common.{◌≡◌, ◌≤◌, take}
use Rattle.std.specs.Prelude.{Contains}
use Rattle.zone_build.specs.Building.{Given}
use Rattle.zone_build.proofs.keep.least_ttl.Given as goal

abbrev pub invariant-loop-entry : goal.invariant-loop-entry
invariant-loop-entry l = record {
  some : (one : Given) × Contains l.set one × (one.given.ttl ≡ l.least);
  least : (one : Given) → Contains (take l.entry-index l.set) one → l.least ≤ one.given.ttl;
}
