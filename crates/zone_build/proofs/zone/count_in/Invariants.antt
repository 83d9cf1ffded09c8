use Rattle.std.proofs.Common.{◌≡◌, ◌≤◌, take, map}
use Rattle.naptr_data.specs.Zones.{rules_and_aliases_in}
use Rattle.zone_build.specs.Plain.{owned_of}
use Rattle.zone_build.proofs.zone.count_in.Given as goal

abbrev pub invariant-loop-one : goal.invariant-loop-one
invariant-loop-one l = record {
  count : l.count ≡ rules_and_aliases_in (map owned_of (take l.one-index l.records));
  few : l.count ≤ l.one-index;
}
