use Rattle.std.proofs.Common.{take}
use Rattle.std.specs.Prelude.{Contains}
use Rattle.dns_wire.specs.declared.record.Record.{Record}
use Rattle.zone_build.specs.Faults.{IsWildcardCut}
use Rattle.zone_build.proofs.soa.first_wildcard_cut.Given as goal

abbrev pub invariant-loop-place : goal.invariant-loop-place
invariant-loop-place l = (one : Record) → Contains (take l.place l.records) one → ¬ IsWildcardCut one
