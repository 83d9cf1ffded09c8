use Rattle.std.proofs.Common.{take}
use Rattle.std.specs.Prelude.{Contains}
use Rattle.dns_name.specs.Name.{IsBelow}
use Rattle.dns_wire.specs.declared.record.Record.{Record}
use Rattle.zone_build.proofs.soa.first_outside.Given as goal

abbrev pub invariant-loop-place : goal.invariant-loop-place
invariant-loop-place l = (one : Record) → Contains (take l.place l.records) one → IsBelow one.owner l.apex
