use Rattle.std.proofs.Common.{◌≡◌, take}
use Rattle.std.specs.Prelude.{Contains}
use Rattle.naptr_data.specs.Zones.{Labels}
use Rattle.dns_wire.specs.declared.content.Content.TheVariants as content
use Rattle.dns_wire.specs.declared.record.Record.{Record}
use Rattle.wire_source.proofs.records.has_server.Given as goal

abbrev pub invariant-loop-one : goal.invariant-loop-one
invariant-loop-one l = (one : Record) (server : Labels) → Contains (take l.one-index l.records) one → ¬ (one.content ≡ content.Ns server)
