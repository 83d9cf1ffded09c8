use Rattle.std.proofs.Common.{◌≡◌, take}
use Rattle.std.specs.Prelude.{Contains}
use Rattle.dns_wire.specs.declared.content.Content.TheVariants as content
use Rattle.dns_wire.specs.declared.content.Soa.{Soa}
use Rattle.dns_wire.specs.declared.record.Record.{Record}
use Rattle.wire_source.proofs.records.has_soa.Given as goal

abbrev pub invariant-loop-one : goal.invariant-loop-one
invariant-loop-one l = (one : Record) (soa : Soa) → Contains (take l.one-index l.records) one → ¬ (one.content ≡ content.Soa soa)
