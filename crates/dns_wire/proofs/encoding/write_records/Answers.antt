use Rattle.std.proofs.Common.{arith}
use Rattle.dns_wire.specs.Encoding.{record_wire}
use Rattle.dns_wire.proofs.EncodeLemmas.{front_through, held_front, size_most}
use Rattle.dns_wire.proofs.encoding.write_records.Goals as goal

pub write_record-requires : goal.write_record-requires
write_record-requires c =
    omega (arith, size_most record_wire c.args.records.now c.loop-one.one-index c.one-item.result c.loop-one-test.true c.one-item.is, c.requires)

pub returns-in_err-write_record-clause-front : goal.returns-in_err-write_record-clause-front
returns-in_err-write_record-clause-front c = front_through _ _ _ (held_front _ _ _ c.loop-one.invariant.0) c.in_err-write_record.ensures.front

pub returns-clause-front : goal.returns-clause-front
returns-clause-front c = held_front _ _ _ c.loop-one.invariant.0
