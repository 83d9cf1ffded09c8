use Rattle.std.proofs.Common.{◌+◌, arith}
use Rattle.dns_wire.specs.Message.{RecordAt}
use Rattle.dns_wire.proofs.ItemLemmas.{reading-more, reading-stops}
use Rattle.dns_wire.proofs.StepLemmas.{sure}
use Rattle.dns_wire.proofs.decoding.records_at.Goals as goal

pub returns-in_err-record-clause-records : goal.returns-in_err-record-clause-records
returns-in_err-record-clause-records c =
    reading-stops
    (RecordAt c.args.message.now) c.args.from _ c.records._index c.args.count c.records.records c.records.at
    c.in_err-record.field-0.0 _ c.records.invariant c.records-test.true c.in_err-record.ensures.record
    c.from_residual.ensures.1

pub records-preserved : goal.records-preserved
records-preserved c =
    rw c.in_ok-push.ensures.ok
    (reading-more (RecordAt c.args.message.now) c.args.from _ c.records._index (c.records._index + 1)
    c.records.records c.records.at c.in_ok-record.record c.in_ok-record.next c.records.invariant (omega arith)
    (sure (RecordAt c.args.message.now c.records.at) (c.in_ok-record.record, c.in_ok-record.next)
    c.in_ok-record.ensures.record) c.in_ok-record.ensures.within.1)
