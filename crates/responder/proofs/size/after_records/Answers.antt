use Rattle.std.proofs.Common.{arith}
use Rattle.dns_wire.specs.Encoding.{record_wire}
use Rattle.dns_wire.proofs.EncodeLemmas.{size_most}
use Rattle.responder.proofs.size.after_records.Goals as goal

pub returns-in_err-left : goal.returns-in_err-left
returns-in_err-left c =
    rw c.from_residual.ensures
    (omega (
      arith,
      size_most record_wire c.args.records.now c.loop-one.one-index c.one-item.result
          c.loop-one-test.true c.one-item.is,
      c.in_err-left.ensures,
      c.loop-one.invariant,
    ))
