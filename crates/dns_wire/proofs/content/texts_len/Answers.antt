use Rattle.std.proofs.Common.{arith, ap, length}
use Rattle.rdata_field.specs.Strings.{string_wire}
use Rattle.dns_wire.proofs.EncodeLemmas.{size_more}
use Rattle.dns_wire.proofs.content.texts_len.Goals as goal

pub loop-text-preserved : goal.loop-text-preserved
loop-text-preserved c =
    let more = size_more string_wire c.args.texts.now c.loop-text.text-index c.text-item.result c.loop-text-test.true c.text-item.is in
    let size = ap length c.as_bytes.ensures.value in
    omega (arith, more, size, c.saturating_add-size.ensures, c.loop-text.invariant)
