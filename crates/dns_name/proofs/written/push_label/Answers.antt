use Rattle.std.proofs.Common.{◌∙◌, ◌++◌, ◌∷◌, [], ap, length, get_or, arith, length-append, append_assoc}
use Rattle.std.proofs.lemmas.List.{take_all}
use Rattle.std.specs.List.{flat_map}
use Rattle.dns_name.specs.Text.{byte_text}
use Rattle.dns_name.proofs.TextLemmas.{byte_text-short, written_more}
use Rattle.dns_name.proofs.written.push_label.Goals as goal

pub loop-byte-preserved : goal.loop-byte-preserved
loop-byte-preserved c =
    let i = c.loop-byte.byte-index in
    let byte = get_or c.args.label.now i 0 in
    let now = c.push_byte.ensures in
    record {
      bytes = written_more c.args.text.now _ c.args.label.now i c.loop-byte-test.true (now ∙ ap (λ x. x ++ byte_text byte) c.loop-byte.invariant.bytes);
      room = omega (arith, ap length now, length-append c.loop-byte.text (byte_text byte), byte_text-short byte, c.loop-byte.invariant.room);
    }

pub returns : goal.returns
returns c =
    let label = c.args.label.now in
    c.push.ensures
    ∙ ap (λ x. x ++ 46 ∷ []) (c.loop-byte.invariant.bytes
    ∙ ap (λ x. c.args.text.now ++ flat_map byte_text x)
    (take_all c.loop-byte.byte-index label c.loop-byte-test.false))
    ∙ append_assoc c.args.text.now (flat_map byte_text label) (46 ∷ [])
