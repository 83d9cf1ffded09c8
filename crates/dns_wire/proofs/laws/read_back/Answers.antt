use Rattle.std.proofs.Common.{refl, rules}
use Rattle.dns_wire.proofs.LawLemmas.{one_read}
use Rattle.dns_wire.specs.Encoding.{message_wire}
use Rattle.dns_wire.proofs.laws.read_back.Goals as goal

-- src/laws.rt:34:1
pub returns-in-Ok-clause-same : goal.returns-in-Ok-clause-same
returns-in-Ok-clause-same c =
    one_read c.as_slice.result.now (message_wire c.args.message.now) c.in-Ok.again c.args.message.now
    (search rules) (c.in-Ok.ensures.message c.in-Ok.again refl) c.in_ok-encode.ensures.spells
