use Rattle.std.proofs.Common.{arith}
use Rattle.dns_name.proofs.NameLemmas.{AreBytes-fits}
use Rattle.dns_name.proofs.WireLemmas.{label-there}
use Rattle.dns_name.proofs.field.field_at.Goals as goal

pub returns-else-room-first : goal.returns-else-room-first
returns-else-room-first c =
    label-there c.args.message.now c.args.at c.from-first.result (AreBytes-fits c.args.message.now c.type_inv.message)
    (omega arith) c.from-first.ensures (omega arith) c.if-first-lt64.true (omega arith)
