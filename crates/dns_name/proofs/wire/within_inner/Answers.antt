use Rattle.dns_name.proofs.WithinLemmas.{before_place}
use Rattle.dns_name.proofs.wire.within_inner.Goals as goal

pub returns-in-Ok : goal.returns-in-Ok
returns-in-Ok c =
    (c.in-Ok.ensures, before_place c.args.message.now c.args.at c.args.to c.in-Ok.read.0 c.in-Ok.read.1 c.requires.end c.in_default.ensures c.in-Ok.ensures)
