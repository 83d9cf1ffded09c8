use Rattle.std.proofs.Common.{rules}
use Rattle.dns_wire.proofs.MessageStandLemmas.{reads_back}
use Rattle.dns_wire.proofs.encoding.encode.Goals as goal

pub returns-clause-spells : goal.returns-clause-spells
returns-clause-spells c = reads_back c.args.message.now c.in_ok-write_whole.ensures.fits (search rules)
