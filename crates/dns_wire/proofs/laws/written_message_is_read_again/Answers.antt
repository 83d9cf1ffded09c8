use Rattle.dns_wire.proofs.MessageStandLemmas.{reads_back}
use Rattle.dns_wire.proofs.laws.written_message_is_read_again.Goals as goal

pub returns : goal.returns
returns c = reads_back
