use Rattle.wire_source.proofs.ReadingLemmas.{reads_one}
use Rattle.wire_source.proofs.laws.one_reading.Goals as goal

pub returns : goal.returns
returns c = reads_one
