use Rattle.cases_records.proofs.PlainLemmas.{ended}
use Rattle.cases_records.proofs.reading.records_of.Goals as goal

pub returns : goal.returns
returns c = record { plain = ended c.args.reader.text c.args.reader.origin c.end.result c.end.ensures.says }
