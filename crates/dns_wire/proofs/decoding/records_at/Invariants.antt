use Rattle.std.proofs.Common.{length}
use Rattle.dns_wire.specs.Message.{RecordAt}
use Rattle.dns_wire.proofs.ItemLemmas.{IsReadingItems}
use Rattle.dns_wire.proofs.decoding.records_at.Given as goal

abbrev pub invariant-records : goal.invariant-records
invariant-records l = IsReadingItems (RecordAt l.message) l.from (length l.message) l._index l.records l.at
