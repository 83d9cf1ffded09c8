use Rattle.std.proofs.Common.{length}
use Rattle.dns_wire.specs.Message.{QuestionAt}
use Rattle.dns_wire.proofs.ItemLemmas.{IsReadingItems}
use Rattle.dns_wire.proofs.decoding.questions_at.Given as goal

abbrev pub invariant-questions : goal.invariant-questions
invariant-questions l = IsReadingItems (QuestionAt l.message) 12 (length l.message) l._index l.questions l.at
