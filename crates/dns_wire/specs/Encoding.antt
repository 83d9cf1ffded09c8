-- The spelling of a message without pointers (RFC 1035, section 4.1).
use Rattle.std.specs.Prelude.{◌≡◌, ℕ, ◌+◌, ◌<◌, List, ◌++◌, length, Option, MatchOption}
use Rattle.std.specs.Int.{w16, w32, to_be_bytes}
use Rattle.std.specs.List.{flat_map}
use Rattle.dns_name.specs.Name.{wire_of}
use Rattle.dns_wire.specs.Rdata.{rdata_of}
use Rattle.dns_wire.specs.declared.question.Question.{Question}
use Rattle.dns_wire.specs.declared.record.Record.{Record}
use Rattle.dns_wire.specs.declared.message.Header.{Header}
use Rattle.dns_wire.specs.declared.message.Counts.{Counts}
use Rattle.dns_wire.specs.declared.message.Message.{Message}

-- a header: six numbers of 16 bits, the high byte first (RFC 1035, 4.1.1)
abbrev pub header_wire : Header → Counts → List ℕ
header_wire header counts =
    to_be_bytes w16 header.id ++ to_be_bytes w16 header.bits ++ to_be_bytes w16 counts.questions
    ++ to_be_bytes w16 counts.answers ++ to_be_bytes w16 counts.authority ++ to_be_bytes w16 counts.additional

-- a question (RFC 1035, 4.1.2)
abbrev pub question_wire : Question → List ℕ
question_wire question = wire_of question.name ++ to_be_bytes w16 question.kind ++ to_be_bytes w16 question.class

-- a record (RFC 1035, 4.1.3)
abbrev pub record_wire : Record → List ℕ
record_wire one =
    wire_of one.owner ++ to_be_bytes w16 one.kind ++ to_be_bytes w16 one.class ++ to_be_bytes w32 one.ttl
    ++ to_be_bytes w16 (length (rdata_of one.content)) ++ rdata_of one.content

-- how many items the lists of a message have (RFC 1035, 4.1.1)
abbrev pub counts_of : Message → Counts
counts_of message = record {
  questions = length message.questions;
  answers = length message.answers;
  authority = length message.authority;
  additional = length message.additional;
}

-- a message: its header, questions and records of three sections (RFC 1035, 4.1)
abbrev pub message_wire : Message → List ℕ
message_wire message =
    header_wire message.header (counts_of message) ++ flat_map question_wire message.questions
    ++ flat_map record_wire message.answers ++ flat_map record_wire message.authority
    ++ flat_map record_wire message.additional

-- what bytes leave of that much room, or that they have more
abbrev pub LeavesRoom : ℕ → List ℕ → Option ℕ → Type 0
LeavesRoom room bytes left = MatchOption left (room < length bytes) (λ rest. rest + length bytes ≡ room)
