-- The lines of a message as it is shown (this project's own). The sections of a message are those of RFC 1035, section
-- 4.1.
use Rattle.std.specs.Prelude.{ℕ, ◌==◌, if◌then◌else◌, List, ◌++◌, length, codes, decimal, unwrap_or}
use Rattle.std.specs.List.{flat_map}
use Rattle.std.specs.Int.{w16, to_be_bytes}
use Rattle.hex.specs.Hex.{encode_lower}
use Rattle.dns_name.specs.Name.{folded_labels}
use Rattle.dns_name.specs.Text.{text_of}
use Rattle.dns_wire.specs.Kinds.{kind_word}
use Rattle.dns_wire.specs.declared.content.Content.{Content}
use Rattle.dns_wire.specs.declared.content.Content.TheVariants as content
use Rattle.dns_wire.specs.declared.message.Message.{Message}
use Rattle.dns_wire.specs.declared.question.Question.{Question}
use Rattle.dns_wire.specs.declared.record.Record.{Record}
use Rattle.zone_text.specs.FieldsText.{fields_text}

-- the word of a type: its name, or its number after `TYPE` (RFC 3597, section 5)
abbrev pub kind_text : ℕ → List ℕ
kind_text kind = unwrap_or (kind_word kind) (codes "TYPE" ++ decimal kind)

-- bytes in small hexadecimal digits, or `-` where there are none
abbrev pub bytes_text : List ℕ → List ℕ
bytes_text bytes = if length bytes == 0 then codes "-" else encode_lower bytes

-- what a record says: its fields as a zone text has them, or bytes as they stand
abbrev pub content_text : Content → List ℕ
content_text (content.Opt options) = bytes_text options
content_text (content.Raw bytes) = bytes_text bytes
content_text (content.A address) = fields_text (content.A address)
content_text (content.Ns server) = fields_text (content.Ns server)
content_text (content.Cname target) = fields_text (content.Cname target)
content_text (content.Soa fields) = fields_text (content.Soa fields)
content_text (content.Ptr name) = fields_text (content.Ptr name)
content_text (content.Mx preference exchange) = fields_text (content.Mx preference exchange)
content_text (content.Txt texts) = fields_text (content.Txt texts)
content_text (content.Aaaa address) = fields_text (content.Aaaa address)
content_text (content.Srv priority weight port target) = fields_text (content.Srv priority weight port target)
content_text (content.Naptr rule) = fields_text (content.Naptr rule)

-- the line of the header: the id, the bits in four hexadecimal digits, and the four counts
abbrev pub header_line : Message → List ℕ
header_line message =
    codes "message " ++ decimal message.header.id ++ codes " " ++ encode_lower (to_be_bytes w16 message.header.bits)
    ++ codes " " ++ decimal (length message.questions) ++ codes " " ++ decimal (length message.answers) ++ codes " "
    ++ decimal (length message.authority) ++ codes " " ++ decimal (length message.additional) ++ codes "\n"

-- the line of a question: its folded name, type and class
abbrev pub question_line : Question → List ℕ
question_line question =
    codes "question " ++ text_of (folded_labels question.name) ++ codes " " ++ kind_text question.kind ++ codes " " ++ decimal question.class ++ codes "\n"

-- the line of a record after the word of its section: its folded owner, TTL, class, type, and what it says
abbrev pub record_line : List ℕ → Record → List ℕ
record_line word one =
    word ++ codes " " ++ text_of (folded_labels one.owner) ++ codes " " ++ decimal one.ttl ++ codes " "
    ++ decimal one.class ++ codes " " ++ kind_text one.kind ++ codes " " ++ content_text one.content ++ codes "\n"

-- a message as it is shown
abbrev pub shown : Message → List ℕ
shown message =
    header_line message ++ flat_map question_line message.questions
    ++ flat_map (record_line (codes "answer")) message.answers
    ++ flat_map (record_line (codes "authority")) message.authority
    ++ flat_map (record_line (codes "additional")) message.additional
