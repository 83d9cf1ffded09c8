-- How many bytes records have.
use Rattle.std.proofs.Common.{◌≡◌, ◌+◌, ◌≤◌, List, [], ◌∷◌, ◌++◌, length, ap, ◌∙◌, refl, arith, length-append}
use Rattle.std.proofs.Common.{Result, Ok, Err, IfOk, subst, sym}
use Rattle.std.specs.List.{flat_map}
use Rattle.std.proofs.lemmas.List.Concat.{flat_map-cons}
use Rattle.std.proofs.lemmas.List.Sums.{sum_by-cons}
use Rattle.std.proofs.lemmas.Grind.{flat_map-append}
use Rattle.std.proofs.lemmas.Bool.{le-leb}
use Rattle.std.specs.Prelude.{Bool, IsTrue, true, ◌&&◌, Option, Some, None}
use Rattle.std.specs.Int.{w16, w32, to_be_bytes}
use Rattle.dns_name.specs.Name.{wire_of}
use Rattle.naptr_data.specs.Zones.{Labels}
use Rattle.dns_wire.specs.Encoding.{header_wire, question_wire, record_wire, message_wire, counts_of}
use Rattle.dns_wire.specs.Rdata.{rdata_of}
use Rattle.dns_wire.specs.declared.record.Record.{Record}
use Rattle.zone_build.specs.Zone.{weight}
use Rattle.dns_wire.specs.Counts.{is_counted, are_counted}
use Rattle.dns_wire.specs.declared.message.Header.{Header}
use Rattle.dns_wire.specs.declared.message.Message.{Message}
use Rattle.dns_wire.specs.declared.question.Question.{Question}
use Rattle.zone_db.specs.Replies.{owned_by, questions_of, options_for, IsMessageOf}
use Rattle.zone_db.specs.declared.draft.Draft.{Draft}
use Rattle.responder.specs.Sizes.{size, base_size}

-- a record, whatever it is told of
pub record_size : (one : Record) → length (record_wire one) ≡ length (wire_of one.owner) + 10 + length (rdata_of one.content)
record_size one =
    let owner = wire_of one.owner in
    let kind = to_be_bytes w16 one.kind in
    let class = to_be_bytes w16 one.class in
    let ttl = to_be_bytes w32 one.ttl in
    let count = to_be_bytes w16 (length (rdata_of one.content)) in
    let rdata = rdata_of one.content in
    omega (
      arith,
      length-append owner kind,
      length-append (owner ++ kind) class,
      length-append (owner ++ kind ++ class) ttl,
      length-append (owner ++ kind ++ class ++ ttl) count,
      length-append (owner ++ kind ++ class ++ ttl ++ count) rdata,
    )

-- records that are told of a name have no more bytes than they weigh
pub owned_small : (name : Labels) (records : List Record) → length (wire_of name) ≤ 255 → size (owned_by name records) ≤ weight records
owned_small name [] short = omega arith
owned_small name (one ∷ records) short =
    let told : Record = record one { owner = name } in
    let owned = owned_by name records in
    let whole : size (owned_by name (one ∷ records)) ≡ length (record_wire told ++ flat_map record_wire owned) =
    ap length (flat_map-cons record_wire told owned) in
    omega (
      arith,
      short,
      whole,
      record_size told,
      length-append (record_wire told) (flat_map record_wire owned),
      sum_by-cons (λ (x : Record). 265 + length (rdata_of x.content)) one records,
      owned_small name records short,
    )

pub owned_ok : {E : Type 0} (name : Labels) (records : List Record) (result : Result (List Record) E) → length (wire_of name) ≤ 255
    → IfOk result (λ owned. owned ≡ owned_by name records) → IfOk result (λ owned. size owned ≤ weight records)
owned_ok name records (Ok owned) short is = subst (λ l. size l ≤ weight records) (sym is) (owned_small name records short)
owned_ok name records (Err fault) short is = tt

-- each record has a byte or more
items_size : (records : List Record) → length records ≤ size records
items_size [] = omega arith
items_size (one ∷ records) =
    let whole : size (one ∷ records) ≡ length (record_wire one ++ flat_map record_wire records) =
    ap length (flat_map-cons record_wire one records) in
    omega (arith, whole, record_size one, length-append (record_wire one) (flat_map record_wire records), items_size records)

pub both_size : (one other : List Record) → size (one ++ other) ≡ size one + size other
both_size one other =
    ap length (flat_map-append record_wire one other) ∙ length-append (flat_map record_wire one) (flat_map record_wire other)

counted : {A : Type 0} (items : List A) → length items ≤ 65_535 → is_counted items ≡ true
counted items few = le-leb (length items) 65_535 few

all_true : (a b c d : Bool) → a ≡ true → b ≡ true → c ≡ true → d ≡ true → IsTrue (a && b && c && d)
all_true a b c d p q r s = rw p (rw q (rw r (rw s refl)))

question_few : (question : Option Question) → length (questions_of question) ≤ 65_535
question_few None = omega arith
question_few (Some question) = omega arith

-- the sections of what is said can be counted
abbrev pub IsCounted : Option Record → Draft → Type 0
IsCounted options draft =
    IsTrue (are_counted (questions_of draft.question) draft.answers draft.authority (draft.glue ++ options_for options draft.code))

pub small_counted : (options : Option Record) (draft : Draft) → base_size options draft + size draft.glue ≤ 65_535 → IsCounted options draft
small_counted options draft small =
    let more = options_for options draft.code in
    all_true (is_counted (questions_of draft.question)) (is_counted draft.answers) (is_counted draft.authority) (is_counted (draft.glue ++ more))
    (counted (questions_of draft.question) (question_few draft.question))
    (counted draft.answers (omega (arith, small, items_size draft.answers)))
    (counted draft.authority (omega (arith, small, items_size draft.authority)))
    (counted (draft.glue ++ more) (omega (arith, small, length-append draft.glue more, items_size draft.glue, items_size more)))

header_size : (message : Message) → length (header_wire message.header (counts_of message)) ≡ 12
header_size message =
    let a = to_be_bytes w16 message.header.id in
    let b = to_be_bytes w16 message.header.bits in
    let c = to_be_bytes w16 (length message.questions) in
    let d = to_be_bytes w16 (length message.answers) in
    let e = to_be_bytes w16 (length message.authority) in
    let f = to_be_bytes w16 (length message.additional) in
    omega (
      arith,
      length-append a b,
      length-append (a ++ b) c,
      length-append (a ++ b ++ c) d,
      length-append (a ++ b ++ c ++ d) e,
      length-append (a ++ b ++ c ++ d ++ e) f,
    )

-- how many bytes the message of what is said has
pub message_size : (query : Header) (options : Option Record) (short : Bool) (draft : Draft) (message : Message)
    → IsMessageOf query options short draft message → length (message_wire message) ≡ base_size options draft + size draft.glue
message_size query options short draft message parts =
    let header = header_wire message.header (counts_of message) in
    let questions = flat_map question_wire message.questions in
    let answers = flat_map record_wire message.answers in
    let authority = flat_map record_wire message.authority in
    let additional = flat_map record_wire message.additional in
    let more : size message.additional ≡ size draft.glue + size (options_for options draft.code) =
    ap size parts.additional ∙ both_size draft.glue (options_for options draft.code) in
    omega (
      arith,
      header_size message,
      length-append header questions,
      length-append (header ++ questions) answers,
      length-append (header ++ questions ++ answers) authority,
      length-append (header ++ questions ++ answers ++ authority) additional,
      ap (λ q. length (flat_map question_wire q)) parts.questions,
      ap size parts.answers,
      ap size parts.authority,
      more,
    )
