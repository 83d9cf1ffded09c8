-- The reply of zones to a query is read as what they offer.
use Rattle.std.proofs.Common.{◌≡◌, ◌⊎◌, inl, inr, ℕ, ◌+◌, ◌*◌, ◌/◌, ◌%◌, ◌^◌, ◌<◌, ◌≤◌, List, [], ◌∷◌, ◌++◌, length, refl, sym, ap, subst, ◌∙◌, arith, length-append}
use Rattle.std.specs.Prelude.{Bool, true, false, Option}
use Rattle.std.specs.Int.{w16, to_be_bytes}
use Rattle.std.specs.List.{flat_map}
use Rattle.std.proofs.lemmas.List.Concat.{flat_map-cons}
use Rattle.dns_name.specs.Name.{IsName, folded_labels, wire_of}
use Rattle.naptr_data.specs.Zones.{Labels}
use Rattle.dns_wire.specs.Encoding.{counts_of, header_wire, message_wire, question_wire}
use Rattle.dns_wire.specs.Message.{Spells}
use Rattle.dns_wire.specs.Ranges.{IsMessage}
use Rattle.dns_wire.specs.declared.message.Header.{Header}
use Rattle.dns_wire.specs.declared.message.Message.{Message}
use Rattle.dns_wire.specs.declared.record.Record.{Record}
use Rattle.dns_wire.proofs.LawLemmas.{one_message, not_both}
use Rattle.dns_wire.proofs.MessageStandLemmas.{reads_back}
use Rattle.zone_build.specs.Plain.{told}
use Rattle.zone_build.specs.Zone.{Zone}
use Rattle.zone_db.specs.Bits.{bit, header_of, opcode_of, qr_of, rd_of, tc_of, u16_at}
use Rattle.zone_db.specs.LookUp.{shown}
use Rattle.zone_db.specs.Replies.{Comes, Finds, IsDrafted, IsSent, limit_of, plan_of, questions_of, reply_header}
use Rattle.zone_db.specs.Sets.{AreZones}
use Rattle.zone_db.specs.declared.draft.Draft.{Draft}
use Rattle.zone_db.specs.declared.way.Way.{Way}
use Rattle.zone_db.specs.declared.way.Way.TheVariants.{Stream}
use Rattle.zone_db.proofs.OfferLemmas.{found_is_offered}
use Rattle.wire_source.specs.Laws.{HonestRepliesAreOffers, IsHonest}
use Rattle.wire_source.specs.Queries.{query_bytes, query_for, question_for}
use Rattle.wire_source.specs.Readings.{IsRead, IsReplyTo, IsServerFault, IsTaken, MessageReads, Says, TakenReads, rcode_of}
use Rattle.wire_source.specs.declared.reading.Reading.{Reading}
use Rattle.wire_source.specs.declared.reading.Reading.TheVariants as reading
use Rattle.wire_source.specs.declared.trouble.Trouble.TheVariants as trouble
use Rattle.wire_source.proofs.FoundLemmas.{found_code, found_reads}

-- the number and the bits of a message as it is written
number_of : (message : Message) → u16_at (message_wire message) 0 ≡ 256 * (message.header.id / 256 % 256) + message.header.id % 256
number_of message = refl

bits_of : (message : Message) → u16_at (message_wire message) 2 ≡ 256 * (message.header.bits / 256 % 256) + message.header.bits % 256
bits_of message = refl

same_number : (n : ℕ) → n < 2 ^ 16 → 256 * (n / 256 % 256) + n % 256 ≡ n
same_number n low = omega (arith, low)

-- a query is a message
query_short : (id : ℕ) (name : Labels) → IsName name → length (query_bytes id name) ≤ 65_535
query_short id name named =
    let question = question_for name in
    let front = header_wire (query_for id name).header (counts_of (query_for id name)) in
    let asked = flat_map question_wire (question ∷ []) in
    let whole : length asked ≡ length (question_wire question ++ []) = ap length (flat_map-cons question_wire question []) in
    let twelve : length front ≡ 12 = refl in
    omega (
      arith,
      named.short,
      whole,
      twelve,
      length-append (question_wire question) [],
      length-append (wire_of name) (to_be_bytes w16 35),
      length-append (wire_of name ++ to_be_bytes w16 35) (to_be_bytes w16 1),
      length-append front asked,
      length-append (front ++ asked) [],
      length-append (front ++ asked ++ []) [],
      length-append (front ++ asked ++ [] ++ []) [],
    )

query_is : (id : ℕ) (name : Labels) → id < 2 ^ 16 → IsName name → IsMessage (query_for id name)
query_is id name low named = record {
  header = record { id = low; bits = omega arith };
  questions = (record { name = named; kind = omega arith; class = omega arith }, tt);
  answers = tt;
  authority = tt;
  additional = tt;
}

pub query_spelt : (id : ℕ) (name : Labels) → id < 2 ^ 16 → IsName name → Spells (query_bytes id name) (query_for id name)
query_spelt id name low named = reads_back (query_for id name) (query_is id name low named) (query_short id name named)

-- what zones say to it is what they find
said_to_query : (zones : List Zone) (id : ℕ) (name : Labels) (options : Option Record) (draft : Draft) → id < 2 ^ 16 → IsName name
    → IsDrafted zones (query_bytes id name) options draft → Finds zones (question_for name) draft
said_to_query zones id name options draft low named (inl (fault, breaks, none, is)) =
    absurd (not_both (query_bytes id name) (query_for id name) fault (query_spelt id name low named) breaks)
said_to_query zones id name options draft low named (inr (message, spells, heard, comes)) =
    subst (λ (x : Message). Comes zones (plan_of x) draft)
    (one_message (query_bytes id name) message (query_for id name) spells (query_spelt id name low named)) comes

-- the message of a reply, with all that is said but the glue, or cut short
record IsWhole (query : Header) (draft : Draft) (bytes : List ℕ) : Type 0 where
  message : Message
  spelt : Spells bytes message
  header : message.header ≡ reply_header query draft.authoritative false draft.code
  questions : message.questions ≡ questions_of draft.question
  answers : message.answers ≡ draft.answers
  authority : message.authority ≡ draft.authority

record IsShort (query : Header) (draft : Draft) (bytes : List ℕ) : Type 0 where
  message : Message
  spelt : Spells bytes message
  wire : bytes ≡ message_wire message
  header : message.header ≡ reply_header query draft.authoritative true draft.code
  questions : message.questions ≡ questions_of draft.question

sent_as : (limit : ℕ) (query : Header) (options : Option Record) (draft : Draft) (bytes : List ℕ) → IsSent limit query options draft bytes
    → IsWhole query draft bytes ⊎ IsShort query draft bytes
sent_as limit query options draft bytes (inl (fits, posted)) =
    inl (record {
      message = posted.message;
      spelt = posted.spelt;
      header = posted.parts.header;
      questions = posted.parts.questions;
      answers = posted.parts.answers;
      authority = posted.parts.authority;
    })
sent_as limit query options draft bytes (inr (not, inl (fits, posted))) =
    inl (record {
      message = posted.message;
      spelt = posted.spelt;
      header = posted.parts.header;
      questions = posted.parts.questions;
      answers = posted.parts.answers;
      authority = posted.parts.authority;
    })
sent_as limit query options draft bytes (inr (not, inr (none, posted))) =
    inr (record {
      message = posted.message;
      spelt = posted.spelt;
      wire = posted.wire;
      header = posted.parts.header;
      questions = posted.parts.questions;
    })

-- the bits of a reply
bit_small : (b : Bool) → bit b ≤ 1
bit_small true = omega arith
bit_small false = omega arith

record HasBits (bits short code : ℕ) : Type 0 where
  reply : qr_of bits ≡ 1
  ordinary : opcode_of bits ≡ 0
  short_is : tc_of bits ≡ short
  code_is : rcode_of bits ≡ code

has_bits : (bits opcode aa tc rd code : ℕ) → bits ≡ 2 ^ 15 + 2 ^ 11 * opcode + 2 ^ 10 * aa + 2 ^ 9 * tc + 2 ^ 8 * rd + code → opcode ≡ 0 → aa ≤ 1
    → tc ≤ 1 → rd ≤ 1 → code < 16 → HasBits bits tc code
has_bits bits opcode aa tc rd code is zero one two three low = record {
  reply = omega (arith, is, zero, one, two, three, low);
  ordinary = omega (arith, is, zero, one, two, three, low);
  short_is = omega (arith, is, zero, one, two, three, low);
  code_is = omega (arith, is, zero, one, two, three, low);
}

reply_bits : (query header : Header) (authoritative short : Bool) (code : ℕ) → query.bits ≡ 2 ^ 8 → header ≡ reply_header query authoritative short code
    → HasBits header.bits (bit short) (code % 2 ^ 4)
reply_bits query header authoritative short code asked is =
    has_bits header.bits (opcode_of query.bits) (bit authoritative) (bit short) (rd_of query.bits) (code % 2 ^ 4)
    (ap (λ (h : Header). h.bits) is) (ap opcode_of asked) (bit_small authoritative) (bit_small short) (omega arith) (omega arith)

-- the header of a query
asked_number : (id : ℕ) (name : Labels) → id < 2 ^ 16 → (header_of (query_bytes id name)).id ≡ id
asked_number id name low = number_of (query_for id name) ∙ same_number id low

asked_bits : (id : ℕ) (name : Labels) → (header_of (query_bytes id name)).bits ≡ 2 ^ 8
asked_bits id name = bits_of (query_for id name)

-- a reply is one to the query
replies : (zones : List Zone) (id : ℕ) (name : Labels) (draft : Draft) (short : Bool) (message : Message) → id < 2 ^ 16
    → Finds zones (question_for name) draft
    → message.header ≡ reply_header (header_of (query_bytes id name)) draft.authoritative short draft.code
    → message.questions ≡ questions_of draft.question → IsReplyTo id name message
replies zones id name draft short message low (f, added, is, adds, e) header questions =
    let has = reply_bits (header_of (query_bytes id name)) message.header draft.authoritative short draft.code (asked_bits id name) header in
    record {
      number = ap (λ (h : Header). h.id) header ∙ asked_number id name low;
      reply = has.reply;
      ordinary = has.ordinary;
      question = record {
        question = question_for name;
        alone = questions ∙ ap (λ (d : Draft). questions_of d.question) e;
        same = refl;
        kind = refl;
        class = refl;
      };
    }

-- the codes of what is said
abbrev IsKnown : ℕ → Type 0
IsKnown code = (code ≡ 0) ⊎ ((code ≡ 3) ⊎ (code ≡ 5))

known_no_fault : (code told : ℕ) → IsKnown code → told ≡ code % 2 ^ 4 → ¬ IsServerFault told
known_no_fault code told (inl is) e (a, b, c) = a (omega (arith, is, e))
known_no_fault code told (inr (inl is)) e (a, b, c) = b (omega (arith, is, e))
known_no_fault code told (inr (inr is)) e (a, b, c) = c (omega (arith, is, e))

-- a whole reply that is taken
whole_honest : (zones : List Zone) (name : Labels) (draft : Draft) (message : Message) (read : Reading) → AreZones zones → Finds zones (question_for name) draft
    → HasBits message.header.bits 0 (draft.code % 2 ^ 4) → message.answers ≡ draft.answers → message.authority ≡ draft.authority
    → TakenReads name message read → IsHonest zones name read
whole_honest zones name draft message (reading.Says o) are (f, added, is, adds, e) has answers authority (clear, says) =
    let code : rcode_of message.header.bits ≡ added.code % 16 = has.code_is ∙ ap (λ (d : Draft). d.code % 16) e in
    let said : Says name (added.code % 16) added.answers added.authority o =
    subst (λ c. Says name c added.answers added.authority o) code
    (subst (λ a. Says name (rcode_of message.header.bits) a added.authority o) (answers ∙ ap (λ (d : Draft). d.answers) e)
    (subst (λ u. Says name (rcode_of message.header.bits) message.answers u o) (authority ∙ ap (λ (d : Draft). d.authority) e) says)) in
    found_is_offered zones name f o are is (found_reads zones name (folded_labels name ∷ []) f added o are is adds said)
whole_honest zones name draft message reading.CutShort are finds has answers authority short = tt
whole_honest zones name draft message (reading.Faulty (trouble.Server code)) are (f, added, is, adds, e) has answers authority (clear, told_code, fault) =
    let known : IsKnown added.code =
    found_code IsKnown zones 35 8 (folded_labels name ∷ []) name (shown f) added (inl refl) (inr (inl refl)) (inr (inr refl)) adds in
    absurd (known_no_fault added.code code known (sym told_code ∙ has.code_is ∙ ap (λ (d : Draft). d.code % 2 ^ 4) e) fault)
whole_honest zones name draft message (reading.Faulty trouble.LinkFault) are finds has answers authority none = none
whole_honest zones name draft message (reading.Faulty (trouble.BadReply fault)) are finds has answers authority none = none
whole_honest zones name draft message (reading.Faulty trouble.WrongReply) are finds has answers authority none = none

-- a reply that was cut short
short_honest : (zones : List Zone) (name : Labels) (message : Message) (code : ℕ) (read : Reading) → HasBits message.header.bits 1 code
    → TakenReads name message read → IsHonest zones name read
short_honest zones name message code (reading.Says o) has (clear, says) = absurd (omega (arith, has.short_is, clear))
short_honest zones name message code reading.CutShort has short = tt
short_honest zones name message code (reading.Faulty (trouble.Server rcode)) has (clear, told_code, fault) = absurd (omega (arith, has.short_is, clear))
short_honest zones name message code (reading.Faulty trouble.LinkFault) has none = none
short_honest zones name message code (reading.Faulty (trouble.BadReply fault)) has none = none
short_honest zones name message code (reading.Faulty trouble.WrongReply) has none = none

-- what is read of bytes that spell a message that is taken
taken_reads : (id : ℕ) (name : Labels) (way : Way) (bytes : List ℕ) (message : Message) (read : Reading) → Spells bytes message → IsTaken id name way message
    → IsRead id name way bytes read → TakenReads name message read
taken_reads id name way bytes message read spelt taken (inl (fault, breaks, is)) = absurd (not_both bytes message fault spelt breaks)
taken_reads id name way bytes message read spelt taken (inr (other, spells, reads)) =
    by (subst (λ (m : Message). MessageReads id name way m read) (one_message bytes other message spells spelt) reads)
  where
    by : MessageReads id name way message read → TakenReads name message read
    by (inl (t, r)) = r
    by (inr (not, is)) = absurd (not taken)

cut_bits : (bits : ℕ) → tc_of bits ≡ 1 → tc_of (256 * (bits / 256 % 256) + bits % 256) ≡ 1
cut_bits bits is = omega (arith, is)

whole_taken : (zones : List Zone) (id : ℕ) (name : Labels) (way : Way) (draft : Draft) (bytes : List ℕ) (read : Reading) → AreZones zones → id < 2 ^ 16
    → Finds zones (question_for name) draft → IsWhole (header_of (query_bytes id name)) draft bytes → IsRead id name way bytes read
    → IsHonest zones name read
whole_taken zones id name way draft bytes read are low finds whole reads =
    let has = reply_bits (header_of (query_bytes id name)) whole.message.header draft.authoritative false draft.code (asked_bits id name) whole.header in
    let taken : IsTaken id name way whole.message =
    (replies zones id name draft false whole.message low finds whole.header whole.questions, λ stream. has.short_is) in
    whole_honest zones name draft whole.message read are finds has whole.answers whole.authority
    (taken_reads id name way bytes whole.message read whole.spelt taken reads)

short_taken : (zones : List Zone) (id : ℕ) (name : Labels) (way : Way) (draft : Draft) (bytes : List ℕ) (read : Reading) → id < 2 ^ 16
    → Finds zones (question_for name) draft → IsShort (header_of (query_bytes id name)) draft bytes
    → (way ≡ Stream → tc_of (header_of bytes).bits ≡ 0) → IsRead id name way bytes read → IsHonest zones name read
short_taken zones id name way draft bytes read low finds short whole reads =
    let has = reply_bits (header_of (query_bytes id name)) short.message.header draft.authoritative true draft.code (asked_bits id name) short.header in
    let cut : tc_of (header_of bytes).bits ≡ 1 =
    ap (λ b. tc_of (header_of b).bits) short.wire ∙ ap tc_of (bits_of short.message) ∙ cut_bits short.message.header.bits has.short_is in
    let taken : IsTaken id name way short.message =
    (replies zones id name draft true short.message low finds short.header short.questions, λ stream. absurd (omega (arith, cut, whole stream))) in
    short_honest zones name short.message (draft.code % 2 ^ 4) read has (taken_reads id name way bytes short.message read short.spelt taken reads)

pub honest : HonestRepliesAreOffers
honest zones id name way bytes read are low named (asks, (options, draft, drafted, sent)) whole reads =
    by (sent_as (limit_of way options) (header_of (query_bytes id name)) options draft bytes sent)
  where
    finds : Finds zones (question_for name) draft
    finds = said_to_query zones id name options draft low named drafted

    by : IsWhole (header_of (query_bytes id name)) draft bytes ⊎ IsShort (header_of (query_bytes id name)) draft bytes → IsHonest zones name read
    by (inl all) = whole_taken zones id name way draft bytes read are low finds all reads
    by (inr short) = short_taken zones id name way draft bytes read low finds short whole reads
