-- What is said, as it is sent.
use Rattle.std.proofs.Common.{◌≡◌, ℕ, ◌+◌, ◌*◌, ◌/◌, ◌%◌, ◌^◌, ◌<◌, ◌≤◌, List, [], ◌++◌, inl, inr, refl, ap, subst, ◌∙◌, arith, Result, Ok, Err, OnOk}
use Rattle.std.specs.Prelude.{true, false, Option, Some, None}
use Rattle.dns_wire.specs.Encoding.{message_wire}
use Rattle.dns_wire.specs.Message.{Spells, Breaks}
use Rattle.dns_wire.specs.declared.decode_fault.DecodeFault.{DecodeFault}
use Rattle.dns_wire.specs.declared.message.Header.{Header}
use Rattle.dns_wire.specs.declared.message.Message.{Message}
use Rattle.dns_wire.specs.declared.record.Record.{Record}
use Rattle.zone_build.specs.Zone.{Zone}
use Rattle.zone_db.specs.Bits.{tc_of, opcode_of, rd_of, bit, header_of, u16_at}
use Rattle.zone_db.specs.Replies.{Fits, IsMessageOf, IsPosted, IsSent, IsDrafted, Comes, bare, limit_of, plan_of}
use Rattle.zone_db.specs.Replies.{options_heard, options_for, questions_of, reply_header, without_glue, without_records}
use Rattle.zone_db.specs.declared.draft.Draft.{Draft}
use Rattle.zone_db.specs.declared.way.Way.{Way}
use Rattle.responder.specs.Answering.{IsWhole, Posts, Sends, Speaks}
use Rattle.responder.specs.Drafting.{IsSmall}
use Rattle.responder.specs.Sizes.{size, base_size}
use Rattle.responder.proofs.SizeLemmas.{small_counted, message_size}

-- what has more bytes does not fit
pub not_fits : (limit : ℕ) (query : Header) (options : Option Record) (draft : Draft)
    → limit < base_size options draft + size draft.glue → ¬ Fits limit query options draft
not_fits limit query options draft more (message, parts, few) = absurd (omega (arith, more, few, message_size query options false draft message parts))

pub fits : (limit : ℕ) (query : Header) (options : Option Record) (draft : Draft) (bytes : List ℕ) → base_size options draft + size draft.glue ≤ limit
    → IsPosted query options false draft bytes → Fits limit query options draft
fits limit query options draft bytes few posted =
    (posted.message, posted.parts, omega (arith, few, message_size query options false draft posted.message posted.parts))

-- all of it is sent
pub sends_whole : {A E : Type 0} (limit : ℕ) (query : Header) (options : Option Record) (draft : Draft) (old new : List ℕ) (result : Result A E)
    → base_size options draft + size draft.glue ≤ limit → OnOk result (Posts query options false draft old new)
    → OnOk result (Sends limit query options draft old new)
sends_whole limit query options draft old new (Ok done) few posts = record {
  bytes = posts.bytes;
  sent = inl (fits limit query options draft posts.bytes few posts.posted, posts.posted);
  appended = posts.appended;
}
sends_whole limit query options draft old new (Err fault) few posts = tt

-- all but the glue
pub sends_no_glue : {A E : Type 0} (limit : ℕ) (query : Header) (options : Option Record) (draft other : Draft) (old new : List ℕ) (result : Result A E)
    → other ≡ without_glue draft → limit < base_size options draft + size draft.glue → base_size options draft ≤ limit
    → OnOk result (Posts query options false other old new) → OnOk result (Sends limit query options draft old new)
sends_no_glue limit query options draft other old new (Ok done) is more few posts =
    let posted : IsPosted query options false (without_glue draft) posts.bytes =
    subst (λ (d : Draft). IsPosted query options false d posts.bytes) is posts.posted in
    record {
      bytes = posts.bytes;
      sent = inr (not_fits limit query options draft more, inl (fits limit query options (without_glue draft) posts.bytes (omega (arith, few)) posted, posted));
      appended = posts.appended;
    }
sends_no_glue limit query options draft other old new (Err fault) is more few posts = tt

-- no record
pub sends_short : {A E : Type 0} (limit : ℕ) (query : Header) (options : Option Record) (draft other : Draft) (old new : List ℕ) (result : Result A E)
    → other ≡ without_records draft → limit < base_size options draft
    → OnOk result (Posts query options true other old new) → OnOk result (Sends limit query options draft old new)
sends_short limit query options draft other old new (Ok done) is more posts =
    let posted : IsPosted query options true (without_records draft) posts.bytes =
    subst (λ (d : Draft). IsPosted query options true d posts.bytes) is posts.posted in
    record {
      bytes = posts.bytes;
      sent =
          inr (
            not_fits limit query options draft (omega (arith, more)),
            inr (not_fits limit query options (without_glue draft) (omega (arith, more)), posted),
          );
      appended = posts.appended;
    }
sends_short limit query options draft other old new (Err fault) is more posts = tt

-- a message that is not cut short has no TC
bits_of : (message : Message) → u16_at (message_wire message) 2 ≡ 256 * (message.header.bits / 256 % 256) + message.header.bits % 256
bits_of message = refl

clear : (bits opcode aa rd code : ℕ) → bits ≡ 2 ^ 15 + 2 ^ 11 * opcode + 2 ^ 10 * aa + 2 ^ 9 * 0 + 2 ^ 8 * rd + code → code < 16 → rd < 2
    → tc_of (256 * (bits / 256 % 256) + bits % 256) ≡ 0
clear bits opcode aa rd code is low one = omega (arith, is, low, one)

posted_clear : (query : Header) (options : Option Record) (draft : Draft) (bytes : List ℕ) → IsPosted query options false draft bytes
    → tc_of (header_of bytes).bits ≡ 0
posted_clear query options draft bytes posted =
    let bits = posted.message.header.bits in
    let is : bits ≡ (reply_header query draft.authoritative false draft.code).bits = ap (λ (h : Header). h.bits) posted.parts.header in
    ap (λ b. tc_of (header_of b).bits) posted.wire ∙ ap tc_of (bits_of posted.message)
    ∙ clear bits (opcode_of query.bits) (bit draft.authoritative) (rd_of query.bits) (draft.code % 2 ^ 4) is (omega arith) (omega arith)

-- what is small is not cut short on a stream
pub small_whole : (query : Header) (options : Option Record) (draft : Draft) (bytes : List ℕ) → IsSmall draft
    → IsSent 65_535 query options draft bytes → tc_of (header_of bytes).bits ≡ 0
small_whole query options draft bytes small (inl (fit, posted)) = posted_clear query options draft bytes posted
small_whole query options draft bytes small (inr (not, inl (fit, posted))) = posted_clear query options (without_glue draft) bytes posted
small_whole query options draft bytes small (inr (not, inr (none, posted))) =
    let bare_draft = without_glue draft in
    let few : base_size options bare_draft + size bare_draft.glue ≤ 65_535 = let s = small options in omega (arith, s) in
    let message : Message = record {
      header = reply_header query draft.authoritative false draft.code;
      questions = questions_of draft.question;
      answers = draft.answers;
      authority = draft.authority;
      additional = [] ++ options_for options draft.code;
      counted = small_counted options bare_draft few;
    } in
    let parts : IsMessageOf query options false bare_draft message = record {
      header = refl;
      questions = refl;
      answers = refl;
      authority = refl;
      additional = refl;
    } in
    absurd (none (message, parts, omega (arith, few, message_size query options false bare_draft message parts)))

whole_of : (way : Way) (limit : ℕ) (query : Header) (options : Option Record) (draft : Draft) (bytes : List ℕ) → IsSmall draft
    → limit ≡ limit_of way options → IsSent limit query options draft bytes → IsWhole way bytes
whole_of way limit query options draft bytes small most sent stream =
    let at : limit ≡ 65_535 = most ∙ ap (λ w. limit_of w options) stream in
    small_whole query options draft bytes small (subst (λ l. IsSent l query options draft bytes) at sent)

-- what is sent answers the query
speaks : {A E : Type 0} (zones : List Zone) (query : List ℕ) (way : Way) (limit : ℕ) (header : Header) (options : Option Record) (draft : Draft)
    (old new : List ℕ) (result : Result A E) → IsDrafted zones query options draft → IsSmall draft → limit ≡ limit_of way options
    → header ≡ header_of query → OnOk result (Sends limit header options draft old new) → OnOk result (Speaks zones query way old new)
speaks zones query way limit header options draft old new (Ok done) drafted small most is sends =
    let same : IsSent (limit_of way options) (header_of query) options draft sends.bytes =
    subst (λ (h : Header). IsSent (limit_of way options) h options draft sends.bytes) is
    (subst (λ l. IsSent l header options draft sends.bytes) most sends.sent) in
    record {
      reply = sends.bytes;
      is = (options, draft, drafted, same);
      whole = whole_of way limit header options draft sends.bytes small most sends.sent;
      appended = sends.appended;
    }
speaks zones query way limit header options draft old new (Err fault) drafted small most is sends = tt

-- .. which is a message
pub speaks_message : {A E : Type 0} (zones : List Zone) (query : List ℕ) (way : Way) (message : Message) (limit : ℕ) (header : Header)
    (options : Option Record) (draft : Draft) (old new : List ℕ) (result : Result A E) → Spells query message → options ≡ options_heard message
    → Comes zones (plan_of message) draft → IsSmall draft → limit ≡ limit_of way options → header ≡ header_of query
    → OnOk result (Sends limit header options draft old new) → OnOk result (Speaks zones query way old new)
speaks_message zones query way message limit header options draft old new result spells heard comes small most is sends =
    speaks zones query way limit header options draft old new result (inr (message, spells, heard, comes)) small most is sends

bare_small : (code : ℕ) → IsSmall (bare code None)
bare_small code None = omega arith
bare_small code (Some options) = omega arith

-- .. which is none
pub speaks_broken : {A E : Type 0} (zones : List Zone) (query : List ℕ) (way : Way) (fault : DecodeFault) (old new : List ℕ) (result : Result A E)
    → Breaks query fault → OnOk result (Sends (limit_of way None) (header_of query) None (bare 1 None) old new)
    → OnOk result (Speaks zones query way old new)
speaks_broken zones query way fault old new result breaks sends =
    speaks zones query way (limit_of way None) (header_of query) None (bare 1 None) old new result (inl (fault, breaks, refl, refl))
    (bare_small 1) refl refl sends
