-- How a client reads the reply to its query for the rules at a name (RFC 1034, section 5.3.3; RFC 1035, sections 4.1.1 and 7.3; RFC 2308,
-- sections 2.1 and 2.2). The order of the tests, and that a server which refuses does not serve the name, are this project's own.
use Rattle.std.specs.Prelude.{◌≡◌, ◌≢◌, ◌↔◌, ◌⊎◌, ℕ, ◌%◌, ◌^◌, List, [], ◌∷◌, ◌++◌, Contains}
use Rattle.dns_name.specs.Name.{AreSame}
use Rattle.naptr_rule.specs.declared.rule.Naptr.{Naptr}
use Rattle.naptr_data.specs.Zones.{Labels, IsRising}
use Rattle.naptr_data.specs.declared.offer.Offer.{Offer}
use Rattle.naptr_data.specs.declared.offer.Offer.TheVariants as offer
use Rattle.dns_wire.specs.Kinds.{internet, naptr}
use Rattle.dns_wire.specs.Message.{Spells, Breaks}
use Rattle.dns_wire.specs.declared.content.Content.TheVariants as content
use Rattle.dns_wire.specs.declared.content.Soa.{Soa}
use Rattle.dns_wire.specs.declared.decode_fault.DecodeFault.{DecodeFault}
use Rattle.dns_wire.specs.declared.message.Message.{Message}
use Rattle.dns_wire.specs.declared.question.Question.{Question}
use Rattle.dns_wire.specs.declared.record.Record.{Record}
use Rattle.zone_db.specs.Bits.{qr_of, opcode_of, tc_of}
use Rattle.zone_db.specs.Replies.{Where}
use Rattle.zone_db.specs.declared.way.Way.{Way}
use Rattle.zone_db.specs.declared.way.Way.TheVariants.{Stream}
use Rattle.wire_source.specs.declared.reading.Reading.{Reading}
use Rattle.wire_source.specs.declared.reading.Reading.TheVariants as reading
use Rattle.wire_source.specs.declared.trouble.Trouble.TheVariants as trouble

-- RCODE: what became of the query (RFC 1035, 4.1.1)
abbrev pub rcode_of : ℕ → ℕ
rcode_of bits = bits % 2 ^ 4

-- the codes of a reply that is read as an answer, NOERROR and NXDOMAIN, and of one that is read as that the name is not served,
-- REFUSED (RFC 1035, 4.1.1); every other code is a fault of the server
abbrev pub noerror : ℕ
noerror = 0

abbrev pub nxdomain : ℕ
nxdomain = 3

abbrev pub refused : ℕ
refused = 5

abbrev pub IsServerFault : ℕ → Type 0
IsServerFault code = (code ≢ noerror) × (code ≢ nxdomain) × (code ≢ refused)

-- the one question of a message is that for the rules at a name, whatever the case of its letters
pub record Echoes (name : Labels) (questions : List Question) : Type 0 where
  pub question : Question
  pub alone : questions ≡ question ∷ []
  pub same : AreSame question.name name
  pub kind : question.kind ≡ naptr
  pub class : question.class ≡ internet

-- a message is a reply to the query of that number for the rules at a name
pub record IsReplyTo (id : ℕ) (name : Labels) (message : Message) : Type 0 where
  pub number : message.header.id ≡ id
  pub reply : qr_of message.header.bits ≡ 1
  pub ordinary : opcode_of message.header.bits ≡ 0
  pub question : Echoes name message.questions

-- such a reply is taken; but on a stream none that was cut short (RFC 2181, 9)
abbrev pub IsTaken : ℕ → Labels → Way → Message → Type 0
IsTaken id name way message = IsReplyTo id name message × (way ≡ Stream → tc_of message.header.bits ≡ 0)

-- a record is a CNAME of a name (RFC 1035, 3.3.1), or a rule at it (RFC 3403, 4.1)
abbrev pub IsAlias : Labels → Record → Labels → Type 0
IsAlias name one target = AreSame one.owner name × (one.content ≡ content.Cname target)

abbrev pub IsRuleAt : Labels → Record → Naptr → Type 0
IsRuleAt name one rule = AreSame one.owner name × (one.content ≡ content.Naptr rule)

-- no CNAME of a name is among records
abbrev pub HasNoAlias : Labels → List Record → Type 0
HasNoAlias name records = (one : Record) (target : Labels) → Contains records one → ¬ IsAlias name one target

-- the first one is, with that target
pub record IsFirstAlias (name : Labels) (records : List Record) (target : Labels) : Type 0 where
  pub before : List Record
  pub one : Record
  pub after : List Record
  pub parts : records ≡ before ++ one ∷ after
  pub here : IsAlias name one target
  pub first : HasNoAlias name before

-- the rules at a name among records, each once and in their order
pub record AreRulesAt (name : Labels) (records : List Record) (rules : List Naptr) : Type 0 where
  pub each : (rule : Naptr) → Contains rules rule ↔ ((one : Record) × Contains records one × IsRuleAt name one rule)
  pub rising : IsRising rules

-- a server and no SOA is among the records of the authority section: the reply refers to servers of a zone below
-- (RFC 2308, 2.2)
pub record IsReferral (authority : List Record) : Type 0 where
  pub one : Record
  pub among : Contains authority one
  pub server : Labels
  pub tells : one.content ≡ content.Ns server
  pub no_soa : (other : Record) (soa : Soa) → Contains authority other → other.content ≢ content.Soa soa

-- what the answers and the authority section of a reply say of a name: a CNAME comes before all else; then rules; then a referral;
-- else there are no rules
abbrev pub SayRecords : Labels → List Record → List Record → Offer → Type 0
SayRecords name answers authority (offer.Alias target) = IsFirstAlias name answers target
SayRecords name answers authority (offer.Rules rules) =
    HasNoAlias name answers × AreRulesAt name answers rules × (rules ≡ [] → ¬ IsReferral authority)
SayRecords name answers authority offer.Unserved = HasNoAlias name answers × AreRulesAt name answers [] × IsReferral authority

-- .. unless the server refuses
abbrev pub Says : Labels → ℕ → List Record → List Record → Offer → Type 0
Says name code answers authority o =
    Where (code ≡ refused) (o ≡ offer.Unserved) (¬ IsServerFault code × SayRecords name answers authority o)

-- how a reply that is taken is read: it was cut short, a fault of the server is told, or it says an offer
abbrev pub TakenReads : Labels → Message → Reading → Type 0
TakenReads name message (reading.Says o) =
    (tc_of message.header.bits ≡ 0) × Says name (rcode_of message.header.bits) message.answers message.authority o
TakenReads name message reading.CutShort = tc_of message.header.bits ≡ 1
TakenReads name message (reading.Faulty (trouble.Server code)) =
    (tc_of message.header.bits ≡ 0) × (rcode_of message.header.bits ≡ code) × IsServerFault code
TakenReads name message (reading.Faulty trouble.LinkFault) = ⊥
TakenReads name message (reading.Faulty (trouble.BadReply fault)) = ⊥
TakenReads name message (reading.Faulty trouble.WrongReply) = ⊥

-- how a message is read that came this way after the query of that number for the rules at a name
abbrev pub MessageReads : ℕ → Labels → Way → Message → Reading → Type 0
MessageReads id name way message read =
    Where (IsTaken id name way message) (TakenReads name message read) (read ≡ reading.Faulty trouble.WrongReply)

-- how bytes are read
abbrev pub IsRead : ℕ → Labels → Way → List ℕ → Reading → Type 0
IsRead id name way bytes read =
    ((fault : DecodeFault) × Breaks bytes fault × (read ≡ reading.Faulty (trouble.BadReply fault)))
    ⊎ ((message : Message) × Spells bytes message × MessageReads id name way message read)
