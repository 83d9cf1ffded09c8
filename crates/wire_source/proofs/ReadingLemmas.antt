-- A reply is read in one way.
use Rattle.std.proofs.Common.{◌≡◌, inl, inr, ℕ, List, [], refl, sym, ap, subst, ◌∙◌, arith}
use Rattle.std.specs.Prelude.{Contains, IfOk, Result, Ok, Err}
use Rattle.naptr_rule.specs.declared.rule.Naptr.{Naptr}
use Rattle.naptr_data.specs.Zones.{Labels}
use Rattle.naptr_data.specs.declared.offer.Offer.{Offer}
use Rattle.naptr_data.specs.declared.offer.Offer.TheVariants as offer
use Rattle.naptr_data.proofs.CutLemmas.{Contains-middle, two_cuts}
use Rattle.naptr_data.proofs.RisingLemmas.{rising_same}
use Rattle.dns_wire.specs.Message.{Spells}
use Rattle.dns_wire.specs.declared.content.Content.TheVariants as content
use Rattle.dns_wire.specs.declared.message.Message.{Message}
use Rattle.dns_wire.specs.declared.record.Record.{Record}
use Rattle.dns_wire.proofs.LawLemmas.{not_both, one_break, one_message}
use Rattle.zone_db.specs.declared.way.Way.{Way}
use Rattle.wire_source.specs.Laws.{RepliesHaveOneReading}
use Rattle.wire_source.specs.Readings.{AreRulesAt, HasNoAlias, IsFirstAlias, IsRead, IsServerFault, MessageReads, Says, SayRecords, TakenReads, rcode_of}
use Rattle.wire_source.specs.declared.reading.Reading.{Reading}
use Rattle.wire_source.specs.declared.reading.Reading.TheVariants as reading
use Rattle.wire_source.specs.declared.trouble.Trouble.TheVariants as trouble

one_target : (one other : Labels) → content.Cname one ≡ content.Cname other → one ≡ other
one_target one other is = cc

-- a first alias has none before it
has_first : (name : Labels) (records : List Record) (target : Labels) → IsFirstAlias name records target → ¬ HasNoAlias name records
has_first name records target is none =
    none is.one target (subst (λ l. Contains l is.one) (sym is.parts) (Contains-middle is.before is.one is.after)) is.here

-- .. and is one
first_one : (name : Labels) (records : List Record) (t u : Labels) → IsFirstAlias name records t → IsFirstAlias name records u → t ≡ u
first_one name records t u a b = elim (two_cuts a.before a.one a.after b.before b.one b.after (sym a.parts ∙ b.parts)) [
  | inl (fronts, same, backs) ↦ one_target t u (sym a.here.1 ∙ ap (λ (r : Record). r.content) same ∙ b.here.1)
  | inr (inl e) ↦ absurd (b.first a.one t (subst (λ l. Contains l a.one) (sym e.front) (Contains-middle a.before a.one e.middle)) a.here)
  | inr (inr e) ↦ absurd (a.first b.one u (subst (λ l. Contains l b.one) (sym e.front) (Contains-middle b.before b.one e.middle)) b.here)
]

rules_one : (name : Labels) (records : List Record) (one other : List Naptr) → AreRulesAt name records one → AreRulesAt name records other → one ≡ other
rules_one name records one other a b =
    rising_same one other a.rising b.rising (λ r c. (b.each r).1 ((a.each r).0 c)) (λ r c. (a.each r).1 ((b.each r).0 c))

records_one : (name : Labels) (answers authority : List Record) (one other : Offer) → SayRecords name answers authority one
    → SayRecords name answers authority other → one ≡ other
records_one name answers authority (offer.Alias t) (offer.Alias u) a b = ap offer.Alias (first_one name answers t u a b)
records_one name answers authority (offer.Alias t) (offer.Rules rules) a (none, are, more) = absurd (has_first name answers t a none)
records_one name answers authority (offer.Alias t) offer.Unserved a (none, are, more) = absurd (has_first name answers t a none)
records_one name answers authority (offer.Rules rules) (offer.Alias u) (none, are, more) b = absurd (has_first name answers u b none)
records_one name answers authority (offer.Rules rules) (offer.Rules others) (none, are, not) (none', are', not') =
    ap offer.Rules (rules_one name answers rules others are are')
records_one name answers authority (offer.Rules rules) offer.Unserved (none, are, not) (none', are', refers) =
    absurd (not (rules_one name answers rules [] are are') refers)
records_one name answers authority offer.Unserved (offer.Alias u) (none, are, more) b = absurd (has_first name answers u b none)
records_one name answers authority offer.Unserved (offer.Rules others) (none, are, refers) (none', are', not) =
    absurd (not (rules_one name answers others [] are' are) refers)
records_one name answers authority offer.Unserved offer.Unserved a b = refl

says_one : (name : Labels) (code : ℕ) (answers authority : List Record) (one other : Offer) → Says name code answers authority one
    → Says name code answers authority other → one ≡ other
says_one name code answers authority one other (inl (r, is)) (inl (r', is')) = is ∙ sym is'
says_one name code answers authority one other (inl (r, is)) (inr (not, more)) = absurd (not r)
says_one name code answers authority one other (inr (not, more)) (inl (r, is)) = absurd (not r)
says_one name code answers authority one other (inr (not, (f, a))) (inr (not', (f', b))) = records_one name answers authority one other a b

says_no_fault : (name : Labels) (code : ℕ) (answers authority : List Record) (o : Offer) → Says name code answers authority o
    → ¬ IsServerFault code
says_no_fault name code answers authority o (inl (r, is)) (a, b, c) = c r
says_no_fault name code answers authority o (inr (not, (fault, records))) is = fault is

taken_one : (name : Labels) (message : Message) (one other : Reading) → TakenReads name message one → TakenReads name message other → one ≡ other
taken_one name message (reading.Says o) (reading.Says p) (c, a) (d, b) =
    ap reading.Says (says_one name (rcode_of message.header.bits) message.answers message.authority o p a b)
taken_one name message (reading.Says o) reading.CutShort (c, a) d = absurd (omega (arith, c, d))
taken_one name message (reading.Says o) (reading.Faulty (trouble.Server code)) (c, a) (d, is, fault) =
    absurd (says_no_fault name (rcode_of message.header.bits) message.answers message.authority o a (subst IsServerFault (sym is) fault))
taken_one name message reading.CutShort (reading.Says p) c (d, b) = absurd (omega (arith, c, d))
taken_one name message reading.CutShort reading.CutShort c d = refl
taken_one name message reading.CutShort (reading.Faulty (trouble.Server code)) c (d, is, fault) = absurd (omega (arith, c, d))
taken_one name message (reading.Faulty (trouble.Server code)) (reading.Says p) (c, is, fault) (d, b) =
    absurd (says_no_fault name (rcode_of message.header.bits) message.answers message.authority p b (subst IsServerFault (sym is) fault))
taken_one name message (reading.Faulty (trouble.Server code)) reading.CutShort (c, is, fault) d = absurd (omega (arith, c, d))
taken_one name message (reading.Faulty (trouble.Server code)) (reading.Faulty (trouble.Server other)) (c, is, fault) (d, is', fault') =
    ap (λ n. reading.Faulty (trouble.Server n)) (sym is ∙ is')
taken_one name message (reading.Faulty trouble.LinkFault) other a b = absurd a
taken_one name message (reading.Faulty (trouble.BadReply fault)) other a b = absurd a
taken_one name message (reading.Faulty trouble.WrongReply) other a b = absurd a
taken_one name message one (reading.Faulty trouble.LinkFault) a b = absurd b
taken_one name message one (reading.Faulty (trouble.BadReply fault)) a b = absurd b
taken_one name message one (reading.Faulty trouble.WrongReply) a b = absurd b

message_one : (id : ℕ) (name : Labels) (way : Way) (message : Message) (one other : Reading) → MessageReads id name way message one
    → MessageReads id name way message other → one ≡ other
message_one id name way message one other (inl (t, a)) (inl (t', b)) = taken_one name message one other a b
message_one id name way message one other (inl (t, a)) (inr (not, is)) = absurd (not t)
message_one id name way message one other (inr (not, is)) (inl (t, b)) = absurd (not t)
message_one id name way message one other (inr (not, is)) (inr (not', is')) = is ∙ sym is'

pub reads_one : RepliesHaveOneReading
reads_one id name way bytes one other (inl (fault, breaks, is)) (inl (fault', breaks', is')) =
    is ∙ ap (λ f. reading.Faulty (trouble.BadReply f)) (one_break bytes fault fault' breaks breaks') ∙ sym is'
reads_one id name way bytes one other (inl (fault, breaks, is)) (inr (message, spells, b)) = absurd (not_both bytes message fault spells breaks)
reads_one id name way bytes one other (inr (message, spells, a)) (inl (fault, breaks, is)) = absurd (not_both bytes message fault spells breaks)
reads_one id name way bytes one other (inr (message, spells, a)) (inr (message', spells', b)) =
    message_one id name way message one other a
    (subst (λ (m : Message). MessageReads id name way m other) (one_message bytes message' message spells' spells) b)

-- what is read of a message is read of its bytes
pub read_ok : {E : Type 0} (id : ℕ) (name : Labels) (way : Way) (bytes : List ℕ) (message : Message) (result : Result Reading E) → Spells bytes message
    → IfOk result (MessageReads id name way message) → IfOk result (IsRead id name way bytes)
read_ok id name way bytes message (Ok read) spelt reads = inr (message, spelt, reads)
read_ok id name way bytes message (Err fault) spelt reads = tt
