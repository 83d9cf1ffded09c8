-- Replies of an authority (RFC 1034, section 4.3.2; RFC 1035, sections 4.1.1 and 4.2; RFC 2181, section 9; RFC 2308, section 3;
-- RFC 4592; RFC 6891, sections 6 and 7). The order of the refusals, the limits of a datagram, how many aliases are followed and the
-- set that is given for all kinds are this project's own.
use Rattle.std.specs.Prelude.{◌≡◌, ◌⊎◌, ℕ, zero, suc, ◌+◌, ◌*◌, ◌/◌, ◌%◌, ◌^◌, ◌≤◌, ◌==◌, ◌&&◌, ◌||◌, nat_le, nat_lt}
use Rattle.std.specs.Prelude.{min, max, List, [], ◌∷◌, ◌++◌, length, map, filter, find, Contains, Bool, true, false, not, if◌then◌else◌, Option, Some, None}
use Rattle.std.specs.List.{list_all}
use Rattle.dns_name.specs.Name.{folded_labels, wire_of, IsBelow}
use Rattle.naptr_data.specs.Zones.{Labels}
use Rattle.dns_wire.specs.Encoding.{message_wire}
use Rattle.dns_wire.specs.Kinds.{internet, a, aaaa, opt}
use Rattle.dns_wire.specs.Message.{Spells, Breaks}
use Rattle.dns_wire.specs.declared.content.Content.TheVariants as content
use Rattle.dns_wire.specs.declared.content.Soa.{Soa}
use Rattle.dns_wire.specs.declared.decode_fault.DecodeFault.{DecodeFault}
use Rattle.dns_wire.specs.declared.message.Header.{Header}
use Rattle.dns_wire.specs.declared.message.Message.{Message}
use Rattle.dns_wire.specs.declared.question.Question.{Question}
use Rattle.dns_wire.specs.declared.record.Record.{Record}
use Rattle.zone_build.specs.Zone.{Zone, IsSet}
use Rattle.zone_db.specs.LookUp.{Decides, IsFound, Shown, shown}
use Rattle.zone_db.specs.LookUp.Shown.{outside, cut_of, alias_of, set_of, no_set, no_name}
use Rattle.zone_db.specs.declared.found.Found.{Found}
use Rattle.zone_db.specs.declared.way.Way.{Way}
use Rattle.zone_db.specs.declared.way.Way.TheVariants.{Datagram, Stream}
use Rattle.zone_db.specs.declared.draft.Added.{Added}
use Rattle.zone_db.specs.declared.draft.Draft.{Draft}
use Rattle.zone_db.specs.Bits.{opcode_of, rd_of, bit, header_of, IsSilent}

-- this where it holds, and else that
abbrev pub Where : Type 0 → Type 0 → Type 0 → Type 0
Where Fits This That = (Fits × This) ⊎ (¬ Fits × That)

-- a code, and no more than the question
abbrev pub bare : ℕ → Option Question → Draft
bare code question = record {
  authoritative = false;
  code = code;
  question = question;
  answers = [];
  authority = [];
  glue = [];
}

-- the options of a query (RFC 6891, 6.1.1)
abbrev pub are_options : Record → Bool
are_options one = one.kind == opt

abbrev pub options_of : Message → Option Record
options_of query = find are_options query.additional

-- a record of the root, whose wire form is one byte (RFC 1035, 3.1)
abbrev pub is_at_root : Record → Bool
is_at_root one = length (wire_of one.owner) == 1

-- options outside the additional section, or twice there, or of another owner than the root (RFC 6891, 6.1.1)
abbrev pub strays : Message → Bool
strays query =
    not (length (filter are_options query.answers) == 0) || not (length (filter are_options query.authority) == 0)
    || nat_lt 1 (length (filter are_options query.additional))
    || not (list_all is_at_root (filter are_options query.additional))

-- the version of the options, which is 0 (RFC 6891, 6.1.3)
abbrev pub version_of : Option Record → ℕ
version_of None = 0
version_of (Some options) = options.ttl / 2 ^ 16 % 2 ^ 8

-- a question of another class, or for options, or for what is no kind of record: keys and signatures of transactions, transfers of
-- zones, and mailboxes (RFC 2930, 8945, 1995, 5936; RFC 1035, 3.2.3)
abbrev pub is_refused : Question → Bool
is_refused question = not (question.class == internet) || question.kind == opt || (nat_le 249 question.kind && nat_le question.kind 254)

-- what is done with a query: this is said at once, or its question is looked up
pub data Plan : Type 0 where
  says : Draft → Plan
  looks_up : Question → Plan

-- for a question that stands alone: BADVERS for another version of options (RFC 6891, 6.1.3), REFUSED for what is not looked up
-- (RFC 1035, 4.1.1; RFC 8482)
abbrev pub plan_of_one : Option Record → Question → Plan
plan_of_one options question =
    if not (version_of options == 0) then says (bare 16 (Some question))
    else if is_refused question then says (bare 5 (Some question))
    else looks_up question

-- not exactly one question is FORMERR (RFC 1035, 4.1.1; RFC 9619)
abbrev pub plan_of_questions : Option Record → List Question → Plan
plan_of_questions options [] = says (bare 1 None)
plan_of_questions options (question ∷ []) = plan_of_one options question
plan_of_questions options (question ∷ other ∷ rest) = says (bare 1 None)

-- FORMERR for options that stray; NOTIMP for another opcode (RFC 1035, 4.1.1)
abbrev pub plan_of : Message → Plan
plan_of query =
    if strays query then says (bare 1 None)
    else if not (opcode_of query.header.bits == 0) then says (bare 4 None)
    else plan_of_questions (options_of query) query.questions

-- a code, and nothing else is added for a name
abbrev pub nothing : ℕ → Added
nothing code = record { code = code; answers = []; authority = []; glue = [] }

-- records, told of a name (RFC 4592, 3.3.2)
abbrev pub owned_by : Labels → List Record → List Record
owned_by name records = map (λ (one : Record). record one { owner = name }) records

-- an SOA that tells how long it may be kept that something is not there (RFC 2308, 3)
abbrev pub IsNegative : Record → Record → Type 0
IsNegative the_soa told = (soa : Soa) × (the_soa.content ≡ content.Soa soa) × (told ≡ record the_soa { ttl = min the_soa.ttl soa.minimum })

-- the addresses of a server at or below a cut, in the zone of the cut; of another server there are none (RFC 1034, 4.2.1)
abbrev pub AddressesOf : Zone → Labels → Labels → List Record → Type 0
AddressesOf zone cut server glue =
    Where (IsBelow server cut)
    ((four six : List Record) × IsSet zone.records server a four × IsSet zone.records server aaaa six × (glue ≡ four ++ six))
    (glue ≡ [])

-- the addresses of the servers of a cut, which is the owner of each, in their order
abbrev pub IsGlue : Zone → List Record → List Record → Type 0
IsGlue zone [] glue = glue ≡ []
IsGlue zone (one ∷ rest) glue =
    (server : Labels) × (first more : List Record) × (one.content ≡ content.Ns server) × AddressesOf zone one.owner server first
    × IsGlue zone rest more × (glue ≡ first ++ more)

-- a referral: the servers of a cut, and their addresses (RFC 1034, 4.3.2, step 3b)
abbrev pub Refers : List Zone → Labels → List Record → Added → Type 0
Refers zones name set added =
    (zone : Zone) × (glue : List Record) × Decides zones name zone × IsGlue zone set glue
    × (added ≡ record { code = 0; answers = []; authority = set; glue = glue })

-- what is added for a name by what is found: nothing but a code where no zone serves it; a referral; a CNAME, and what is added for
-- its target (RFC 1034, 3.6.2); the set; an SOA, with NXDOMAIN where the name does not exist (RFC 2308, 2)
abbrev pub Adds : (Labels → Added → Type 0) → List Zone → Labels → ℕ → Shown → Added → Type 0
Adds Further zones name code outside added = added ≡ nothing code
Adds Further zones name code (cut_of set) added = Refers zones name set added
Adds Further zones name code (alias_of set) added =
    (one : Record) × (target : Labels) × (rest : Added) × (set ≡ one ∷ []) × (one.content ≡ content.Cname target) × Further target rest
    × (added ≡ record rest { answers = owned_by name set ++ rest.answers })
Adds Further zones name code (set_of set) added = added ≡ record (nothing 0) { answers = owned_by name set }
Adds Further zones name code (no_set the_soa) added =
    (told : Record) × IsNegative the_soa told × (added ≡ record (nothing 0) { authority = told ∷ [] })
Adds Further zones name code (no_name the_soa) added =
    (told : Record) × IsNegative the_soa told × (added ≡ record (nothing 3) { authority = told ∷ [] })

-- what is added for the target of an alias, after which so many more may be followed: nothing where none may be, or where the target
-- was looked up already
abbrev pub Follows : List Zone → ℕ → ℕ → List Labels → Labels → Added → Type 0
Follows zones kind zero seen target added = added ≡ nothing 0
Follows zones kind (suc more) seen target added =
    Where (Contains seen (folded_labels target))
    (added ≡ nothing 0)
    ((found : Found) × IsFound zones target kind found
    × Adds (Follows zones kind more (seen ++ folded_labels target ∷ [])) zones target 0 (shown found) added)

-- of authority is what is found in a zone, and no referral (RFC 1035, 4.1.1)
abbrev pub is_authoritative : Shown → Bool
is_authoritative outside = false
is_authoritative (cut_of set) = false
is_authoritative (alias_of set) = true
is_authoritative (set_of set) = true
is_authoritative (no_set the_soa) = true
is_authoritative (no_name the_soa) = true

-- what is said to a question by what was added for its name
abbrev pub draft_with : Question → Bool → Added → Draft
draft_with question authoritative added = record {
  authoritative = authoritative;
  code = added.code;
  question = Some question;
  answers = added.answers;
  authority = added.authority;
  glue = added.glue;
}

-- what is said to a question that is looked up: REFUSED where no zone serves the name; at most 8 aliases are followed
abbrev pub Finds : List Zone → Question → Draft → Type 0
Finds zones question draft =
    (found : Found) × (added : Added) × IsFound zones question.name question.kind found
    × Adds (Follows zones question.kind 8 (folded_labels question.name ∷ [])) zones question.name 5 (shown found) added
    × (draft ≡ draft_with question (is_authoritative (shown found)) added)

-- what is said by a plan
abbrev pub Comes : List Zone → Plan → Draft → Type 0
Comes zones (says one) draft = draft ≡ one
Comes zones (looks_up question) draft = Finds zones question draft

-- options that stray are no options
abbrev pub options_heard : Message → Option Record
options_heard query = if strays query then None else options_of query

-- what is said to a query, and the options that were heard: FORMERR, with nothing but a header, to bytes that are no message
-- (RFC 1035, 4.1.1)
abbrev pub IsDrafted : List Zone → List ℕ → Option Record → Draft → Type 0
IsDrafted zones query options draft =
    ((fault : DecodeFault) × Breaks query fault × (options ≡ None) × (draft ≡ bare 1 None))
    ⊎ ((message : Message) × Spells query message × (options ≡ options_heard message) × Comes zones (plan_of message) draft)

-- the header of a reply: the number, the opcode and RD of the query; QR, and AA and TC as they are told; and the low bits of the code
abbrev pub reply_header : Header → Bool → Bool → ℕ → Header
reply_header query authoritative short code = record {
  id = query.id;
  bits = 2 ^ 15 + 2 ^ 11 * opcode_of query.bits + 2 ^ 10 * bit authoritative + 2 ^ 9 * bit short + 2 ^ 8 * rd_of query.bits + code % 2 ^ 4;
}

-- the options of a reply: 4,096 bytes, the high bits of the code, version 0, no flag, no option (RFC 6891, 6.1.2 and 6.1.3)
abbrev pub reply_options : ℕ → Record
reply_options code = record {
  owner = [];
  kind = opt;
  class = 4_096;
  ttl = code / 2 ^ 4 * 2 ^ 24;
  content = content.Opt [];
  belongs = λ i. true;
}

-- .. where the query has some (RFC 6891, 6.1.1)
abbrev pub options_for : Option Record → ℕ → List Record
options_for None code = []
options_for (Some options) code = reply_options code ∷ []

abbrev pub questions_of : Option Question → List Question
questions_of None = []
questions_of (Some question) = question ∷ []

-- the message of what is said, whole or cut short (RFC 2181, 9)
pub record IsMessageOf (query : Header) (options : Option Record) (short : Bool) (draft : Draft) (message : Message) : Type 0 where
  pub header : message.header ≡ reply_header query draft.authoritative short draft.code
  pub questions : message.questions ≡ questions_of draft.question
  pub answers : message.answers ≡ draft.answers
  pub authority : message.authority ≡ draft.authority
  pub additional : message.additional ≡ draft.glue ++ options_for options draft.code

-- .. as bytes, its names without pointers (RFC 1035, 4.1)
pub record IsPosted (query : Header) (options : Option Record) (short : Bool) (draft : Draft) (bytes : List ℕ) : Type 0 where
  pub message : Message
  pub parts : IsMessageOf query options short draft message
  pub wire : bytes ≡ message_wire message
  pub spelt : Spells bytes message

-- .. has at most so many
abbrev pub Fits : ℕ → Header → Option Record → Draft → Type 0
Fits limit query options draft = (message : Message) × IsMessageOf query options false draft message × (length (message_wire message) ≤ limit)

-- what is said without glue, and without any record
abbrev pub without_glue : Draft → Draft
without_glue draft = record draft { glue = [] }

abbrev pub without_records : Draft → Draft
without_records draft = record draft { answers = []; authority = []; glue = [] }

-- how long a reply may be: what a length on a stream tells; in a datagram 512 bytes, or what the options say, from 512 to 4,096
-- (RFC 1035, 4.2; RFC 6891, 6.2.3 to 6.2.5)
abbrev pub limit_of : Way → Option Record → ℕ
limit_of Stream options = 65_535
limit_of Datagram None = 512
limit_of Datagram (Some options) = max 512 (min 4_096 options.class)

-- the reply that is sent: whole where it is not too long; else without glue where that is not too long; else cut short
abbrev pub IsSent : ℕ → Header → Option Record → Draft → List ℕ → Type 0
IsSent limit query options draft bytes =
    Where (Fits limit query options draft) (IsPosted query options false draft bytes) (
    Where (Fits limit query options (without_glue draft)) (IsPosted query options false (without_glue draft) bytes)
    (IsPosted query options true (without_records draft) bytes))

-- a query that came this way is answered by these bytes
abbrev pub IsSpoken : List Zone → List ℕ → Way → List ℕ → Type 0
IsSpoken zones query way bytes =
    (options : Option Record) × (draft : Draft) × IsDrafted zones query options draft
    × IsSent (limit_of way options) (header_of query) options draft bytes

-- the reply to a query that came this way, or nothing
abbrev pub IsReply : List Zone → List ℕ → Way → Option (List ℕ) → Type 0
IsReply zones query way None = IsSilent query
IsReply zones query way (Some bytes) = ¬ IsSilent query × IsSpoken zones query way bytes
