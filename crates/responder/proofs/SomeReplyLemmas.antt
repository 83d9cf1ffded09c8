-- Each query over zones has a reply, or nothing is said to it.
use Rattle.std.proofs.Common.{◌≡◌, ◌⊎◌, ℕ, zero, suc, ◌+◌, ◌<◌, ◌≤◌, List, [], ◌∷◌, ◌++◌, length, get_or, inl, inr, refl, sym, subst, arith}
use Rattle.std.specs.Prelude.{Contains, Bool, true, false, min, Option, Some, None}
use Rattle.std.specs.List.{AllByRecursion, flat_map}
use Rattle.dns_name.specs.Name.{IsByte, IsName, folded_labels}
use Rattle.dns_name.proofs.NameLemmas.{AllByRecursion-append}
use Rattle.naptr_data.specs.Zones.{Labels}
use Rattle.naptr_data.proofs.CutLemmas.{Contains-head, Contains-after, Contains-none, head_or_after}
use Rattle.naptr_data.proofs.DecideLemmas.{Either, numbers, lists, below_or_not}
use Rattle.dns_wire.specs.Encoding.{message_wire, question_wire}
use Rattle.dns_wire.specs.Kinds.{a, aaaa, cname}
use Rattle.dns_wire.specs.Ranges.{IsContent, IsHeader, IsMessage, IsQuestion, IsRecord}
use Rattle.dns_wire.specs.declared.message.Header.{Header}
use Rattle.dns_wire.specs.declared.message.Message.{Message}
use Rattle.dns_wire.specs.declared.question.Question.{Question}
use Rattle.dns_wire.specs.declared.record.Record.{Record}
use Rattle.dns_wire.proofs.LawLemmas.{message_or_break}
use Rattle.dns_wire.proofs.MessageStandLemmas.{reads_back}
use Rattle.zone_build.specs.Zone.{Zone, IsSet, IsValid}
use Rattle.zone_build.proofs.ListLemmas.{AllByRecursion-made}
use Rattle.zone_build.proofs.ZoneOrFaultLemmas.{some_set}
use Rattle.zone_db.specs.Bits.{IsSilent, header_of, qr_of, bit}
use Rattle.zone_db.specs.LookUp.{IsFound, shown}
use Rattle.zone_db.specs.Replies.{Adds, AddressesOf, Comes, Finds, Follows, IsDrafted, IsGlue, IsMessageOf}
use Rattle.zone_db.specs.Replies.{IsNegative, IsPosted, IsReply, IsSent, Plan, says, looks_up, bare, draft_with, is_authoritative, limit_of, nothing, options_for, options_heard, owned_by, plan_of, questions_of, reply_header, reply_options, without_glue, without_records}
use Rattle.zone_db.specs.Sets.{AreZones}
use Rattle.zone_db.specs.declared.draft.Added.{Added}
use Rattle.zone_db.specs.declared.draft.Draft.{Draft}
use Rattle.zone_db.specs.declared.found.Found.{Found}
use Rattle.zone_db.specs.declared.found.Found.TheVariants as found
use Rattle.zone_db.specs.declared.way.Way.{Way}
use Rattle.zone_db.specs.declared.way.Way.TheVariants.{Datagram, Stream}
use Rattle.zone_db.proofs.SomeFoundLemmas.{some_found}
use Rattle.responder.specs.Ready.{TellsServer, TellsSoa}
use Rattle.responder.specs.Laws.{AreInRange}
use Rattle.responder.specs.Sizes.{size, base_size}
use Rattle.responder.proofs.QuestionLemmas.{IsOfCodes, IsPlanOf, query_planned, spelt_questions}
use Rattle.responder.proofs.ReadyLemmas.{found_ready, in_set, valid_of}
use Rattle.responder.proofs.SendLemmas.{fits, not_fits}
use Rattle.responder.proofs.SizeLemmas.{message_size, small_counted}
use Rattle.responder.proofs.WholeLemmas.{options_size, question_size}

less_or_not : (n m : ℕ) → (n < m) ⊎ (m ≤ n)
less_or_not n m = grind arith

-- a name is among others, or not
among_or_not : (names : List Labels) (name : Labels) → Either (Contains names name)
among_or_not [] name = inr (λ c. Contains-none name c)
among_or_not (one ∷ names) name = next (lists (lists numbers) name one) (among_or_not names name)
  where
    next : Either (name ≡ one) → Either (Contains names name) → Either (Contains (one ∷ names) name)
    next (inl same) rest = inl (subst (λ n. Contains (one ∷ names) n) (sym same) (Contains-head one names))
    next (inr not) (inl c) = inl (Contains-after one names name c)
    next (inr not) (inr none) =
        inr (λ c. elim (head_or_after one names name c) [ inl here ↦ not here | inr after ↦ none after ])

-- the values of what is added, and of what is said, are in their ranges
pub record AreSayable (added : Added) : Type 0 where
  pub code : added.code ≤ 16
  pub answers : AllByRecursion IsRecord added.answers
  pub authority : AllByRecursion IsRecord added.authority
  pub glue : AllByRecursion IsRecord added.glue

pub record IsSayable (draft : Draft) : Type 0 where
  pub code : draft.code ≤ 16
  pub question : AllByRecursion IsQuestion (questions_of draft.question)
  pub answers : AllByRecursion IsRecord draft.answers
  pub authority : AllByRecursion IsRecord draft.authority
  pub glue : AllByRecursion IsRecord draft.glue

nothing_sayable : (code : ℕ) → code ≤ 16 → AreSayable (nothing code)
nothing_sayable code few = record { code = few; answers = tt; authority = tt; glue = tt }

owned_ranged : (name : Labels) (records : List Record) → IsName name → AllByRecursion IsRecord records → AllByRecursion IsRecord (owned_by name records)
owned_ranged name [] named ranged = tt
owned_ranged name (one ∷ records) named ranged =
    let told : IsRecord (record one { owner = name }) = record {
      owner = named;
      kind = ranged.0.kind;
      class = ranged.0.class;
      ttl = ranged.0.ttl;
      content = ranged.0.content;
    } in
    (told, owned_ranged name records named ranged.1)

set_ranged : (zones : List Zone) (zone : Zone) (owner : Labels) (kind : ℕ) (set : List Record) → AreInRange zones → Contains zones zone
    → IsSet zone.records owner kind set → AllByRecursion IsRecord set
set_ranged zones zone owner kind set ranged among is =
    AllByRecursion-made IsRecord set (λ one c. ranged zone one among (in_set zone.records owner kind set one is c))

-- the addresses of a server
abbrev HasAddresses : Zone → Labels → Labels → Type 0
HasAddresses zone cut server = (glue : List Record) × AddressesOf zone cut server glue × AllByRecursion IsRecord glue

some_addresses : (zones : List Zone) (zone : Zone) (cut server : Labels) → AreInRange zones → Contains zones zone → IsValid zone
    → HasAddresses zone cut server
some_addresses zones zone cut server ranged among valid = elim (below_or_not server cut) [
  | inl below ↦
      let four = some_set zone.records server a valid.order in
      let six = some_set zone.records server aaaa valid.order in (
        four.0 ++ six.0,
        inl (below, (four.0, six.0, four.1, six.1, refl)),
        AllByRecursion-append IsRecord four.0 six.0 (set_ranged zones zone server a four.0 ranged among four.1)
            (set_ranged zones zone server aaaa six.0 ranged among six.1),
      )
  | inr not ↦ ([], inr (not, refl), tt)
]

-- .. of the servers of a cut
abbrev HasGlue : Zone → List Record → Type 0
HasGlue zone set = (glue : List Record) × IsGlue zone set glue × AllByRecursion IsRecord glue

some_glue : (zones : List Zone) (zone : Zone) (set : List Record) → AreInRange zones → Contains zones zone → IsValid zone
    → AllByRecursion TellsServer set → HasGlue zone set
some_glue zones zone [] ranged among valid tells = ([], refl, tt)
some_glue zones zone (one ∷ set) ranged among valid tells =
    let (server, is) = tells.0 in
    let first = some_addresses zones zone one.owner server ranged among valid in
    let more = some_glue zones zone set ranged among valid tells.1 in (
      first.0 ++ more.0,
      (server, first.0, more.0, is, first.1, more.1, refl),
      AllByRecursion-append IsRecord first.0 more.0 first.2 more.2,
    )

some_negative : (the_soa : Record) → IsRecord the_soa → TellsSoa the_soa → (told : Record) × IsNegative the_soa told × IsRecord told
some_negative the_soa ranged (soa, tells) = (
  record the_soa { ttl = min the_soa.ttl soa.minimum },
  (soa, tells, refl),
  record {
    owner = ranged.owner;
    kind = ranged.kind;
    class = ranged.class;
    ttl = omega (arith, ranged.ttl);
    content = ranged.content;
  },
)

-- what is added for a name, if something is for the target of an alias
abbrev HasFurther : (Labels → Added → Type 0) → Labels → Type 0
HasFurther Further target = (rest : Added) × Further target rest × AreSayable rest

some_added : (Further : Labels → Added → Type 0) (zones : List Zone) (name : Labels) (kind code : ℕ) (what : Found) → AreZones zones
    → AreInRange zones → IsName name → code ≤ 16 → IsFound zones name kind what → ((target : Labels) → IsName target → HasFurther Further target)
    → (added : Added) × Adds Further zones name code (shown what) added × AreSayable added
some_added Further zones name kind code found.Outside are ranged named few is more = (nothing code, refl, nothing_sayable code few)
some_added Further zones name kind code (found.Cut set) are ranged named few (zone, owner, decides, highest, cut) more =
    let tells = (found_ready zones name kind (found.Cut set) are (zone, owner, decides, highest, cut)).0 in
    let glue = some_glue zones zone set.now ranged decides.among (valid_of zones zone are decides.among) tells in (
      record { code = 0; answers = []; authority = set.now; glue = glue.0 },
      (zone, glue.0, decides, glue.1, refl),
      record { code = omega arith; answers = tt; authority = set_ranged zones zone owner 2 set.now ranged decides.among cut; glue = glue.2 },
    )
some_added Further zones name kind code (found.Alias set) are ranged named few (zone, source, served, meets, here) more =
    let (target, (one, only, tells)) = found_ready zones name kind (found.Alias set) are (zone, source, served, meets, here) in
    let among : Contains zone.records one =
    in_set zone.records source cname set.now one here (subst (λ l. Contains l one) (sym only) (Contains-head one [])) in
    let target_named : IsName target = subst IsContent tells (ranged zone one served.decides.among among).content in
    let rest = more target target_named in
    let own = owned_ranged name set.now named (set_ranged zones zone source cname set.now ranged served.decides.among here) in (
      record rest.0 { answers = owned_by name set.now ++ rest.0.answers },
      (one, target, rest.0, only, tells, rest.1, refl),
      record {
        code = rest.2.code;
        answers = AllByRecursion-append IsRecord (owned_by name set.now) rest.0.answers own rest.2.answers;
        authority = rest.2.authority;
        glue = rest.2.glue;
      },
    )
some_added Further zones name kind code (found.Set set) are ranged named few (zone, source, answered, served, not, is, here) more = (
  record (nothing 0) { answers = owned_by name set.now },
  refl,
  record {
    code = omega arith;
    answers = owned_ranged name set.now named (set_ranged zones zone source answered set.now ranged served.decides.among here);
    authority = tt;
    glue = tt;
  },
)
some_added Further zones name kind code (found.NoSet the_soa) are ranged named few (zone, source, served, exists, not, none, here) more =
    let tells = found_ready zones name kind (found.NoSet the_soa) are (zone, source, served, exists, not, none, here) in
    let told = some_negative the_soa.now (ranged zone the_soa.now served.decides.among here.0) tells in (
      record (nothing 0) { authority = told.0 ∷ [] },
      (told.0, told.1, refl),
      record { code = omega arith; answers = tt; authority = (told.2, tt); glue = tt },
    )
some_added Further zones name kind code (found.NoName the_soa) are ranged named few (zone, source, served, not, here) more =
    let tells = found_ready zones name kind (found.NoName the_soa) are (zone, source, served, not, here) in
    let told = some_negative the_soa.now (ranged zone the_soa.now served.decides.among here.0) tells in (
      record (nothing 3) { authority = told.0 ∷ [] },
      (told.0, told.1, refl),
      record { code = omega arith; answers = tt; authority = (told.2, tt); glue = tt },
    )

-- what follows an alias
follow_or_not : (zones : List Zone) (kind left : ℕ) (seen : List Labels) (target : Labels) → AreZones zones → AreInRange zones → IsName target
    → ((next : Labels) → IsName next → HasFurther (Follows zones kind left (seen ++ folded_labels target ∷ [])) next)
    → Either (Contains seen (folded_labels target)) → HasFurther (Follows zones kind (suc left) seen) target
follow_or_not zones kind left seen target are ranged named more (inl c) = (nothing 0, inl (c, refl), nothing_sayable 0 (omega arith))
follow_or_not zones kind left seen target are ranged named more (inr not) =
    let what = some_found zones target kind are in
    let here = some_added (Follows zones kind left (seen ++ folded_labels target ∷ [])) zones target kind 0 what.0 are ranged named (omega arith) what.1 more in
    (here.0, inr (not, (what.0, what.1, here.1)), here.2)

some_follow : (zones : List Zone) (kind left : ℕ) (seen : List Labels) (target : Labels) → AreZones zones → AreInRange zones → IsName target
    → HasFurther (Follows zones kind left seen) target
some_follow zones kind zero seen target are ranged named = (nothing 0, refl, nothing_sayable 0 (omega arith))
some_follow zones kind (suc left) seen target are ranged named =
    follow_or_not zones kind left seen target are ranged named
    (λ next n. some_follow zones kind left (seen ++ folded_labels target ∷ []) next are ranged n)
    (among_or_not seen (folded_labels target))

-- what is said to a question
some_finding : (zones : List Zone) (question : Question) → AreZones zones → AreInRange zones → IsQuestion question
    → (draft : Draft) × Finds zones question draft × IsSayable draft
some_finding zones question are ranged asked =
    let seen : List Labels = folded_labels question.name ∷ [] in
    let what = some_found zones question.name question.kind are in
    let here =
    some_added (Follows zones question.kind 8 seen) zones question.name question.kind 5 what.0 are ranged asked.name (omega arith) what.1
    (λ next n. some_follow zones question.kind 8 seen next are ranged n) in (
      draft_with question (is_authoritative (shown what.0)) here.0,
      (what.0, here.0, what.1, here.1, refl),
      record {
        code = here.2.code;
        question = (asked, tt);
        answers = here.2.answers;
        authority = here.2.authority;
        glue = here.2.glue;
      },
    )

some_coming : (zones : List Zone) (plan : Plan) → AreZones zones → AreInRange zones → IsPlanOf IsSayable plan
    → (draft : Draft) × Comes zones plan draft × IsSayable draft
some_coming zones (says one) are ranged said = (one, refl, said)
some_coming zones (looks_up question) are ranged asked = some_finding zones question are ranged asked

bare_sayable : (code : ℕ) → code ≤ 16 → IsSayable (bare code None)
bare_sayable code few = record { code = few; question = tt; answers = tt; authority = tt; glue = tt }

codes_sayable : IsOfCodes IsSayable
codes_sayable = record {
  alone = bare_sayable;
  asked = λ code question few asked. record { code = few; question = (asked, tt); answers = tt; authority = tt; glue = tt };
}

-- what is said to a query
some_drafted : (zones : List Zone) (query : List ℕ) → AreZones zones → AreInRange zones → AllByRecursion IsByte query
    → (options : Option Record) × (draft : Draft) × IsDrafted zones query options draft × IsSayable draft
some_drafted zones query are ranged bytes = elim (message_or_break query bytes) [
  | inl spelt ↦
      let message = spelt.0 in
      let said = some_coming zones (plan_of message) are ranged (query_planned IsSayable codes_sayable message (spelt_questions query message spelt.1)) in
      (options_heard message, said.0, inr (message, spelt.1, refl, said.1), said.2)
  | inr broken ↦ (None, bare 1 None, inl (broken.0, broken.1, refl, refl), bare_sayable 1 (omega arith))
]

bit_most : (set : Bool) → bit set ≤ 1
bit_most true = omega arith
bit_most false = omega arith

options_ranged : (options : Option Record) (code : ℕ) → code ≤ 16 → AllByRecursion IsRecord (options_for options code)
options_ranged None code few = tt
options_ranged (Some options) code few =
    let told : IsRecord (reply_options code) = record {
      owner = record { each = tt; short = omega arith };
      kind = omega arith;
      class = omega arith;
      ttl = omega (arith, few);
      content = tt;
    } in
    (told, tt)

-- a message of it, if it is not too long
some_posted : (query : Header) (options : Option Record) (short : Bool) (draft : Draft) → IsHeader query → IsSayable draft
    → base_size options draft + size draft.glue ≤ 65_535 → (bytes : List ℕ) × IsPosted query options short draft bytes
some_posted query options short draft ranged said few =
    let message : Message = record {
      header = reply_header query draft.authoritative short draft.code;
      questions = questions_of draft.question;
      answers = draft.answers;
      authority = draft.authority;
      additional = draft.glue ++ options_for options draft.code;
      counted = small_counted options draft few;
    } in
    let parts : IsMessageOf query options short draft message = record {
      header = refl;
      questions = refl;
      answers = refl;
      authority = refl;
      additional = refl;
    } in
    let values : IsMessage message = record {
      header = record { id = ranged.id; bits = omega (arith, bit_most draft.authoritative, bit_most short) };
      questions = said.question;
      answers = said.answers;
      authority = said.authority;
      additional = AllByRecursion-append IsRecord draft.glue (options_for options draft.code) said.glue (options_ranged options draft.code said.code);
    } in (
      message_wire message,
      record {
        message = message;
        parts = parts;
        wire = refl;
        spelt = reads_back message values (omega (arith, few, message_size query options short draft message parts));
      },
    )

questions_size : (question : Option Question) → AllByRecursion IsQuestion (questions_of question)
    → length (flat_map question_wire (questions_of question)) ≤ 259
questions_size None asked = omega arith
questions_size (Some question) asked = question_size question asked.0.name.short

-- as much of it as may be is sent
abbrev HasSent : ℕ → Header → Option Record → Draft → Type 0
HasSent limit query options draft = (bytes : List ℕ) × IsSent limit query options draft bytes

sent_short : (limit : ℕ) (query : Header) (options : Option Record) (draft : Draft) → IsHeader query → IsSayable draft
    → limit < base_size options draft → HasSent limit query options draft
sent_short limit query options draft ranged said more =
    let rest : IsSayable (without_records draft) = record { code = said.code; question = said.question; answers = tt; authority = tt; glue = tt } in
    let few : base_size options (without_records draft) + size [] ≤ 65_535 =
    omega (arith, questions_size draft.question said.question, options_size options draft.code) in
    let posted = some_posted query options true (without_records draft) ranged rest few in (
      posted.0,
      inr (
        not_fits limit query options draft (omega (arith, more)),
        inr (not_fits limit query options (without_glue draft) (omega (arith, more)), posted.1),
      ),
    )

sent_no_glue : (limit : ℕ) (query : Header) (options : Option Record) (draft : Draft) → limit ≤ 65_535 → IsHeader query → IsSayable draft
    → limit < base_size options draft + size draft.glue → base_size options draft ≤ limit → HasSent limit query options draft
sent_no_glue limit query options draft most ranged said more few =
    let rest : IsSayable (without_glue draft) =
    record { code = said.code; question = said.question; answers = said.answers; authority = said.authority; glue = tt } in
    let posted = some_posted query options false (without_glue draft) ranged rest (omega (arith, most, few)) in (
      posted.0,
      inr (
        not_fits limit query options draft more,
        inl (fits limit query options (without_glue draft) posted.0 (omega (arith, few)) posted.1, posted.1),
      ),
    )

sent_whole : (limit : ℕ) (query : Header) (options : Option Record) (draft : Draft) → limit ≤ 65_535 → IsHeader query → IsSayable draft
    → base_size options draft + size draft.glue ≤ limit → HasSent limit query options draft
sent_whole limit query options draft most ranged said few =
    let posted = some_posted query options false draft ranged said (omega (arith, most, few)) in
    (posted.0, inl (fits limit query options draft posted.0 few posted.1, posted.1))

some_sent : (limit : ℕ) (query : Header) (options : Option Record) (draft : Draft) → limit ≤ 65_535 → IsHeader query → IsSayable draft
    → HasSent limit query options draft
some_sent limit query options draft most ranged said =
    elim (less_or_not limit (base_size options draft + size draft.glue)) [
      | inr few ↦ sent_whole limit query options draft most ranged said few
      | inl more ↦ elim (less_or_not limit (base_size options draft)) [
        | inr few ↦ sent_no_glue limit query options draft most ranged said more few
        | inl more' ↦ sent_short limit query options draft ranged said more'
      ]
    ]

limit_most : (way : Way) (options : Option Record) → limit_of way options ≤ 65_535
limit_most Stream options = omega arith
limit_most Datagram None = omega arith
limit_most Datagram (Some options) = omega arith

-- the numbers of a header are in their ranges
byte_at : (bytes : List ℕ) (at : ℕ) → AllByRecursion IsByte bytes → get_or bytes at 0 < 256
byte_at [] at ranged = omega arith
byte_at (one ∷ bytes) zero ranged = ranged.0
byte_at (one ∷ bytes) (suc at) ranged = byte_at bytes at ranged.1

header_ranged : (query : List ℕ) → AllByRecursion IsByte query → IsHeader (header_of query)
header_ranged query bytes = record {
  id = omega (arith, byte_at query 0 bytes, byte_at query 1 bytes);
  bits = omega (arith, byte_at query 2 bytes, byte_at query 3 bytes);
}

silent_or_not : (query : List ℕ) → Either (IsSilent query)
silent_or_not query = all (less_or_not (length query) 12) (numbers (qr_of (header_of query).bits) 1)
  where
    all : (length query < 12) ⊎ (12 ≤ length query) → Either (qr_of (header_of query).bits ≡ 1) → Either (IsSilent query)
    all (inl short) reply = inl (inl short)
    all (inr long) (inl reply) = inl (inr reply)
    all (inr long) (inr not) = inr (λ silent. elim silent [ inl short ↦ absurd (omega (arith, short, long)) | inr reply ↦ not reply ])

pub some_reply : (zones : List Zone) (query : List ℕ) (way : Way) → AreZones zones → AreInRange zones → AllByRecursion IsByte query
    → (reply : Option (List ℕ)) × IsReply zones query way reply
some_reply zones query way are ranged bytes = elim (silent_or_not query) [
  | inl silent ↦ (None, silent)
  | inr not ↦
      let said = some_drafted zones query are ranged bytes in
      let sent = some_sent (limit_of way said.0) (header_of query) said.0 said.1 (limit_most way said.0) (header_ranged query bytes) said.3 in
      (Some sent.0, (not, (said.0, said.1, said.2, sent.1)))
]
