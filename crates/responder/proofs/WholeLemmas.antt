-- A reply on a stream is whole: what is said is small.
use Rattle.std.proofs.Common.{◌≡◌, ℕ, zero, suc, ◌+◌, ◌*◌, ◌≤◌, List, [], ◌∷◌, ◌++◌, length, inl, inr, sym, ap, subst, ◌∙◌, arith, length-append}
use Rattle.std.specs.Prelude.{Contains, Bool, not, Option, Some, None}
use Rattle.std.specs.List.{flat_map}
use Rattle.std.specs.Int.{w16, w32, to_be_bytes}
use Rattle.std.proofs.lemmas.List.Concat.{flat_map-cons}
use Rattle.std.proofs.lemmas.List.Sums.{sum_by-cons}
use Rattle.dns_name.specs.Name.{IsName, wire_of, folded_labels}
use Rattle.naptr_data.specs.Zones.{Labels}
use Rattle.naptr_data.proofs.CutLemmas.{Contains-head, Contains-after}
use Rattle.dns_wire.specs.Encoding.{question_wire, record_wire}
use Rattle.dns_wire.specs.Kinds.{cname}
use Rattle.dns_wire.specs.Ranges.{IsContent, IsRecord, IsSoa}
use Rattle.dns_wire.specs.Rdata.{rdata_of, soa_rdata}
use Rattle.dns_wire.specs.declared.content.Content.TheVariants as content
use Rattle.dns_wire.specs.declared.content.Soa.{Soa}
use Rattle.dns_wire.specs.declared.question.Question.{Question}
use Rattle.dns_wire.specs.declared.record.Record.{Record}
use Rattle.zone_build.specs.Zone.{Zone, weight}
use Rattle.zone_db.specs.Bits.{tc_of, header_of}
use Rattle.zone_db.specs.LookUp.{IsFound, shown}
use Rattle.zone_db.specs.Replies.{Adds, Comes, Finds, Follows, IsDrafted, IsNegative, IsReply, Plan, says, looks_up}
use Rattle.zone_db.specs.Replies.{bare, draft_with, is_authoritative, options_for, owned_by, plan_of}
use Rattle.zone_db.specs.Sets.{AreZones}
use Rattle.zone_db.specs.declared.draft.Added.{Added}
use Rattle.zone_db.specs.declared.draft.Draft.{Draft}
use Rattle.zone_db.specs.declared.found.Found.{Found}
use Rattle.zone_db.specs.declared.found.Found.TheVariants as found
use Rattle.zone_db.specs.declared.way.Way.TheVariants.{Stream}
use Rattle.responder.specs.Drafting.{IsSmall, added_size}
use Rattle.responder.specs.Laws.{AreInRange}
use Rattle.responder.specs.Sizes.{size}
use Rattle.responder.proofs.QuestionLemmas.{IsOfCodes, IsPlanOf, query_planned, spelt_questions}
use Rattle.responder.proofs.ReadyLemmas.{found_ready, in_set}
use Rattle.responder.proofs.SendLemmas.{small_whole}
use Rattle.responder.proofs.SizeLemmas.{both_size, owned_small, record_size}

-- a name fits a message
abbrev pub IsShort : Labels → Type 0
IsShort name = length (wire_of name) ≤ 255

-- records with such owners have no more bytes than they weigh
kept_small : (records : List Record) → ((one : Record) → Contains records one → IsShort one.owner) → size records ≤ weight records
kept_small [] short = omega arith
kept_small (one ∷ records) short =
    let here = short one (Contains-head one records) in
    let whole : size (one ∷ records) ≡ length (record_wire one ++ flat_map record_wire records) =
    ap length (flat_map-cons record_wire one records) in
    omega (
      arith,
      here,
      whole,
      record_size one,
      length-append (record_wire one) (flat_map record_wire records),
      sum_by-cons (λ (x : Record). 265 + length (rdata_of x.content)) one records,
      kept_small records (λ x c. short x (Contains-after one records x c)),
    )

-- one alias weighs no more than its names
alias_weight : (one : Record) (target : Labels) → IsShort target → one.content ≡ content.Cname target → weight (one ∷ []) ≤ 520
alias_weight one target short tells =
    omega (
      arith,
      short,
      sum_by-cons (λ (x : Record). 265 + length (rdata_of x.content)) one [],
      ap (λ c. length (rdata_of c)) tells,
    )

soa_small : (soa : Soa) → IsSoa soa → length (soa_rdata soa) ≤ 530
soa_small soa ranged =
    let a = wire_of soa.mname in
    let b = wire_of soa.rname in
    let c = to_be_bytes w32 soa.serial in
    let d = to_be_bytes w32 soa.refresh in
    let e = to_be_bytes w32 soa.retry in
    let f = to_be_bytes w32 soa.expire in
    let g = to_be_bytes w32 soa.minimum in
    omega (
      arith,
      ranged.mname.short,
      ranged.rname.short,
      length-append a b,
      length-append (a ++ b) c,
      length-append (a ++ b ++ c) d,
      length-append (a ++ b ++ c ++ d) e,
      length-append (a ++ b ++ c ++ d ++ e) f,
      length-append (a ++ b ++ c ++ d ++ e ++ f) g,
    )

-- an SOA is small
negative_small : (the_soa told : Record) → IsRecord the_soa → IsNegative the_soa told → size (told ∷ []) ≤ 795
negative_small the_soa told ranged (soa, tells, is) =
    let fields : IsSoa soa = subst IsContent tells ranged.content in
    let content : told.content ≡ content.Soa soa = ap (λ (x : Record). x.content) is ∙ tells in
    let owner : told.owner ≡ the_soa.owner = ap (λ (x : Record). x.owner) is in
    let whole : size (told ∷ []) ≡ length (record_wire told ++ []) = ap length (flat_map-cons record_wire told []) in
    omega (
      arith,
      whole,
      length-append (record_wire told) [],
      record_size told,
      ap (λ o. length (wire_of o)) owner,
      ranged.owner.short,
      ap (λ c. length (rdata_of c)) content,
      soa_small soa fields,
    )

-- what is added for a name is small, if what is added for the target of an alias is
adds_size : (Further : Labels → Added → Type 0) (zones : List Zone) (name : Labels) (kind code most : ℕ) (what : Found) (added : Added)
    → AreZones zones → AreInRange zones → IsFound zones name kind what → IsShort name → 60_000 ≤ most
    → ((target : Labels) (rest : Added) → IsShort target → Further target rest → added_size rest ≤ most)
    → Adds Further zones name code (shown what) added → added_size added ≤ most + 520
adds_size Further zones name kind code most found.Outside added are ranged is short low more e = omega (arith, low, ap added_size e)
adds_size Further zones name kind code most (found.Cut set) added are ranged (zone, owner, decides, highest, cut) short low more
    (zone', glue, decides', is_glue, e) =
    let few : weight set.now ≤ 60_000 = (found_ready zones name kind (found.Cut set) are (zone, owner, decides, highest, cut)).1 in
    let small : size set.now ≤ weight set.now =
    kept_small set.now (λ one c. (ranged zone one decides.among (in_set zone.records owner 2 set.now one cut c)).owner.short) in
    omega (arith, low, few, small, ap added_size e)
adds_size Further zones name kind code most (found.Alias set) added are ranged (zone, source, served, meets, here) short low more
    (one, target, rest, only, tells, further, e) =
    let among : Contains zone.records one =
    in_set zone.records source cname set.now one here (subst (λ l. Contains l one) (sym only) (Contains-head one [])) in
    let named : IsName target = subst IsContent tells (ranged zone one served.decides.among among).content in
    omega (
      arith,
      owned_small name set.now short,
      ap weight only,
      alias_weight one target named.short tells,
      both_size (owned_by name set.now) rest.answers,
      more target rest named.short further,
      ap added_size e,
    )
adds_size Further zones name kind code most (found.Set set) added are ranged is short low more e =
    let few : weight set.now ≤ 60_000 = found_ready zones name kind (found.Set set) are is in
    omega (arith, low, few, owned_small name set.now short, ap added_size e)
adds_size Further zones name kind code most (found.NoSet the_soa) added are ranged (zone, source, served, exists, not, none, here) short low more (told, n, e) =
    omega (arith, low, negative_small the_soa.now told (ranged zone the_soa.now served.decides.among here.0) n, ap added_size e)
adds_size Further zones name kind code most (found.NoName the_soa) added are ranged (zone, source, served, not, here) short low more (told, n, e) =
    omega (arith, low, negative_small the_soa.now told (ranged zone the_soa.now served.decides.among here.0) n, ap added_size e)

follow_size : (zones : List Zone) (kind left : ℕ) (seen : List Labels) (target : Labels) (added : Added) → AreZones zones → AreInRange zones
    → IsShort target → Follows zones kind left seen target added → added_size added ≤ 520 * left + 60_000
follow_size zones kind zero seen target added are ranged short e = omega (arith, ap added_size e)
follow_size zones kind (suc left) seen target added are ranged short (inl (c, e)) = omega (arith, ap added_size e)
follow_size zones kind (suc left) seen target added are ranged short (inr (not, (what, is, adds))) =
    let seen' : List Labels = seen ++ folded_labels target ∷ [] in
    omega (
      arith,
      adds_size (Follows zones kind left seen') zones target kind 0 (520 * left + 60_000) what added are ranged is short (omega arith)
          (λ next rest s f. follow_size zones kind left seen' next rest are ranged s f) adds,
    )

pub question_size : (question : Question) → IsShort question.name → length (flat_map question_wire (question ∷ [])) ≤ 259
question_size question short =
    let whole : length (flat_map question_wire (question ∷ [])) ≡ length (question_wire question ++ []) =
    ap length (flat_map-cons question_wire question []) in
    omega (
      arith,
      short,
      whole,
      length-append (question_wire question) [],
      length-append (wire_of question.name) (to_be_bytes w16 question.kind),
      length-append (wire_of question.name ++ to_be_bytes w16 question.kind) (to_be_bytes w16 question.class),
    )

pub options_size : (options : Option Record) (code : ℕ) → size (options_for options code) ≤ 11
options_size None code = omega arith
options_size (Some options) code = omega arith

-- so is what is said
with_small : (question : Question) (authoritative : Bool) (added : Added) → IsShort question.name → added_size added ≤ 64_680
    → IsSmall (draft_with question authoritative added)
with_small question authoritative added short few options =
    omega (arith, question_size question short, options_size options added.code, few)

bare_asks : (code : ℕ) (question : Question) → IsShort question.name → IsSmall (bare code (Some question))
bare_asks code question short options = omega (arith, question_size question short, options_size options code)

bare_small : (code : ℕ) → IsSmall (bare code None)
bare_small code options = omega (arith, options_size options code)

finds_small : (zones : List Zone) (question : Question) (draft : Draft) → AreZones zones → AreInRange zones → IsShort question.name
    → Finds zones question draft → IsSmall draft
finds_small zones question draft are ranged short (what, added, is, adds, e) =
    let seen : List Labels = folded_labels question.name ∷ [] in
    let few : added_size added ≤ 520 * 8 + 60_000 + 520 =
    adds_size (Follows zones question.kind 8 seen) zones question.name question.kind 5 (520 * 8 + 60_000) what added are ranged is short (omega arith)
    (λ next rest s f. follow_size zones question.kind 8 seen next rest are ranged s f) adds in
    subst IsSmall (sym e) (with_small question (is_authoritative (shown what)) added short (omega (arith, few)))

codes_small : IsOfCodes IsSmall
codes_small = record {
  alone = λ code few. bare_small code;
  asked = λ code question few ranged. bare_asks code question ranged.name.short;
}

comes_small : (zones : List Zone) (plan : Plan) (draft : Draft) → AreZones zones → AreInRange zones → IsPlanOf IsSmall plan → Comes zones plan draft
    → IsSmall draft
comes_small zones (says one) draft are ranged small is = subst IsSmall (sym is) small
comes_small zones (looks_up question) draft are ranged short finds = finds_small zones question draft are ranged short.name.short finds

drafted_small : (zones : List Zone) (query : List ℕ) (options : Option Record) (draft : Draft) → AreZones zones → AreInRange zones
    → IsDrafted zones query options draft → IsSmall draft
drafted_small zones query options draft are ranged (inl (fault, breaks, none, is)) = subst IsSmall (sym is) (bare_small 1)
drafted_small zones query options draft are ranged (inr (message, spells, heard, comes)) =
    comes_small zones (plan_of message) draft are ranged (query_planned IsSmall codes_small message (spelt_questions query message spells)) comes

pub stream_whole : (zones : List Zone) (query reply : List ℕ) → AreZones zones → AreInRange zones → IsReply zones query Stream (Some reply)
    → tc_of (header_of reply).bits ≡ 0
stream_whole zones query reply are ranged (asks, (options, draft, drafted, sent)) =
    small_whole (header_of query) options draft reply (drafted_small zones query options draft are ranged drafted) sent
