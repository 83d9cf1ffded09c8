-- Zones have one reply to a query.
use Rattle.std.proofs.Common.{◌≡◌, inl, inr, ℕ, zero, suc, List, [], ◌∷◌, ◌++◌, length, Option, Some, None, refl, sym, ap, subst, ◌∙◌, arith}
use Rattle.std.specs.Prelude.{min, Bool, true, false}
use Rattle.std.specs.List.{flat_map}
use Rattle.dns_name.specs.Name.{folded_labels}
use Rattle.naptr_data.specs.Zones.{Labels}
use Rattle.dns_wire.specs.Encoding.{header_wire, question_wire, record_wire, message_wire}
use Rattle.dns_wire.specs.Kinds.{a, aaaa}
use Rattle.dns_wire.specs.declared.content.Content.TheVariants as content
use Rattle.dns_wire.specs.declared.content.Soa.{Soa}
use Rattle.dns_wire.specs.declared.message.Header.{Header}
use Rattle.dns_wire.specs.declared.message.Message.{Message}
use Rattle.dns_wire.specs.declared.question.Question.{Question}
use Rattle.dns_wire.specs.declared.record.Record.{Record}
use Rattle.dns_wire.proofs.LawLemmas.{one_message, not_both}
use Rattle.zone_build.specs.Zone.{Zone}
use Rattle.zone_build.proofs.SizeLemmas.{one_set}
use Rattle.zone_db.specs.Bits.{header_of}
use Rattle.zone_db.specs.LookUp.{Decides, Shown, shown}
use Rattle.zone_db.specs.LookUp.Shown.{outside, cut_of, alias_of, set_of, no_set, no_name}
use Rattle.zone_db.specs.Replies.{Adds, AddressesOf, Comes, Finds, Follows, IsDrafted, IsGlue, IsNegative, IsPosted}
use Rattle.zone_db.specs.Replies.{IsReply, IsSent, IsSpoken, Plan, Refers, says, looks_up, draft_with, is_authoritative, limit_of, nothing, options_heard, owned_by, plan_of, without_glue, without_records}
use Rattle.zone_db.specs.Sets.{AreZones}
use Rattle.zone_db.specs.declared.draft.Added.{Added}
use Rattle.zone_db.specs.declared.draft.Draft.{Draft}
use Rattle.zone_db.specs.declared.way.Way.{Way}
use Rattle.zone_db.proofs.OneFoundLemmas.{one_found}

one_zone : (zones : List Zone) (name : Labels) (one other : Zone) → Decides zones name one → Decides zones name other → one ≡ other
one_zone zones name one other d e = elim (d.longest other e.among e.above) [
  | inl same ↦ sym same
  | inr shorter ↦ elim (e.longest one d.among d.above) [ inl same ↦ same | inr shorter' ↦ absurd (omega (arith, shorter, shorter')) ]
]

one_server : (one other : Labels) → content.Ns one ≡ content.Ns other → one ≡ other
one_server one other is = cc

one_target : (one other : Labels) → content.Cname one ≡ content.Cname other → one ≡ other
one_target one other is = cc

one_soa : (one other : Soa) → content.Soa one ≡ content.Soa other → one ≡ other
one_soa one other is = cc

one_addresses : (zone : Zone) (cut server : Labels) (glue glue' : List Record) → AddressesOf zone cut server glue
    → AddressesOf zone cut server glue' → glue ≡ glue'
one_addresses zone cut server glue glue' (inl (b, (four, six, s4, s6, is))) (inl (b', (four', six', t4, t6, is'))) =
    is ∙ ap (λ x. x ++ six) (one_set zone.records server a four four' s4 t4) ∙ ap (λ x. four' ++ x) (one_set zone.records server aaaa six six' s6 t6) ∙ sym is'
one_addresses zone cut server glue glue' (inl (b, more)) (inr (not, is)) = absurd (not b)
one_addresses zone cut server glue glue' (inr (not, is)) (inl (b, more)) = absurd (not b)
one_addresses zone cut server glue glue' (inr (not, is)) (inr (not', is')) = is ∙ sym is'

one_glue : (zone : Zone) (set glue glue' : List Record) → IsGlue zone set glue → IsGlue zone set glue' → glue ≡ glue'
one_glue zone [] glue glue' is is' = is ∙ sym is'
one_glue zone (one ∷ set) glue glue' (server, first, rest, tells, are, more, is) (server', first', rest', tells', are', more', is') =
    let servers : server' ≡ server = one_server server' server (sym tells' ∙ tells) in
    let firsts : first ≡ first' =
    one_addresses zone one.owner server first first' are (subst (λ s. AddressesOf zone one.owner s first') servers are') in
    is ∙ ap (λ x. x ++ rest) firsts ∙ ap (λ x. first' ++ x) (one_glue zone set rest rest' more more') ∙ sym is'

abbrev referred : List Record → List Record → Added
referred set glue = record { code = 0; answers = []; authority = set; glue = glue }

one_referral : (zones : List Zone) (name : Labels) (set : List Record) (added added' : Added) → Refers zones name set added
    → Refers zones name set added' → added ≡ added'
one_referral zones name set added added' (zone, glue, decides, is, e) (zone', glue', decides', is', e') =
    let zones_same : zone' ≡ zone = one_zone zones name zone' zone decides' decides in
    let same : glue ≡ glue' = one_glue zone set glue glue' is (subst (λ (z : Zone). IsGlue z set glue') zones_same is') in
    e ∙ ap (referred set) same ∙ sym e'

abbrev told_for : Record → Soa → Record
told_for the_soa soa = record the_soa { ttl = min the_soa.ttl soa.minimum }

one_negative : (the_soa told told' : Record) → IsNegative the_soa told → IsNegative the_soa told' → told ≡ told'
one_negative the_soa told told' (soa, tells, is) (soa', tells', is') =
    is ∙ ap (told_for the_soa) (one_soa soa soa' (sym tells ∙ tells')) ∙ sym is'

-- what follows an alias is one
abbrev IsOneFurther : (Labels → Added → Type 0) → Type 0
IsOneFurther Further = (target : Labels) (one other : Added) → Further target one → Further target other → one ≡ other

abbrev aliased : Labels → List Record → Added → Added
aliased name set rest = record rest { answers = owned_by name set ++ rest.answers }

abbrev negative_with : ℕ → Record → Added
negative_with code told = record (nothing code) { authority = told ∷ [] }

one_added : (Further : Labels → Added → Type 0) (zones : List Zone) (name : Labels) (code : ℕ) (s : Shown) (added added' : Added)
    → IsOneFurther Further → Adds Further zones name code s added → Adds Further zones name code s added' → added ≡ added'
one_added Further zones name code outside added added' one e e' = e ∙ sym e'
one_added Further zones name code (cut_of set) added added' one r r' = one_referral zones name set added added' r r'
one_added Further zones name code (alias_of set) added added' one (r, target, rest, is, tells, more, e) (r', target', rest', is', tells', more', e') =
    let both : r' ∷ [] ≡ r ∷ [] = sym is' ∙ is in
    let records : r' ≡ r = cc in
    let targets : target' ≡ target = one_target target' target (sym tells' ∙ ap (λ (x : Record). x.content) records ∙ tells) in
    let rests : rest ≡ rest' = one target rest rest' more (subst (λ t. Further t rest') targets more') in
    e ∙ ap (aliased name set) rests ∙ sym e'
one_added Further zones name code (set_of set) added added' one e e' = e ∙ sym e'
one_added Further zones name code (no_set the_soa) added added' one (told, n, e) (told', n', e') =
    e ∙ ap (negative_with 0) (one_negative the_soa told told' n n') ∙ sym e'
one_added Further zones name code (no_name the_soa) added added' one (told, n, e) (told', n', e') =
    e ∙ ap (negative_with 3) (one_negative the_soa told told' n n') ∙ sym e'

one_follow : (zones : List Zone) (kind left : ℕ) (seen : List Labels) → AreZones zones → IsOneFurther (Follows zones kind left seen)
one_follow zones kind zero seen are target one other e e' = e ∙ sym e'
one_follow zones kind (suc left) seen are target one other (inl (c, e)) (inl (c', e')) = e ∙ sym e'
one_follow zones kind (suc left) seen are target one other (inl (c, e)) (inr (not, more)) = absurd (not c)
one_follow zones kind (suc left) seen are target one other (inr (not, more)) (inl (c, e)) = absurd (not c)
one_follow zones kind (suc left) seen are target one other (inr (not, (found, is, adds))) (inr (not', (found', is', adds'))) =
    let F : Labels → Added → Type 0 = Follows zones kind left (seen ++ folded_labels target ∷ []) in
    let same : shown found' ≡ shown found = one_found zones target kind found' found are is' is in
    one_added F zones target 0 (shown found) one other (one_follow zones kind left (seen ++ folded_labels target ∷ []) are) adds
    (subst (λ s. Adds F zones target 0 s other) same adds')

one_found_draft : (zones : List Zone) (question : Question) (one other : Draft) → AreZones zones → Finds zones question one
    → Finds zones question other → one ≡ other
one_found_draft zones question one other are (found, added, is, adds, e) (found', added', is', adds', e') =
    let F : Labels → Added → Type 0 = Follows zones question.kind 8 (folded_labels question.name ∷ []) in
    let same : shown found' ≡ shown found = one_found zones question.name question.kind found' found are is' is in
    let both : added ≡ added' =
    one_added F zones question.name 5 (shown found) added added'
    (one_follow zones question.kind 8 (folded_labels question.name ∷ []) are) adds
    (subst (λ s. Adds F zones question.name 5 s added') same adds') in
    e ∙ ap (λ x. draft_with question (is_authoritative (shown found)) x) both
    ∙ ap (λ s. draft_with question (is_authoritative s) added') (sym same) ∙ sym e'

one_coming : (zones : List Zone) (plan : Plan) (one other : Draft) → AreZones zones → Comes zones plan one → Comes zones plan other → one ≡ other
one_coming zones (says draft) one other are e e' = e ∙ sym e'
one_coming zones (looks_up question) one other are f f' = one_found_draft zones question one other are f f'

one_draft : (zones : List Zone) (query : List ℕ) (options options' : Option Record) (one other : Draft) → AreZones zones
    → IsDrafted zones query options one → IsDrafted zones query options' other → (options ≡ options') × (one ≡ other)
one_draft zones query options options' one other are (inl (fault, b, o, e)) (inl (fault', b', o', e')) = (o ∙ sym o', e ∙ sym e')
one_draft zones query options options' one other are (inl (fault, b, o, e)) (inr (m, s, o', c)) = absurd (not_both query m fault s b)
one_draft zones query options options' one other are (inr (m, s, o', c)) (inl (fault, b, o, e)) = absurd (not_both query m fault s b)
one_draft zones query options options' one other are (inr (m, s, o, c)) (inr (m', s', o', c')) =
    let same : m' ≡ m = one_message query m' m s' s in (
      o ∙ sym (o' ∙ ap options_heard same),
      one_coming zones (plan_of m) one other are c (subst (λ (x : Message). Comes zones (plan_of x) other) same c'),
    )

abbrev wire_by : Header → List Question → List Record → List Record → List Record → List ℕ
wire_by header questions answers authority additional =
    header_wire header (record {
      questions = length questions;
      answers = length answers;
      authority = length authority;
      additional = length additional;
    }) ++ flat_map question_wire questions ++ flat_map record_wire answers ++ flat_map record_wire authority ++ flat_map record_wire additional

one_wire : (one other : Message) → one.header ≡ other.header → one.questions ≡ other.questions → one.answers ≡ other.answers
    → one.authority ≡ other.authority → one.additional ≡ other.additional → message_wire one ≡ message_wire other
one_wire one other h q n u d =
    ap (λ x. wire_by x one.questions one.answers one.authority one.additional) h
    ∙ ap (λ x. wire_by other.header x one.answers one.authority one.additional) q
    ∙ ap (λ x. wire_by other.header other.questions x one.authority one.additional) n
    ∙ ap (λ x. wire_by other.header other.questions other.answers x one.additional) u
    ∙ ap (λ x. wire_by other.header other.questions other.answers other.authority x) d

one_posted : (query : Header) (options : Option Record) (short : Bool) (draft : Draft) (bytes bytes' : List ℕ)
    → IsPosted query options short draft bytes → IsPosted query options short draft bytes' → bytes ≡ bytes'
one_posted query options short draft bytes bytes' p q =
    p.wire
    ∙ one_wire p.message q.message (p.parts.header ∙ sym q.parts.header) (p.parts.questions ∙ sym q.parts.questions)
    (p.parts.answers ∙ sym q.parts.answers) (p.parts.authority ∙ sym q.parts.authority) (p.parts.additional ∙ sym q.parts.additional)
    ∙ sym q.wire

one_sent : (limit : ℕ) (query : Header) (options : Option Record) (draft : Draft) (bytes bytes' : List ℕ)
    → IsSent limit query options draft bytes → IsSent limit query options draft bytes' → bytes ≡ bytes'
one_sent limit query options draft bytes bytes' (inl (f, p)) (inl (f', p')) = one_posted query options false draft bytes bytes' p p'
one_sent limit query options draft bytes bytes' (inl (f, p)) (inr (not, more)) = absurd (not f)
one_sent limit query options draft bytes bytes' (inr (not, more)) (inl (f, p)) = absurd (not f)
one_sent limit query options draft bytes bytes' (inr (not, inl (f, p))) (inr (not', inl (f', p'))) =
    one_posted query options false (without_glue draft) bytes bytes' p p'
one_sent limit query options draft bytes bytes' (inr (not, inl (f, p))) (inr (not', inr (none, p'))) = absurd (none f)
one_sent limit query options draft bytes bytes' (inr (not, inr (none, p))) (inr (not', inl (f, p'))) = absurd (none f)
one_sent limit query options draft bytes bytes' (inr (not, inr (none, p))) (inr (not', inr (none', p'))) =
    one_posted query options true (without_records draft) bytes bytes' p p'

one_spoken : (zones : List Zone) (query : List ℕ) (way : Way) (bytes bytes' : List ℕ) → AreZones zones
    → IsSpoken zones query way bytes → IsSpoken zones query way bytes' → bytes ≡ bytes'
one_spoken zones query way bytes bytes' are (options, draft, drafted, sent) (options', draft', drafted', sent') =
    let (same_options, same_draft) = one_draft zones query options' options draft' draft are drafted' drafted in
    let again : IsSent (limit_of way options) (header_of query) options draft bytes' =
    subst (λ (d : Draft). IsSent (limit_of way options) (header_of query) options d bytes') same_draft
    (subst (λ (o : Option Record). IsSent (limit_of way o) (header_of query) o draft' bytes') same_options sent') in
    one_sent (limit_of way options) (header_of query) options draft bytes bytes' sent again

pub one_reply : (zones : List Zone) (query : List ℕ) (way : Way) (one other : Option (List ℕ)) → AreZones zones
    → IsReply zones query way one → IsReply zones query way other → one ≡ other
one_reply zones query way None None are r r' = refl
one_reply zones query way None (Some other) are r r' = absurd (r'.0 r)
one_reply zones query way (Some one) None are r r' = absurd (r.0 r')
one_reply zones query way (Some one) (Some other) are r r' = ap (λ (b : List ℕ). Some b) (one_spoken zones query way one other are r.1 r'.1)
