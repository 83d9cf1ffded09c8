-- Content as it is written, read again.
use Rattle.std.proofs.Common.{◌≡◌, ◌∙◌, ℕ, ◌<◌, ◌≤◌, ◌^◌, List, [], ◌∷◌, ◌++◌, length, map, decimal, codes, true}
use Rattle.std.proofs.Common.{Option, Some, None, Ok, refl, sym, ap, arith, append_assoc, length-append}
use Rattle.std.specs.Prelude.{slice_get, option_and_then, IfSome, nat_le}
use Rattle.std.specs.Option.{ok_or}
use Rattle.std.specs.Result.{result_ok}
use Rattle.std.specs.List.{AllByRecursion, flat_map}
use Rattle.std.specs.Net.Addr.{segments_of}
use Rattle.std.specs.Net.Text.{hex, groups_text, ipv4_text}
use Rattle.std.proofs.lemmas.Bool.{cond-true, cond-false, le-leb}
use Rattle.std.proofs.lemmas.List.{append-nil}
use Rattle.enum_base.specs.Decimal.{number_up_to}
use Rattle.dns_name.specs.Name.{IsName}
use Rattle.dns_name.specs.Text.{byte_text, label_text, text_of}
use Rattle.dns_name.proofs.NameLemmas.{AllByRecursion-append}
use Rattle.dns_name.proofs.SpellLemmas.{name_of-text_of}
use Rattle.rdata_field.specs.Strings.{quoted}
use Rattle.dns_name.specs.Name.{Labels}
use Rattle.naptr_rule.specs.declared.rule.Naptr.{Naptr}
use Rattle.dns_wire.specs.declared.content.Soa.{Soa}
use Rattle.dns_wire.specs.declared.content.Content.{Content}
use Rattle.dns_wire.specs.declared.content.Content.TheVariants as content
use Rattle.zone_token.specs.Token.{Token}
use Rattle.zone_token.specs.Tokens.{◌>>=◌, tokens_of}
use Rattle.zone_token.specs.Times.{most_seconds, time_of}
use Rattle.zone_token.specs.Addresses.{quad_of, address_of}
use Rattle.zone_token.specs.Fields.{is_origin, name_in, name_or, name_at, bare_in, bare_at, ends_at, or_fault}
use Rattle.zone_text.specs.Data.{number_at, time_at, quad_at, address_at, string_in, string_at, target_of, a_of}
use Rattle.zone_text.specs.Data.{aaaa_of, soa_of, mx_of, strings_of, txt_of, srv_of, naptr_of, content_of}
use Rattle.zone_text.specs.FieldsText.{fields_text}
use Rattle.dns_wire.specs.Ranges.{AreBytes, IsText, IsContent}
use Rattle.zone_text.specs.Laws.{type_of, HasLine, FieldsAreReadAgain}
use Rattle.zone_text.specs.declared.kind.Kind.{Kind}
use Rattle.zone_token.specs.declared.fault.TextWhy.TheVariants.{BadName, BadData}
use Rattle.zone_text.proofs.BareLemmas.{is_plain, PassesBare-plain, PassesBare-name, Begins-plain, Begins-name, no_sign}
use Rattle.zone_text.proofs.QuotedLemmas.{string_of-quoted}
use Rattle.zone_text.proofs.FieldTokenLemmas.{bare, between_quotes, line_after, line_of, Reads, Reads-bare, Reads-quoted, tokens_of-line_of}
use Rattle.zone_text.proofs.NumberLemmas.{of_decimal, decimal-some, digit_plain, number_back, time_back}
use Rattle.zone_text.proofs.StringLemmas.{strings-step}
use Rattle.zone_text.proofs.WrittenLemmas.{length-segments}
use Rattle.zone_text.proofs.AddressTextLemmas.{quad_back, address_back, of_hex, digit_char-plain, segments-small, hex-some}

-- the tokens of content
abbrev tokens_in : Content → List Token
tokens_in (content.A address) = bare (ipv4_text address) ∷ []
tokens_in (content.Ns server) = bare (text_of server) ∷ []
tokens_in (content.Cname target) = bare (text_of target) ∷ []
tokens_in (content.Soa soa) =
    bare (text_of soa.mname) ∷ bare (text_of soa.rname) ∷ bare (decimal soa.serial) ∷ bare (decimal soa.refresh)
    ∷ bare (decimal soa.retry) ∷ bare (decimal soa.expire) ∷ bare (decimal soa.minimum) ∷ []
tokens_in (content.Ptr name) = bare (text_of name) ∷ []
tokens_in (content.Mx preference exchange) = bare (decimal preference) ∷ bare (text_of exchange) ∷ []
tokens_in (content.Txt texts) = map between_quotes texts
tokens_in (content.Aaaa address) = bare (groups_text (segments_of address)) ∷ []
tokens_in (content.Srv priority weight port target) = bare (decimal priority) ∷ bare (decimal weight) ∷ bare (decimal port) ∷ bare (text_of target) ∷ []
tokens_in (content.Naptr rule) =
    bare (decimal rule.order) ∷ bare (decimal rule.preference) ∷ between_quotes rule.flags
    ∷ between_quotes rule.services ∷ between_quotes rule.regexp ∷ bare (text_of rule.replacement) ∷ []
tokens_in (content.Opt options) = []
tokens_in (content.Raw bytes) = []

-- strings after the first
strings-line : (texts : List (List ℕ)) → flat_map (λ text. codes " " ++ quoted text) texts ≡ line_after (map between_quotes texts)
strings-line [] = refl
strings-line (text ∷ texts) = ap (λ l. (codes " " ++ quoted text) ++ l) (strings-line texts)

-- the fields are the line of these tokens
fields-line : (c : Content) → fields_text c ≡ line_of (tokens_in c)
fields-line (content.A address) = sym (append-nil (ipv4_text address))
fields-line (content.Ns server) = sym (append-nil (text_of server))
fields-line (content.Cname target) = sym (append-nil (text_of target))
fields-line (content.Soa soa) = simp (append_assoc, append-nil)
fields-line (content.Ptr name) = sym (append-nil (text_of name))
fields-line (content.Mx preference exchange) = simp (append_assoc, append-nil)
fields-line (content.Txt []) = refl
fields-line (content.Txt (text ∷ texts)) = ap (λ l. quoted text ++ l) (strings-line texts)
fields-line (content.Aaaa address) = sym (append-nil (groups_text (segments_of address)))
fields-line (content.Srv priority weight port target) = simp (append_assoc, append-nil)
fields-line (content.Naptr rule) = simp (append_assoc, append-nil)
fields-line (content.Opt options) = refl
fields-line (content.Raw bytes) = refl

-- a word of bytes that stand as they are
reads_word : (text : List ℕ) → 0 < length text → AllByRecursion (λ b. is_plain b ≡ true) text → Reads (bare text)
reads_word text some all = Reads-bare text some (Begins-plain text some all) (PassesBare-plain text all)

reads_number : (n : ℕ) → n < 2 ^ 64 → Reads (bare (decimal n))
reads_number n fits = reads_word (decimal n) (decimal-some n fits) (of_decimal (λ b. is_plain b ≡ true) digit_plain n fits)

name-some : (labels : List (List ℕ)) → 0 < length (text_of labels)
name-some [] = omega arith
name-some (label ∷ labels) = omega (
  arith,
  length-append (flat_map byte_text label ++ 46 ∷ []) (flat_map label_text labels),
  length-append (flat_map byte_text label) (46 ∷ []),
)

reads_name : (labels : List (List ℕ)) → IsName labels → Reads (bare (text_of labels))
reads_name labels h = Reads-bare (text_of labels) (name-some labels) (Begins-name labels h.each) (PassesBare-name labels h.each)

number-plain : (n : ℕ) → n < 256 → AllByRecursion (λ b. is_plain b ≡ true) (decimal n)
number-plain n small = of_decimal (λ b. is_plain b ≡ true) digit_plain n (omega arith)

plain-append : (one other : List ℕ) → AllByRecursion (λ b. is_plain b ≡ true) one
    → AllByRecursion (λ b. is_plain b ≡ true) other → AllByRecursion (λ b. is_plain b ≡ true) (one ++ other)
plain-append = AllByRecursion-append (λ b. is_plain b ≡ true)

quad-plain : (a b c d : ℕ) → a < 256 → b < 256 → c < 256 → d < 256 → AllByRecursion (λ b. is_plain b ≡ true) (ipv4_text (a ∷ b ∷ c ∷ d ∷ []))
quad-plain a b c d ha hb hc hd =
    plain-append _ (decimal d)
    (plain-append _ (codes ".")
    (plain-append _ (decimal c)
    (plain-append _ (codes ".")
    (plain-append _ (decimal b) (plain-append (decimal a) (codes ".") (number-plain a ha) (refl, tt))
    (number-plain b hb)) (refl, tt)) (number-plain c hc)) (refl, tt)) (number-plain d hd)

group-plain : (n : ℕ) → n < 65536 → AllByRecursion (λ b. is_plain b ≡ true) (hex n)
group-plain n small = of_hex (λ b. is_plain b ≡ true) digit_char-plain n small

groups-plain : (groups : List ℕ) → AllByRecursion (λ n. n < 65536) groups
    → AllByRecursion (λ b. is_plain b ≡ true) (flat_map (λ group. codes ":" ++ hex group) groups)
groups-plain [] all = tt
groups-plain (n ∷ groups) all = plain-append (codes ":" ++ hex n) _ (refl, group-plain n all.0) (groups-plain groups all.1)

address-plain : (groups : List ℕ) → AllByRecursion (λ n. n < 65536) groups → AllByRecursion (λ b. is_plain b ≡ true) (groups_text groups)
address-plain [] all = tt
address-plain (n ∷ groups) all = plain-append (hex n) _ (group-plain n all.0) (groups-plain groups all.1)

address-some : (groups : List ℕ) → 0 < length groups → 0 < length (groups_text groups)
address-some [] some = absurd (omega arith)
address-some (n ∷ groups) some = omega (arith, hex-some n, length-append (hex n) (flat_map (λ group. codes ":" ++ hex group) groups))

reads_quad : (address : List ℕ) → (length address ≡ 4) × AreBytes address → Reads (bare (ipv4_text address))
reads_quad [] h = absurd (let size = h.0 in omega arith)
reads_quad (a ∷ []) h = absurd (let size = h.0 in omega arith)
reads_quad (a ∷ b ∷ []) h = absurd (let size = h.0 in omega arith)
reads_quad (a ∷ b ∷ c ∷ []) h = absurd (let size = h.0 in omega arith)
reads_quad (a ∷ b ∷ c ∷ d ∷ []) h =
    let l = h.1 in
    let some = decimal-some d (let small = l.1.1.1.0 in omega arith) in
    reads_word (ipv4_text (a ∷ b ∷ c ∷ d ∷ []))
    (omega (arith, length-append (decimal a ++ codes "." ++ decimal b ++ codes "." ++ decimal c ++ codes ".") (decimal d)))
    (quad-plain a b c d l.0 l.1.0 l.1.1.0 l.1.1.1.0)
reads_quad (a ∷ b ∷ c ∷ d ∷ e ∷ rest) h = absurd (let size = h.0 in omega arith)

reads_groups : (address : List ℕ) → (length address ≡ 16) × AreBytes address → Reads (bare (groups_text (segments_of address)))
reads_groups address h =
    let groups = segments_of address in
    let eight = length-segments 8 address h.0 in
    reads_word (groups_text groups) (address-some groups (omega arith)) (address-plain groups (segments-small 8 address h.0 h.1))

reads_strings : (texts : List (List ℕ)) → AllByRecursion IsText texts → AllByRecursion Reads (map between_quotes texts)
reads_strings [] all = tt
reads_strings (text ∷ texts) all = (Reads-quoted text all.0.bytes, reads_strings texts all.1)

-- the tokens of content are read again
reads_tokens : (c : Content) → IsContent c → HasLine c → AllByRecursion Reads (tokens_in c)
reads_tokens (content.A address) h l = (reads_quad address h, tt)
reads_tokens (content.Ns server) h l = (reads_name server h, tt)
reads_tokens (content.Cname target) h l = (reads_name target h, tt)
reads_tokens (content.Soa soa) h l =
    let serial = h.serial in let refresh = l.refresh in let retry = l.retry in let expire = l.expire in let minimum = l.minimum in (
      reads_name soa.mname h.mname,
      (
        reads_name soa.rname h.rname,
        (
          reads_number soa.serial (omega arith),
          (
            reads_number soa.refresh (omega arith),
            (
              reads_number soa.retry (omega arith),
              (reads_number soa.expire (omega arith), (reads_number soa.minimum (omega arith), tt)),
            ),
          ),
        ),
      ),
    )
reads_tokens (content.Ptr name) h l = (reads_name name h, tt)
reads_tokens (content.Mx preference exchange) h l = (reads_number preference (let small = h.0 in omega arith), (reads_name exchange h.1, tt))
reads_tokens (content.Txt texts) h l = reads_strings texts h
reads_tokens (content.Aaaa address) h l = (reads_groups address h, tt)
reads_tokens (content.Srv priority weight port target) h l = (
  reads_number priority (let small = h.0 in omega arith),
  (
    reads_number weight (let small = h.1 in omega arith),
    (reads_number port (let small = h.2 in omega arith), (reads_name target h.3, tt)),
  ),
)
reads_tokens (content.Naptr rule) h l = (
  reads_number rule.order (let small = h.order in omega arith),
  (
    reads_number rule.preference (let small = h.preference in omega arith),
    (
      Reads-quoted rule.flags l.flags,
      (
        Reads-quoted rule.services l.services,
        (Reads-quoted rule.regexp l.regexp, (reads_name rule.replacement h.replacement, tt)),
      ),
    ),
  ),
)
reads_tokens (content.Opt options) h l = absurd l
reads_tokens (content.Raw bytes) h l = absurd l

-- what a token at a place stands for
number_is : (most : ℕ) (fields : List Token) (place n : ℕ) → slice_get fields place ≡ Some (bare (decimal n))
    → n ≤ most → n < 2 ^ 64 → number_at most fields place ≡ Ok n
unfolding number_at bare_at
number_is most fields place n is low fits =
    ap (λ o. ok_or (option_and_then (λ text. result_ok (number_up_to most text)) (bare_in o)) BadData) is
    ∙ ap (λ r. ok_or (result_ok r) BadData) (number_back most n low fits)

time_is : (fields : List Token) (place n : ℕ) → slice_get fields place ≡ Some (bare (decimal n)) → n ≤ most_seconds → time_at fields place ≡ Ok n
unfolding time_at bare_at
time_is fields place n is low = ap (λ o. ok_or (option_and_then time_of (bare_in o)) BadData) is ∙ ap (λ o. ok_or o BadData) (time_back n low)

string_is : (fields : List Token) (place : ℕ) (text : List ℕ) → slice_get fields place ≡ Some (between_quotes text)
    → length text ≤ 255 → AreBytes text → string_at fields place ≡ Ok text
unfolding string_at
string_is fields place text is short bytes = ap (λ o. ok_or (string_in o) BadData) is ∙ ap (λ o. ok_or o BadData) (string_of-quoted text bytes short)

name_is : (origin : Labels) (fields : List Token) (place : ℕ) (labels : List (List ℕ))
    → slice_get fields place ≡ Some (bare (text_of labels)) → IsName labels
    → name_at BadData origin fields place ≡ Ok labels
unfolding name_at name_in
name_is origin fields place labels is h =
    ap (name_or BadData origin) is ∙ cond-false (is_origin (bare (text_of labels))) _ _ (no_sign labels h.each)
    ∙ ap (λ r. or_fault r BadName) (name_of-text_of labels (Some origin) h)

ends_is : (fields : List Token) (place : ℕ) → length fields ≤ place → ends_at fields place ≡ Ok tt
unfolding ends_at
ends_is fields place past = cond-true (nat_le (length fields) place) _ _ (le-leb (length fields) place past)

a_is : (fields : List Token) (address : List ℕ) → slice_get fields 0 ≡ Some (bare (ipv4_text address))
    → quad_of (ipv4_text address) ≡ Some address → ends_at fields 1 ≡ Ok tt → a_of fields ≡ Ok address
unfolding a_of quad_at bare_at
a_is fields address is read end = rw (is, read, end) refl

aaaa_is : (fields : List Token) (address : List ℕ)
    → slice_get fields 0 ≡ Some (bare (groups_text (segments_of address)))
    → address_of (groups_text (segments_of address)) ≡ Some address → ends_at fields 1 ≡ Ok tt
    → aaaa_of fields ≡ Ok address
unfolding aaaa_of address_at bare_at
aaaa_is fields address is read end = rw (is, read, end) refl

target_is : (origin : Labels) (fields : List Token) (labels : Labels) → name_at BadData origin fields 0 ≡ Ok labels
    → ends_at fields 1 ≡ Ok tt → target_of origin fields ≡ Ok labels
unfolding target_of
target_is origin fields labels name end = rw (name, end) refl

soa_is : (origin : Labels) (fields : List Token) (soa : Soa) → name_at BadData origin fields 0 ≡ Ok soa.mname
    → name_at BadData origin fields 1 ≡ Ok soa.rname → number_at 4_294_967_295 fields 2 ≡ Ok soa.serial
    → time_at fields 3 ≡ Ok soa.refresh → time_at fields 4 ≡ Ok soa.retry → time_at fields 5 ≡ Ok soa.expire
    → time_at fields 6 ≡ Ok soa.minimum → ends_at fields 7 ≡ Ok tt → soa_of origin fields ≡ Ok soa
unfolding soa_of
soa_is origin fields soa a b c d e f g end = rw (a, b, c, d, e, f, g, end) refl

mx_is : (origin : Labels) (fields : List Token) (preference : ℕ) (exchange : Labels)
    → number_at 65_535 fields 0 ≡ Ok preference → name_at BadData origin fields 1 ≡ Ok exchange
    → ends_at fields 2 ≡ Ok tt → mx_of origin fields ≡ Ok (content.Mx preference exchange)
unfolding mx_of
mx_is origin fields preference exchange a b end = rw (a, b, end) refl

srv_is : (origin : Labels) (fields : List Token) (priority weight port : ℕ) (target : Labels)
    → number_at 65_535 fields 0 ≡ Ok priority → number_at 65_535 fields 1 ≡ Ok weight
    → number_at 65_535 fields 2 ≡ Ok port
    → name_at BadData origin fields 3 ≡ Ok target → ends_at fields 4 ≡ Ok tt → srv_of origin fields ≡ Ok (content.Srv priority weight port target)
unfolding srv_of
srv_is origin fields priority weight port target a b c d end = rw (a, b, c, d, end) refl

naptr_is : (origin : Labels) (fields : List Token) (rule : Naptr) → number_at 65_535 fields 0 ≡ Ok rule.order
    → number_at 65_535 fields 1 ≡ Ok rule.preference → string_at fields 2 ≡ Ok rule.flags
    → string_at fields 3 ≡ Ok rule.services
    → string_at fields 4 ≡ Ok rule.regexp → name_at BadData origin fields 5 ≡ Ok rule.replacement → ends_at fields 6 ≡ Ok tt → naptr_of origin fields ≡ Ok rule
unfolding naptr_of
naptr_is origin fields rule a b c d e f end = rw (a, b, c, d, e, f, end) refl

strings_are : (texts : List (List ℕ)) → AllByRecursion IsText texts → strings_of (map between_quotes texts) ≡ Ok texts
unfolding strings_of
strings_are [] all = refl
strings_are (text ∷ texts) all =
    strings-step (between_quotes text) (map between_quotes texts) text (ap (λ o. ok_or o BadData) (string_of-quoted text all.0.bytes all.0.short))
    ∙ ap (λ r. r >>= λ strings. Ok (text ∷ strings)) (strings_are texts all.1)

txt_is : (texts : List (List ℕ)) → 0 < length texts → AllByRecursion IsText texts → txt_of (map between_quotes texts) ≡ Ok texts
unfolding txt_of
txt_is [] some all = absurd (omega arith)
txt_is (text ∷ texts) some all = strings_are (text ∷ texts) all

quad_is : (address : List ℕ) → (length address ≡ 4) × AreBytes address → quad_of (ipv4_text address) ≡ Some address
quad_is [] h = absurd (let size = h.0 in omega arith)
quad_is (a ∷ []) h = absurd (let size = h.0 in omega arith)
quad_is (a ∷ b ∷ []) h = absurd (let size = h.0 in omega arith)
quad_is (a ∷ b ∷ c ∷ []) h = absurd (let size = h.0 in omega arith)
quad_is (a ∷ b ∷ c ∷ d ∷ []) h = let l = h.1 in quad_back a b c d l.0 l.1.0 l.1.1.0 l.1.1.1.0
quad_is (a ∷ b ∷ c ∷ d ∷ e ∷ rest) h = absurd (let size = h.0 in omega arith)

-- the tokens of content stand for it
tokens-say : (c : Content) (origin : Labels) → IsContent c → HasLine c → IfSome (type_of c) (λ type. content_of type origin (tokens_in c) ≡ Ok c)
unfolding content_of
tokens-say (content.A address) origin h l = ap (λ r. r >>= λ a. Ok (content.A a)) (a_is _ address refl (quad_is address h) (ends_is _ 1 (omega arith)))
tokens-say (content.Ns server) origin h l =
    ap (λ r. r >>= λ a. Ok (content.Ns a))
    (target_is origin _ server (name_is origin _ 0 server refl h) (ends_is _ 1 (omega arith)))
tokens-say (content.Cname target) origin h l =
    ap (λ r. r >>= λ a. Ok (content.Cname a))
    (target_is origin _ target (name_is origin _ 0 target refl h) (ends_is _ 1 (omega arith)))
tokens-say (content.Soa soa) origin h l =
    let t = tokens_in (content.Soa soa) in
    let serial = h.serial in
    ap (λ r. r >>= λ a. Ok (content.Soa a))
    (soa_is origin t soa (name_is origin t 0 soa.mname refl h.mname) (name_is origin t 1 soa.rname refl h.rname)
    (number_is 4_294_967_295 t 2 soa.serial refl (omega arith) (omega arith))
    (time_is t 3 soa.refresh refl l.refresh) (time_is t 4 soa.retry refl l.retry)
    (time_is t 5 soa.expire refl l.expire) (time_is t 6 soa.minimum refl l.minimum) (ends_is t 7 (omega arith)))
tokens-say (content.Ptr name) origin h l =
    ap (λ r. r >>= λ a. Ok (content.Ptr a))
    (target_is origin _ name (name_is origin _ 0 name refl h) (ends_is _ 1 (omega arith)))
tokens-say (content.Mx preference exchange) origin h l =
    let t = tokens_in (content.Mx preference exchange) in
    let small = h.0 in
    mx_is origin t preference exchange (number_is 65_535 t 0 preference refl (omega arith) (omega arith))
    (name_is origin t 1 exchange refl h.1) (ends_is t 2 (omega arith))
tokens-say (content.Txt texts) origin h l = ap (λ r. r >>= λ a. Ok (content.Txt a)) (txt_is texts l h)
tokens-say (content.Aaaa address) origin h l =
    ap (λ r. r >>= λ a. Ok (content.Aaaa a))
    (aaaa_is _ address refl (address_back address h.0 h.1) (ends_is _ 1 (omega arith)))
tokens-say (content.Srv priority weight port target) origin h l =
    let t = tokens_in (content.Srv priority weight port target) in
    let one = h.0 in let two = h.1 in let three = h.2 in
    srv_is origin t priority weight port target (number_is 65_535 t 0 priority refl (omega arith) (omega arith))
    (number_is 65_535 t 1 weight refl (omega arith) (omega arith))
    (number_is 65_535 t 2 port refl (omega arith) (omega arith))
    (name_is origin t 3 target refl h.3) (ends_is t 4 (omega arith))
tokens-say (content.Naptr rule) origin h l =
    let t = tokens_in (content.Naptr rule) in
    let one = h.order in let two = h.preference in
    ap (λ r. r >>= λ a. Ok (content.Naptr a))
    (naptr_is origin t rule (number_is 65_535 t 0 rule.order refl (omega arith) (omega arith))
    (number_is 65_535 t 1 rule.preference refl (omega arith) (omega arith))
    (string_is t 2 rule.flags refl h.flags l.flags) (string_is t 3 rule.services refl h.services l.services)
    (string_is t 4 rule.regexp refl h.regexp l.regexp) (name_is origin t 5 rule.replacement refl h.replacement)
    (ends_is t 6 (omega arith)))
tokens-say (content.Opt options) origin h l = absurd l
tokens-say (content.Raw bytes) origin h l = absurd l

in_turn : (c : Content) (origin : Labels) (type : Option Kind) → tokens_of (fields_text c) ≡ Ok (tokens_in c)
    → IfSome type (λ t. content_of t origin (tokens_in c) ≡ Ok c)
    → IfSome type (λ t. (tokens_of (fields_text c) >>= content_of t origin) ≡ Ok c)
in_turn c origin None tokens say = tt
in_turn c origin (Some t) tokens say = ap (λ r. r >>= content_of t origin) tokens ∙ say

-- the fields of content are read again as the content
pub fields_again : FieldsAreReadAgain
fields_again c origin h l = in_turn c origin (type_of c) (ap tokens_of (fields-line c)
    ∙ tokens_of-line_of (tokens_in c) (reads_tokens c h l)) (tokens-say c origin h l)
