-- What one entry means (RFC 1035, section 5.1; RFC 2308, section 4, of `$TTL`).
use Rattle.std.specs.Prelude.{ℕ, ◌+◌, List, [], ◌∷◌, drop, take, Bool, true, false, ◌&&◌, not, ◌==◌, if◌then◌else◌}
use Rattle.std.specs.Prelude.{bytes_eq, codes, is_some, unwrap_or, option_and_then, ◌||◌, Option, Some, None, Result}
use Rattle.std.specs.Prelude.{Ok, Err}
use Rattle.std.specs.Char.{is_ascii_digit}
use Rattle.std.specs.Option.{ok_or, option_or}
use Rattle.dns_name.specs.Name.{Labels}
use Rattle.dns_wire.specs.declared.content.Content.{Content}
use Rattle.dns_wire.specs.declared.content.Content.TheVariants as content
use Rattle.dns_wire.specs.Kinds.{is_whole}
use Rattle.zone_token.specs.Bytes.{dollar, is_blank}
use Rattle.zone_token.specs.Token.{Token}
use Rattle.zone_token.specs.Tokens.{◌>>=◌, tokens_of}
use Rattle.zone_token.specs.Times.{time_of}
use Rattle.zone_token.specs.Fields.{is_word, name_at, bare_at, ends_at}
use Rattle.zone_text.specs.Data.{kind_of_text, content_of}
use Rattle.zone_text.specs.declared.kind.Kind.{Kind}
use Rattle.zone_text.specs.declared.kind.Kind.TheVariants as kind
use Rattle.zone_text.specs.declared.head.Head.{Head}
use Rattle.zone_text.specs.declared.meaning.Standing.{Standing}
use Rattle.zone_text.specs.declared.meaning.Statement.{Statement}
use Rattle.zone_text.specs.declared.meaning.Meaning.{Meaning}
use Rattle.zone_text.specs.declared.meaning.Meaning.TheVariants.{Nothing, Origin, DefaultTtl, Record}
use Rattle.zone_token.specs.declared.fault.TextWhy.{TextWhy}
use Rattle.zone_token.specs.declared.fault.TextWhy.TheVariants.{BadName, BadTtl, NoTtl, UnknownType, UnknownDirective, NoOwner, WrongClass}

-- a byte stands at the front of a text
abbrev pub begins_with : ℕ → List ℕ → Bool
begins_with byte [] = false
begins_with byte (first ∷ rest) = first == byte

-- a digit stands at the front of a text
abbrev pub begins_digit : List ℕ → Bool
begins_digit [] = false
begins_digit (first ∷ rest) = is_ascii_digit first

-- one, where it holds
abbrev pub counted : Bool → ℕ
counted holds = if holds then 1 else 0

-- the TTL of a bare token that begins with a digit
abbrev pub ttl_in : Option (List ℕ) → Result (Option ℕ) TextWhy
ttl_in None = Ok None
ttl_in (Some text) = if begins_digit text then (ok_or (time_of text) BadTtl >>= λ ttl. Ok (Some ttl)) else Ok None

-- the TTL at a place, where one stands there
unfoldable pub ttl_at : List Token → ℕ → Result (Option ℕ) TextWhy
ttl_at tokens place = ttl_in (bare_at tokens place)

-- a word is a class other than IN: CH, HS, CS, or one that begins with CLASS
unfoldable pub is_other_class : List ℕ → Bool
is_other_class text =
    is_word text (codes "CH") || is_word text (codes "HS") || is_word text (codes "CS") || is_word (take 5 text) (codes "CLASS")

-- whether a bare token is the class
abbrev pub class_in : Option (List ℕ) → Result Bool TextWhy
class_in None = Ok false
class_in (Some text) =
    if is_word text (codes "IN") then Ok true else if is_other_class text then Err WrongClass else Ok false

-- whether the class stands at a place
unfoldable pub class_at : List Token → ℕ → Result Bool TextWhy
class_at tokens place = class_in (bare_at tokens place)

-- the TTL at a place, unless one was stated before
unfoldable pub ttl_unless : Option ℕ → List Token → ℕ → Result (Option ℕ) TextWhy
ttl_unless (Some stated) tokens place = Ok None
ttl_unless None tokens place = ttl_at tokens place

-- TTL and class from a place on, each optional, in either order: the TTL, and the place after them
unfoldable pub head_at : List Token → ℕ → Result Head TextWhy
head_at tokens place = do
  before ← ttl_at tokens place
  class ← class_at tokens (place + counted (is_some before))
  after ← ttl_unless before tokens (place + counted (is_some before) + counted class)
  Ok (record { ttl = option_or before after; place = place + counted (is_some before) + counted class + counted (is_some after) })

-- the type of a bare token
abbrev pub kind_in : Option (List ℕ) → Option Kind
kind_in None = None
kind_in (Some text) = kind_of_text text

-- the type at a place
unfoldable pub kind_at : List Token → ℕ → Result Kind TextWhy
kind_at tokens place = ok_or (kind_in (bare_at tokens place)) UnknownType

-- the TTL of a record: the stated one, else that of the last $TTL, else that of the record before; an SOA may have none
abbrev pub known_ttl : Standing → Option ℕ → Option ℕ
known_ttl standing stated = option_or (option_or stated standing.default_ttl) standing.last_ttl

-- a TTL may be wanting for this type
abbrev pub needs_no_ttl : Kind → Bool
needs_no_ttl kind.Soa = true
needs_no_ttl kind.A = false
needs_no_ttl kind.Ns = false
needs_no_ttl kind.Cname = false
needs_no_ttl kind.Ptr = false
needs_no_ttl kind.Mx = false
needs_no_ttl kind.Txt = false
needs_no_ttl kind.Aaaa = false
needs_no_ttl kind.Srv = false
needs_no_ttl kind.Naptr = false

unfoldable pub ttl_for : Standing → Option ℕ → Kind → Result (Option ℕ) TextWhy
ttl_for standing stated of =
    if is_some (known_ttl standing stated) || needs_no_ttl of then Ok (known_ttl standing stated) else Err NoTtl

-- the TTL that an SOA takes where it has none: its minimum
abbrev pub minimum_of : Content → ℕ
minimum_of (content.Soa soa) = soa.minimum
minimum_of (content.A address) = 0
minimum_of (content.Ns server) = 0
minimum_of (content.Cname target) = 0
minimum_of (content.Ptr name) = 0
minimum_of (content.Mx preference exchange) = 0
minimum_of (content.Txt texts) = 0
minimum_of (content.Aaaa address) = 0
minimum_of (content.Srv priority weight port target) = 0
minimum_of (content.Naptr rule) = 0
minimum_of (content.Opt options) = 0
minimum_of (content.Raw bytes) = 0

-- a record of this owner, whose TTL, class, type and data stand from a place on
unfoldable pub statement_of : Standing → Labels → List Token → ℕ → Result Statement TextWhy
statement_of standing owner tokens place = do
  head ← head_at tokens place
  of ← kind_at tokens head.place
  ttl ← ttl_for standing head.ttl of
  said ← content_of of standing.origin (drop (head.place + 1) tokens)
  Ok (record { owner = owner; ttl = unwrap_or ttl (minimum_of said); content = said })

-- an entry that states a record
abbrev pub stated : Result Statement TextWhy → Result Meaning TextWhy
stated record_read = record_read >>= λ said. Ok (Record said)

-- a record whose owner stands first, or is that of the record before
unfoldable pub record_of : Standing → Bool → List Token → Result Statement TextWhy
record_of standing true tokens = ok_or standing.owner NoOwner >>= λ owner. statement_of standing owner tokens 0
record_of standing false tokens = name_at BadName standing.origin tokens 0 >>= λ owner. statement_of standing owner tokens 1

-- a directive: $ORIGIN and a name, or $TTL and a time
unfoldable pub origin_of : Labels → List Token → Result Labels TextWhy
origin_of origin tokens = do
  name ← name_at BadName origin tokens 1
  end ← ends_at tokens 2
  Ok name

unfoldable pub default_ttl_of : List Token → Result ℕ TextWhy
default_ttl_of tokens = do
  ttl ← ok_or (option_and_then time_of (bare_at tokens 1)) BadTtl
  end ← ends_at tokens 2
  Ok ttl

unfoldable pub directive_of : Labels → List ℕ → List Token → Result Meaning TextWhy
directive_of origin word tokens =
    if bytes_eq word (codes "$ORIGIN") then (origin_of origin tokens >>= λ name. Ok (Origin name))
    else if bytes_eq word (codes "$TTL") then (default_ttl_of tokens >>= λ ttl. Ok (DefaultTtl ttl))
    else Err UnknownDirective

-- a directive begins an entry, not after a blank
abbrev pub is_directive : Bool → Token → Bool
is_directive blank token = not blank && not token.quoted && begins_with dollar token.text

-- what tokens mean, after a blank at the beginning of the entry or not
unfoldable pub meaning_of : Standing → Bool → List Token → Result Meaning TextWhy
meaning_of standing blank [] = Ok Nothing
meaning_of standing blank (token ∷ tokens) =
    if is_directive blank token then directive_of standing.origin token.text (token ∷ tokens)
    else (record_of standing blank (token ∷ tokens) >>= λ said. Ok (Record said))

-- what an entry means, or its first fault
unfoldable pub entry_of : Standing → List ℕ → Result Meaning TextWhy
entry_of standing entry = tokens_of entry >>= λ tokens. meaning_of standing (is_blank entry) tokens

-- the content of a record is whole
abbrev pub is_whole_meaning : Meaning → Bool
is_whole_meaning Nothing = true
is_whole_meaning (Origin name) = true
is_whole_meaning (DefaultTtl ttl) = true
is_whole_meaning (Record said) = is_whole said.content
