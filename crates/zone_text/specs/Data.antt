-- The data of the ten types (RFC 1035, section 3.3; RFC 3596, 2782, 3403).
use Rattle.std.specs.Prelude.{ℕ, List, [], ◌∷◌, slice_get, if◌then◌else◌, codes, Option, Some, None, option_and_then, Result, Ok, Err}
use Rattle.std.specs.Option.{ok_or}
use Rattle.std.specs.Result.{result_ok}
use Rattle.enum_base.specs.Decimal.{number_up_to}
use Rattle.dns_name.specs.Name.{Labels}
use Rattle.naptr_rule.specs.declared.rule.Naptr.{Naptr}
use Rattle.dns_wire.specs.declared.content.Soa.{Soa}
use Rattle.dns_wire.specs.declared.content.Content.{Content}
use Rattle.dns_wire.specs.declared.content.Content.TheVariants as content
use Rattle.zone_token.specs.Token.{Token}
use Rattle.zone_token.specs.Tokens.{◌>>=◌}
use Rattle.zone_token.specs.Texts.{string_of}
use Rattle.zone_token.specs.Times.{time_of}
use Rattle.zone_token.specs.Addresses.{quad_of, address_of}
use Rattle.zone_token.specs.Fields.{is_word, name_at, bare_at, ends_at}
use Rattle.zone_text.specs.declared.kind.Kind.{Kind}
use Rattle.zone_text.specs.declared.kind.Kind.TheVariants as kind
use Rattle.zone_token.specs.declared.fault.TextWhy.{TextWhy}
use Rattle.zone_token.specs.declared.fault.TextWhy.TheVariants.{BadData}

-- the type of a word, in any case
unfoldable pub kind_of_text : List ℕ → Option Kind
kind_of_text text =
    if is_word text (codes "A") then Some kind.A
    else if is_word text (codes "NS") then Some kind.Ns
    else if is_word text (codes "CNAME") then Some kind.Cname
    else if is_word text (codes "SOA") then Some kind.Soa
    else if is_word text (codes "PTR") then Some kind.Ptr
    else if is_word text (codes "MX") then Some kind.Mx
    else if is_word text (codes "TXT") then Some kind.Txt
    else if is_word text (codes "AAAA") then Some kind.Aaaa
    else if is_word text (codes "SRV") then Some kind.Srv
    else if is_word text (codes "NAPTR") then Some kind.Naptr
    else None

-- the decimal number of at most so much at a place
unfoldable pub number_at : ℕ → List Token → ℕ → Result ℕ TextWhy
number_at most fields place =
    ok_or (option_and_then (λ text. result_ok (number_up_to most text)) (bare_at fields place)) BadData

-- the time at a place
unfoldable pub time_at : List Token → ℕ → Result ℕ TextWhy
time_at fields place = ok_or (option_and_then time_of (bare_at fields place)) BadData

-- the dotted quad at a place
unfoldable pub quad_at : List Token → ℕ → Result (List ℕ) TextWhy
quad_at fields place = ok_or (option_and_then quad_of (bare_at fields place)) BadData

-- the address of sixteen bytes at a place
unfoldable pub address_at : List Token → ℕ → Result (List ℕ) TextWhy
address_at fields place = ok_or (option_and_then address_of (bare_at fields place)) BadData

-- the character-string of a token, quoted or bare
abbrev pub string_in : Option Token → Option (List ℕ)
string_in None = None
string_in (Some token) = string_of token.text

-- the character-string at a place
unfoldable pub string_at : List Token → ℕ → Result (List ℕ) TextWhy
string_at fields place = ok_or (string_in (slice_get fields place)) BadData

-- one name
unfoldable pub target_of : Labels → List Token → Result Labels TextWhy
target_of origin fields = do
  target ← name_at BadData origin fields 0
  end ← ends_at fields 1
  Ok target

-- an IPv4 address
unfoldable pub a_of : List Token → Result (List ℕ) TextWhy
a_of fields = do
  address ← quad_at fields 0
  end ← ends_at fields 1
  Ok address

-- an IPv6 address
unfoldable pub aaaa_of : List Token → Result (List ℕ) TextWhy
aaaa_of fields = do
  address ← address_at fields 0
  end ← ends_at fields 1
  Ok address

-- two names, the serial, and four times
unfoldable pub soa_of : Labels → List Token → Result Soa TextWhy
soa_of origin fields = do
  mname ← name_at BadData origin fields 0
  rname ← name_at BadData origin fields 1
  serial ← number_at 4_294_967_295 fields 2
  refresh ← time_at fields 3
  retry ← time_at fields 4
  expire ← time_at fields 5
  minimum ← time_at fields 6
  end ← ends_at fields 7
  Ok (record { mname = mname; rname = rname; serial = serial; refresh = refresh; retry = retry; expire = expire; minimum = minimum })

-- a preference and an exchange
unfoldable pub mx_of : Labels → List Token → Result Content TextWhy
mx_of origin fields = do
  preference ← number_at 65_535 fields 0
  exchange ← name_at BadData origin fields 1
  end ← ends_at fields 2
  Ok (content.Mx preference exchange)

-- the character-strings of all tokens
unfoldable pub strings_of : List Token → Result (List (List ℕ)) TextWhy
strings_of [] = Ok []
strings_of (token ∷ tokens) = do
  string ← ok_or (string_of token.text) BadData
  strings ← strings_of tokens
  Ok (string ∷ strings)

-- one or more character-strings
unfoldable pub txt_of : List Token → Result (List (List ℕ)) TextWhy
txt_of [] = Err BadData
txt_of (token ∷ tokens) = strings_of (token ∷ tokens)

-- a priority, a weight, a port and a target
unfoldable pub srv_of : Labels → List Token → Result Content TextWhy
srv_of origin fields = do
  priority ← number_at 65_535 fields 0
  weight ← number_at 65_535 fields 1
  port ← number_at 65_535 fields 2
  target ← name_at BadData origin fields 3
  end ← ends_at fields 4
  Ok (content.Srv priority weight port target)

-- the six fields of a rule
unfoldable pub naptr_of : Labels → List Token → Result Naptr TextWhy
naptr_of origin fields = do
  order ← number_at 65_535 fields 0
  preference ← number_at 65_535 fields 1
  flags ← string_at fields 2
  services ← string_at fields 3
  regexp ← string_at fields 4
  replacement ← name_at BadData origin fields 5
  end ← ends_at fields 6
  Ok (record { order = order; preference = preference; flags = flags; services = services; regexp = regexp; replacement = replacement })

-- a rule as the content of a record
abbrev pub rule_of : Labels → List Token → Result Content TextWhy
rule_of origin fields = naptr_of origin fields >>= λ rule. Ok (content.Naptr rule)

-- the content of these data
unfoldable pub content_of : Kind → Labels → List Token → Result Content TextWhy
content_of kind.A origin fields = a_of fields >>= λ address. Ok (content.A address)
content_of kind.Ns origin fields = target_of origin fields >>= λ server. Ok (content.Ns server)
content_of kind.Cname origin fields = target_of origin fields >>= λ target. Ok (content.Cname target)
content_of kind.Soa origin fields = soa_of origin fields >>= λ soa. Ok (content.Soa soa)
content_of kind.Ptr origin fields = target_of origin fields >>= λ name. Ok (content.Ptr name)
content_of kind.Mx origin fields = mx_of origin fields
content_of kind.Txt origin fields = txt_of fields >>= λ texts. Ok (content.Txt texts)
content_of kind.Aaaa origin fields = aaaa_of fields >>= λ address. Ok (content.Aaaa address)
content_of kind.Srv origin fields = srv_of origin fields
content_of kind.Naptr origin fields = naptr_of origin fields >>= λ rule. Ok (content.Naptr rule)
