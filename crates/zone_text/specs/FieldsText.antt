-- The fields of a record as its line in a zone text has them (RFC 1035, section 5.1; that each has one form is this project's own).
use Rattle.std.specs.Prelude.{ℕ, List, [], ◌∷◌, ◌++◌, codes, decimal}
use Rattle.std.specs.List.{flat_map}
use Rattle.std.specs.Net.Addr.{segments_of}
use Rattle.std.specs.Net.Text.{ipv4_text, groups_text}
use Rattle.dns_name.specs.Text.{text_of}
use Rattle.naptr_rule.specs.Text.{rule_text}
use Rattle.rdata_field.specs.Strings.{quoted}
use Rattle.dns_wire.specs.declared.content.Soa.{Soa}
use Rattle.dns_wire.specs.declared.content.Content.{Content}
use Rattle.dns_wire.specs.declared.content.Content.TheVariants as content

-- two names, the serial, and four times in seconds (RFC 1035, 3.3.13)
abbrev pub soa_text : Soa → List ℕ
soa_text soa =
    text_of soa.mname ++ codes " " ++ text_of soa.rname ++ codes " " ++ decimal soa.serial ++ codes " "
    ++ decimal soa.refresh ++ codes " " ++ decimal soa.retry ++ codes " " ++ decimal soa.expire ++ codes " "
    ++ decimal soa.minimum

-- a preference and an exchange (RFC 1035, 3.3.9)
abbrev pub mx_text : ℕ → List (List ℕ) → List ℕ
mx_text preference exchange = decimal preference ++ codes " " ++ text_of exchange

-- a priority, a weight, a port and a target (RFC 2782)
abbrev pub srv_text : ℕ → ℕ → ℕ → List (List ℕ) → List ℕ
srv_text priority weight port target =
    decimal priority ++ codes " " ++ decimal weight ++ codes " " ++ decimal port ++ codes " " ++ text_of target

-- character-strings, each in quotes (RFC 1035, 3.3.14)
abbrev pub strings_text : List (List ℕ) → List ℕ
strings_text [] = []
strings_text (first ∷ rest) = quoted first ++ flat_map (λ string. codes " " ++ quoted string) rest

-- an address of sixteen bytes: eight groups in small hexadecimal digits without leading zeros (RFC 4291, 2.2, form 1)
abbrev pub aaaa_text : List ℕ → List ℕ
aaaa_text address = groups_text (segments_of address)

-- the fields of content, with one space between them; bytes as they stand have none
abbrev pub fields_text : Content → List ℕ
fields_text (content.A address) = ipv4_text address
fields_text (content.Ns server) = text_of server
fields_text (content.Cname target) = text_of target
fields_text (content.Soa soa) = soa_text soa
fields_text (content.Ptr name) = text_of name
fields_text (content.Mx preference exchange) = mx_text preference exchange
fields_text (content.Txt texts) = strings_text texts
fields_text (content.Aaaa address) = aaaa_text address
fields_text (content.Srv priority weight port target) = srv_text priority weight port target
fields_text (content.Naptr naptr) = rule_text naptr
fields_text (content.Opt options) = []
fields_text (content.Raw bytes) = []
