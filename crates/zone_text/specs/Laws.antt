-- Laws of written fields.
use Rattle.std.specs.Prelude.{◌≡◌, ◌<◌, ◌≤◌, length, Option, Some, None, IfSome, Ok, ⊤}
use Rattle.dns_name.specs.Name.{Labels}
use Rattle.naptr_rule.specs.declared.rule.Naptr.{Naptr}
use Rattle.dns_wire.specs.Ranges.{AreBytes, IsContent}
use Rattle.dns_wire.specs.declared.content.Soa.{Soa}
use Rattle.dns_wire.specs.declared.content.Content.{Content}
use Rattle.dns_wire.specs.declared.content.Content.TheVariants as content
use Rattle.zone_token.specs.Times.{most_seconds}
use Rattle.zone_token.specs.Tokens.{◌>>=◌, tokens_of}
use Rattle.zone_text.specs.Data.{content_of}
use Rattle.zone_text.specs.FieldsText.{fields_text}
use Rattle.zone_text.specs.declared.kind.Kind.{Kind}
use Rattle.zone_text.specs.declared.kind.Kind.TheVariants as kind

-- the type of content; bytes as they stand have none
abbrev pub type_of : Content → Option Kind
type_of (content.A address) = Some kind.A
type_of (content.Ns server) = Some kind.Ns
type_of (content.Cname target) = Some kind.Cname
type_of (content.Soa soa) = Some kind.Soa
type_of (content.Ptr name) = Some kind.Ptr
type_of (content.Mx preference exchange) = Some kind.Mx
type_of (content.Txt texts) = Some kind.Txt
type_of (content.Aaaa address) = Some kind.Aaaa
type_of (content.Srv priority weight port target) = Some kind.Srv
type_of (content.Naptr rule) = Some kind.Naptr
type_of (content.Opt options) = None
type_of (content.Raw bytes) = None

-- times that a zone text can say, each in seconds (RFC 2181, 8)
pub record HasTimes (soa : Soa) : Type 0 where
  pub refresh : soa.refresh ≤ most_seconds
  pub retry : soa.retry ≤ most_seconds
  pub expire : soa.expire ≤ most_seconds
  pub minimum : soa.minimum ≤ most_seconds

-- the texts of a rule are bytes
pub record HasByteTexts (rule : Naptr) : Type 0 where
  pub flags : AreBytes rule.flags
  pub services : AreBytes rule.services
  pub regexp : AreBytes rule.regexp

-- what a zone text asks of content beyond the ranges of its values: times that it can say, a text of TXT, and one of its ten types
abbrev pub HasLine : Content → Type 0
HasLine (content.A address) = ⊤
HasLine (content.Ns server) = ⊤
HasLine (content.Cname target) = ⊤
HasLine (content.Soa soa) = HasTimes soa
HasLine (content.Ptr name) = ⊤
HasLine (content.Mx preference exchange) = ⊤
HasLine (content.Txt texts) = 0 < length texts
HasLine (content.Aaaa address) = ⊤
HasLine (content.Srv priority weight port target) = ⊤
HasLine (content.Naptr rule) = HasByteTexts rule
HasLine (content.Opt options) = ⊥
HasLine (content.Raw bytes) = ⊥

-- the tokens of written fields stand for the content, under every origin
abbrev pub FieldsAreReadAgain : Type 0
FieldsAreReadAgain =
    (c : Content) (origin : Labels) → IsContent c → HasLine c → IfSome (type_of c) (λ type. (tokens_of (fields_text c) >>= content_of type origin) ≡ Ok c)
