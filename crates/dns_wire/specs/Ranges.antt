-- The ranges that the types of a message keep (RFC 1035, sections 3.2.1, 3.3 and 4.1).
use Rattle.std.specs.Prelude.{◌≡◌, ℕ, ◌<◌, ◌≤◌, ◌^◌, List, length}
use Rattle.std.specs.List.{AllByRecursion}
pub use Rattle.enum_base.specs.Texts.{AreBytes, IsText}
use Rattle.dns_name.specs.Name.{IsName}
use Rattle.naptr_rule.specs.Rdata.{IsRule}
use Rattle.dns_wire.specs.declared.content.Soa.{Soa}
use Rattle.dns_wire.specs.declared.content.Content.{Content}
use Rattle.dns_wire.specs.declared.content.Content.TheVariants as content
use Rattle.dns_wire.specs.declared.question.Question.{Question}
use Rattle.dns_wire.specs.declared.record.Record.{Record}
use Rattle.dns_wire.specs.declared.message.Header.{Header}
use Rattle.dns_wire.specs.declared.message.Message.{Message}

-- a number of 16 bits, and one of 32
abbrev pub IsU16 : ℕ → Type 0
IsU16 number = number < 2 ^ 16

abbrev pub IsU32 : ℕ → Type 0
IsU32 number = number < 2 ^ 32

-- two names and five numbers of 32 bits
pub record IsSoa (soa : Soa) : Type 0 where
  pub mname : IsName soa.mname
  pub rname : IsName soa.rname
  pub serial : IsU32 soa.serial
  pub refresh : IsU32 soa.refresh
  pub retry : IsU32 soa.retry
  pub expire : IsU32 soa.expire
  pub minimum : IsU32 soa.minimum

-- the values of content are in their ranges
abbrev pub IsContent : Content → Type 0
IsContent (content.A address) = (length address ≡ 4) × AreBytes address
IsContent (content.Ns server) = IsName server
IsContent (content.Cname target) = IsName target
IsContent (content.Soa fields) = IsSoa fields
IsContent (content.Ptr name) = IsName name
IsContent (content.Mx preference exchange) = IsU16 preference × IsName exchange
IsContent (content.Txt texts) = AllByRecursion IsText texts
IsContent (content.Aaaa address) = (length address ≡ 16) × AreBytes address
IsContent (content.Srv priority weight port target) = IsU16 priority × IsU16 weight × IsU16 port × IsName target
IsContent (content.Naptr rule) = IsRule rule
IsContent (content.Opt options) = AreBytes options
IsContent (content.Raw bytes) = AreBytes bytes

-- the values of a question, a record and a header are in their ranges
pub record IsQuestion (question : Question) : Type 0 where
  pub name : IsName question.name
  pub kind : IsU16 question.kind
  pub class : IsU16 question.class

pub record IsRecord (one : Record) : Type 0 where
  pub owner : IsName one.owner
  pub kind : IsU16 one.kind
  pub class : IsU16 one.class
  pub ttl : IsU32 one.ttl
  pub content : IsContent one.content

pub record IsHeader (header : Header) : Type 0 where
  pub id : IsU16 header.id
  pub bits : IsU16 header.bits

-- the values of a message are in their ranges; that its lists can be counted its type keeps
pub record IsMessage (message : Message) : Type 0 where
  pub header : IsHeader message.header
  pub questions : AllByRecursion IsQuestion message.questions
  pub answers : AllByRecursion IsRecord message.answers
  pub authority : AllByRecursion IsRecord message.authority
  pub additional : AllByRecursion IsRecord message.additional
