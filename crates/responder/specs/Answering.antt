-- How replies are told by calls (this project's own).
use Rattle.std.specs.Prelude.{◌≡◌, ℕ, List, ◌++◌, Bool, Option, Some, None}
use Rattle.dns_wire.specs.declared.message.Header.{Header}
use Rattle.dns_wire.specs.declared.record.Record.{Record}
use Rattle.zone_build.specs.Zone.{Zone}
use Rattle.zone_db.specs.Bits.{tc_of, header_of}
use Rattle.zone_db.specs.Replies.{IsReply, IsSpoken, IsSent, IsPosted}
use Rattle.zone_db.specs.declared.draft.Draft.{Draft}
use Rattle.zone_db.specs.declared.way.Way.{Way}
use Rattle.zone_db.specs.declared.way.Way.TheVariants.{Stream}
use Rattle.responder.specs.declared.reply.Answered.{Answered}
use Rattle.responder.specs.declared.reply.Answered.TheVariants.{Reply, Silent}

-- a reply on a stream is not cut short
abbrev pub IsWhole : Way → List ℕ → Type 0
IsWhole way reply = way ≡ Stream → tc_of (header_of reply).bits ≡ 0

-- the reply was appended
pub record AppendsReply (zones : List Zone) (query : List ℕ) (way : Way) (old new : List ℕ) : Type 0 where
  pub reply : List ℕ
  pub is : IsReply zones query way (Some reply)
  pub whole : IsWhole way reply
  pub appended : new ≡ old ++ reply

-- the reply was appended, or there is none and nothing was
abbrev pub Answers : List Zone → List ℕ → Way → List ℕ → List ℕ → Answered → Type 0
Answers zones query way old new Silent = IsReply zones query way None × (new ≡ old)
Answers zones query way old new Reply = AppendsReply zones query way old new

-- a query that is one was answered so
pub record Speaks (zones : List Zone) (query : List ℕ) (way : Way) (old new : List ℕ) : Type 0 where
  pub reply : List ℕ
  pub is : IsSpoken zones query way reply
  pub whole : IsWhole way reply
  pub appended : new ≡ old ++ reply

-- what is said was appended, as much of it as may be
pub record Sends (limit : ℕ) (query : Header) (options : Option Record) (draft : Draft) (old new : List ℕ) : Type 0 where
  pub bytes : List ℕ
  pub sent : IsSent limit query options draft bytes
  pub appended : new ≡ old ++ bytes

-- .. all of it, told as whole or as cut short
pub record Posts (query : Header) (options : Option Record) (short : Bool) (draft : Draft) (old new : List ℕ) : Type 0 where
  pub bytes : List ℕ
  pub posted : IsPosted query options short draft bytes
  pub appended : new ≡ old ++ bytes
