-- A link to zones in memory, which fails at listed calls (this project's own).
use Rattle.std.specs.Prelude.{◌≡◌, ◌⊎◌, ℕ, List, Contains, Some, None, Result, IsErr, OnOk, OnErr}
use Rattle.enum_base.specs.Causes.{HasCause, one_more}
use Rattle.zone_build.specs.Zone.{Zone}
use Rattle.zone_db.specs.Links.{Kept, LinkState}
use Rattle.zone_db.specs.Replies.{IsReply}
use Rattle.zone_db.specs.declared.way.Way.{Way}
use Rattle.responder.specs.Answering.{IsWhole}

-- the zones, the numbers of the calls that fail, what is kept of exchanges, the reply that is held, how many calls failed, and how
-- many of these failed out of memory
pub record MemoryLink : Type 0 where
  pub zones : List Zone
  pub failing : List ℕ
  pub kept : Kept
  pub held : List ℕ
  pub faults : ℕ
  pub short : ℕ

-- what is told of it as of every link
abbrev pub link_state : MemoryLink → LinkState
link_state link = record {
  zones = Some link.zones;
  exchanges = link.kept.exchanges;
  way = link.kept.way;
  query = link.kept.query;
  recent = link.kept.recent;
  held = link.held;
  faults = link.faults;
}

-- an exchange fails at the listed calls, where nothing is said to the query, and where memory ran out, which alone is counted
pub record FailsListed {E : Type 0} (old new : MemoryLink) (way : Way) (query : List ℕ) (result : Result Unit E) : Type 0 where
  pub listed : Contains old.failing (one_more old.kept.exchanges) → IsErr result × (new.short ≡ old.short)
  pub silent : IsReply old.zones query way None → IsErr result × (new.short ≡ old.short)
  pub err : OnErr result
      (Contains old.failing (one_more old.kept.exchanges) ⊎ (IsReply old.zones query way None ⊎ (new.short ≡ one_more old.short)))
  pub ok : OnOk result (new.short ≡ old.short)
  pub raised : OnErr result (new.faults ≡ one_more old.faults)
  pub failing : new.failing ≡ old.failing
  pub zones : new.zones ≡ old.zones

-- the reply to the query of an exchange that was begun is held, or it failed
pub record Replies {E : Type 0} (old new : MemoryLink) (way : Way) (query : List ℕ) (result : Result Unit E) : Type 0 where
  pub zones : new.zones ≡ old.zones
  pub failing : new.failing ≡ old.failing
  pub kept : new.kept ≡ old.kept
  pub held : OnOk result (IsReply old.zones query way (Some new.held) × IsWhole way new.held)
  pub listed : Contains old.failing old.kept.exchanges → IsErr result × (new.short ≡ old.short)
  pub silent : IsReply old.zones query way None → IsErr result × (new.short ≡ old.short)
  pub err : OnErr result (Contains old.failing old.kept.exchanges ⊎ (IsReply old.zones query way None ⊎ (new.short ≡ one_more old.short)))
  pub ok : OnOk result (new.short ≡ old.short)
  pub cause : HasCause old.faults new.faults result
  pub raised : OnErr result (new.faults ≡ one_more old.faults)
