-- What a link to a server tells (this project's own). What is not told is `None`.
use Rattle.std.specs.Prelude.{◌≡◌, ℕ, ◌+◌, ◌-◌, min, List, Option, Some, None, Result, Ok, Err, IsErr, OnOk}
use Rattle.enum_base.specs.Causes.{one_more}
use Rattle.enum_base.specs.Outside.{WhereTold}
use Rattle.zone_build.specs.Zone.{Zone}
use Rattle.zone_db.specs.Bits.{tc_of, header_of}
use Rattle.zone_db.specs.Replies.{IsReply}
use Rattle.zone_db.specs.Sets.{AreZones}
use Rattle.zone_db.specs.declared.way.Way.{Way}
use Rattle.zone_db.specs.declared.way.Way.TheVariants.{Stream}

-- what a link tells: the zones of the server, which need not be told; how many exchanges were begun; the way and the bytes of the last
-- query; how many exchanges failed since the last one that did not, 3 where there are more; the reply that is held; and how many
-- calls failed
pub record LinkState : Type 0 where
  pub zones : Option (List Zone)
  pub exchanges : ℕ
  pub way : Way
  pub query : List ℕ
  pub recent : ℕ
  pub held : List ℕ
  pub faults : ℕ

-- how many failed since the last one that did not, after one more exchange
abbrev pub recent_after : {A E : Type 0} → ℕ → Result A E → ℕ
recent_after recent (Ok done) = 0
recent_after recent (Err fault) = min 3 (recent + 1)

-- a link was aimed: nothing but its count of faults can have changed
abbrev pub IsAimed : LinkState → LinkState → Type 0
IsAimed old new = new ≡ record old { faults = new.faults }

-- zones that are told are a set of zones
abbrev pub TellsSet : LinkState → Type 0
TellsSet state = WhereTold state.zones AreZones

-- one more exchange was begun with this query
pub record Exchanges {A E : Type 0} (old new : LinkState) (went : Way) (asked : List ℕ) (result : Result A E) : Type 0 where
  pub told : new.zones ≡ old.zones
  pub counted : new.exchanges ≡ one_more old.exchanges
  pub way : new.way ≡ went
  pub query : new.query ≡ asked
  pub recent : new.recent ≡ recent_after old.recent result
  -- the reply is that of the zones, where they are told, and whole on a stream; a query to which nothing is said fails
  pub replied : OnOk result (WhereTold old.zones (λ zones. IsReply zones asked went (Some new.held)))
  pub whole : OnOk result (WhereTold old.zones (λ zones. went ≡ Stream → tc_of (header_of new.held).bits ≡ 0))
  pub silent : WhereTold old.zones (λ zones. IsReply zones asked went None → IsErr result)

-- how many exchanges failed last among those of a call
abbrev pub late_failures : LinkState → LinkState → ℕ
late_failures old new = min new.recent (new.exchanges - old.exchanges)

-- what is kept of exchanges
pub record Kept : Type 0 where
  pub exchanges : ℕ
  pub way : Way
  pub query : List ℕ
  pub recent : ℕ
