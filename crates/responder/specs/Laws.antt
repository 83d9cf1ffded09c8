-- Laws of replies (this project's own).
use Rattle.std.specs.Prelude.{◌≡◌, ℕ, List, Option, Some, Contains}
use Rattle.std.specs.List.{AllByRecursion}
use Rattle.dns_name.specs.Name.{IsByte}
use Rattle.naptr_data.specs.Zones.{Labels}
use Rattle.dns_wire.specs.Ranges.{IsRecord}
use Rattle.dns_wire.specs.declared.record.Record.{Record}
use Rattle.zone_build.specs.Zone.{Zone}
use Rattle.zone_db.specs.Bits.{tc_of, header_of}
use Rattle.zone_db.specs.LookUp.{IsFound}
use Rattle.zone_db.specs.Replies.{IsReply}
use Rattle.zone_db.specs.Sets.{AreZones}
use Rattle.zone_db.specs.declared.found.Found.{Found}
use Rattle.zone_db.specs.declared.way.Way.{Way}
use Rattle.zone_db.specs.declared.way.Way.TheVariants.{Stream}
use Rattle.responder.specs.Ready.{IsReady}

-- what is found in zones is ready to be said
abbrev pub FoundIsReady : Type 0
FoundIsReady = (zones : List Zone) (name : Labels) (kind : ℕ) (found : Found) → AreZones zones → IsFound zones name kind found → IsReady found

-- zones have one reply to a query
abbrev pub ZonesHaveOneReply : Type 0
ZonesHaveOneReply =
    (zones : List Zone) (query : List ℕ) (way : Way) (one other : Option (List ℕ)) → AreZones zones
    → IsReply zones query way one → IsReply zones query way other → one ≡ other

-- the values of the records of zones are in their ranges
abbrev pub AreInRange : List Zone → Type 0
AreInRange zones = (zone : Zone) (one : Record) → Contains zones zone → Contains zone.records one → IsRecord one

-- no reply on a stream is cut short: nine aliases and a set, which has its bound, fit 65,535 bytes (RFC 2181, 9)
abbrev pub StreamsAreWhole : Type 0
StreamsAreWhole =
    (zones : List Zone) (query reply : List ℕ) → AreZones zones → AreInRange zones → IsReply zones query Stream (Some reply)
    → tc_of (header_of reply).bits ≡ 0

-- each query has a reply, or nothing is said to it
abbrev pub EachQueryHasAReply : Type 0
EachQueryHasAReply =
    (zones : List Zone) (query : List ℕ) (way : Way) → AreZones zones → AreInRange zones → AllByRecursion IsByte query
    → (reply : Option (List ℕ)) × IsReply zones query way reply
