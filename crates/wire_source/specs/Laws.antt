-- Laws of the reading of replies (this project's own).
use Rattle.std.specs.Prelude.{◌≡◌, ℕ, ◌<◌, ◌^◌, List, Some, ⊤}
use Rattle.dns_name.specs.Name.{IsName}
use Rattle.naptr_data.specs.Zones.{Labels, IsOffer}
use Rattle.zone_build.specs.Plain.{told}
use Rattle.zone_build.specs.Zone.{Zone}
use Rattle.zone_db.specs.Bits.{header_of, tc_of}
use Rattle.zone_db.specs.Replies.{IsReply}
use Rattle.zone_db.specs.Sets.{AreZones}
use Rattle.zone_db.specs.declared.way.Way.{Way}
use Rattle.zone_db.specs.declared.way.Way.TheVariants.{Stream}
use Rattle.wire_source.specs.Queries.{query_bytes}
use Rattle.wire_source.specs.Readings.{IsRead}
use Rattle.wire_source.specs.declared.reading.Reading.{Reading}
use Rattle.wire_source.specs.declared.reading.Reading.TheVariants as reading

-- zones offer what is read; a reply that was cut short says nothing, and none is faulty
abbrev pub IsHonest : List Zone → Labels → Reading → Type 0
IsHonest zones name (reading.Says o) = IsOffer (told zones) name o
IsHonest zones name reading.CutShort = ⊤
IsHonest zones name (reading.Faulty t) = ⊥

-- the reply of zones to a query for the rules at a name is read as what they offer for it, or was cut short
abbrev pub HonestRepliesAreOffers : Type 0
HonestRepliesAreOffers =
    (zones : List Zone) (id : ℕ) (name : Labels) (way : Way) (bytes : List ℕ) (read : Reading) → AreZones zones → id < 2 ^ 16 → IsName name
    → IsReply zones (query_bytes id name) way (Some bytes) → (way ≡ Stream → tc_of (header_of bytes).bits ≡ 0)
    → IsRead id name way bytes read → IsHonest zones name read

-- a reply is read in one way
abbrev pub RepliesHaveOneReading : Type 0
RepliesHaveOneReading =
    (id : ℕ) (name : Labels) (way : Way) (bytes : List ℕ) (one other : Reading) → IsRead id name way bytes one → IsRead id name way bytes other
    → one ≡ other
