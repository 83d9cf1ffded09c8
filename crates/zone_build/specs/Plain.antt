-- Zones as a source of rules tells them.
use Rattle.std.specs.Prelude.{List, map}
use Rattle.naptr_data.specs.Zones.{Labels, Item, Owned, rule, alias, delegation, other}
use Rattle.naptr_data.specs.Zones as plain
use Rattle.dns_wire.specs.declared.content.Content.{Content}
use Rattle.dns_wire.specs.declared.content.Content.TheVariants as content
use Rattle.dns_wire.specs.declared.record.Record.{Record}
use Rattle.zone_build.specs.Zone.{Zone}

-- what content is to who asks for rules
abbrev pub item_of : Content → Item
item_of (content.A address) = other
item_of (content.Ns server) = delegation
item_of (content.Cname target) = alias target
item_of (content.Soa fields) = other
item_of (content.Ptr name) = other
item_of (content.Mx preference exchange) = other
item_of (content.Txt texts) = other
item_of (content.Aaaa address) = other
item_of (content.Srv priority weight port target) = other
item_of (content.Naptr r) = rule r
item_of (content.Opt options) = other
item_of (content.Raw bytes) = other

abbrev pub owned_of : Record → Owned
owned_of one = record { owner = one.owner; item = item_of one.content }

-- a zone as its apex and items
abbrev pub plain_of : Zone → plain.Zone
plain_of zone = record { apex = zone.apex; items = map owned_of zone.records }

-- zones as they are told
abbrev pub told : List Zone → List plain.Zone
told zones = map plain_of zones
