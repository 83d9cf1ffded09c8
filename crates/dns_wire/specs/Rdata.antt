-- The RDATA of content, without compression (RFC 1035, section 3.3; RFC 3596, 2782, 3403).
use Rattle.std.specs.Prelude.{ℕ, List, ◌++◌}
use Rattle.std.specs.Int.{w16, w32, to_be_bytes}
use Rattle.std.specs.List.{flat_map}
use Rattle.dns_name.specs.Name.{wire_of}
use Rattle.rdata_field.specs.Strings.{string_wire}
use Rattle.naptr_rule.specs.Rdata.{rdata}
use Rattle.dns_wire.specs.declared.content.Soa.{Soa}
use Rattle.dns_wire.specs.declared.content.Content.{Content}
use Rattle.dns_wire.specs.declared.content.Content.TheVariants as content

-- the RDATA of an SOA record: two names and five numbers of 32 bits, the high byte first (RFC 1035, 3.3.13)
abbrev pub soa_rdata : Soa → List ℕ
soa_rdata soa =
    wire_of soa.mname ++ wire_of soa.rname ++ to_be_bytes w32 soa.serial ++ to_be_bytes w32 soa.refresh
    ++ to_be_bytes w32 soa.retry ++ to_be_bytes w32 soa.expire ++ to_be_bytes w32 soa.minimum

-- the RDATA of content (RFC 1035, 3.3 and 3.4; RFC 3596, 2.2; RFC 2782; RFC 3403, 4.1)
abbrev pub rdata_of : Content → List ℕ
rdata_of (content.A address) = address
rdata_of (content.Ns server) = wire_of server
rdata_of (content.Cname target) = wire_of target
rdata_of (content.Soa soa) = soa_rdata soa
rdata_of (content.Ptr name) = wire_of name
rdata_of (content.Mx preference exchange) = to_be_bytes w16 preference ++ wire_of exchange
rdata_of (content.Txt texts) = flat_map string_wire texts
rdata_of (content.Aaaa address) = address
rdata_of (content.Srv priority weight port target) = to_be_bytes w16 priority ++ to_be_bytes w16 weight ++ to_be_bytes w16 port ++ wire_of target
rdata_of (content.Naptr rule) = rdata rule
rdata_of (content.Opt options) = options
rdata_of (content.Raw bytes) = bytes
