-- Referrals.
use Rattle.std.proofs.Common.{◌≡◌, List, refl}
use Rattle.std.specs.Prelude.{Contains, IsTrue, ◌↔◌, Bool, true, false, not}
use Rattle.naptr_data.specs.Zones.{Labels}
use Rattle.dns_wire.specs.declared.content.Content.TheVariants as content
use Rattle.dns_wire.specs.declared.content.Soa.{Soa}
use Rattle.dns_wire.specs.declared.record.Record.{Record}
use Rattle.wire_source.specs.Readings.{IsReferral}

abbrev HasServer : List Record → Type 0
HasServer records = (one : Record) × Contains records one × ((server : Labels) × (one.content ≡ content.Ns server))

abbrev HasStart : List Record → Type 0
HasStart records = (one : Record) × Contains records one × ((soa : Soa) × (one.content ≡ content.Soa soa))

pub refers : (authority : List Record) (start : Bool) → HasServer authority → IsTrue start ↔ HasStart authority
    → IsTrue (not start) ↔ IsReferral authority
refers authority true server has = (λ t. absurd (cc), λ r. let h = has.0 refl in absurd (r.no_soa h.0 h.2.0 h.1 h.2.1))
refers authority false server has = (
  λ t. record {
    one = server.0;
    among = server.1;
    server = server.2.0;
    tells = server.2.1;
    no_soa = λ other soa c is. absurd (cc (has.1 (other, c, (soa, is))));
  },
  λ r. refl,
)

pub refers_not : (authority : List Record) (server : Bool) → server ≡ false → IsTrue server ↔ HasServer authority
    → IsTrue server ↔ IsReferral authority
refers_not authority true is has = absurd (cc)
refers_not authority false is has = (λ t. absurd (cc), λ r. has.1 (r.one, r.among, (r.server, r.tells)))
