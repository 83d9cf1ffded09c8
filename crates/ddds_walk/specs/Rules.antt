-- Which rules a client may follow from a domain, and what each gives (RFC 3402, section 3; RFC 3403, sections 4 and 6).
-- Which rules are admissible, and that the least ORDER is taken among these, is this project's own.
use Rattle.std.specs.Prelude.{◌≡◌, ◌↔◌, ◌⊎◌, ℕ, ◌<◌, ◌≤◌, Bool, true, List, []}
use Rattle.std.specs.Prelude.{length, slice_get, Contains, Option, Some, Ok}
use Rattle.dns_name.specs.Name.{folded_labels}
use Rattle.dns_name.specs.Reading.{name_of}
use Rattle.naptr_data.specs.Zones.{Labels, Zone, IsOffer, IsRising}
use Rattle.naptr_data.specs.declared.offer.Offer.{Offer}
use Rattle.naptr_data.specs.declared.offer.Offer.TheVariants as offer
use Rattle.naptr_rule.specs.declared.rule.Naptr.{Naptr}
use Rattle.service_field.specs.Applications.{Meaning}
use Rattle.service_field.specs.declared.kind.Kind.{Kind}
use Rattle.service_field.specs.declared.kind.Kind.TheVariants as kind
use Rattle.rule_check.specs.Fields.{HasFields, HasRegexp, HasReplacement}
use Rattle.rule_check.specs.Uris.{IsUri}
use Rattle.subst_expr.specs.Output.{IsOutput}
use Rattle.ddds_walk.specs.declared.edge.Edge.{Edge}
use Rattle.ddds_walk.specs.declared.edge.Edge.TheVariants.{Step, Stop}
use Rattle.ddds_walk.specs.declared.report.Outcome.TheVariants.{Uri, Target}

-- who asks: what flags mean, which services serve, whether a rule that is not terminal may give its next domain by
-- REGEXP, and the original string, to which every expression is applied (RFC 3402, section 3)
pub record Client : Type 0 where
  pub kind : List ℕ → Kind
  pub serves : List ℕ → Bool
  pub steps_by_regexp : Bool
  pub string : List ℕ

-- the client of an application, by what this makes of flags and services, with the wanted services and the string
abbrev pub client_of : Meaning → Option (List ℕ) → List ℕ → Client
client_of meaning wanted string = record {
  kind = meaning.kind;
  serves = λ services. meaning.serves wanted services;
  steps_by_regexp = meaning.steps_by_regexp;
  string = string;
}

-- what REGEXP gives over the original string: 1 to 1,024 bytes
pub record HasOutput (rule : Naptr) (string bytes : List ℕ) : Type 0 where
  pub output : IsOutput rule.regexp string bytes
  pub some : 0 < length bytes
  pub most : length bytes ≤ 1024

-- REGEXP gives this domain: its output reads as a name, of which the root is the origin
abbrev pub GivesName : Naptr → List ℕ → Labels → Type 0
GivesName rule string domain =
    (bytes : List ℕ) × (labels : Labels) × HasOutput rule string bytes × (name_of bytes (Some []) ≡ Ok labels)
    × (domain ≡ folded_labels labels)

-- its services serve what is wanted; a rule that is not terminal may have none
abbrev pub HasServices : Kind → Client → Naptr → Type 0
HasServices kind.Step c rule = (c.serves rule.services ≡ true) ⊎ (rule.services ≡ [])
HasServices kind.TerminalUri c rule = c.serves rule.services ≡ true
HasServices (kind.TerminalName letter) c rule = c.serves rule.services ≡ true
HasServices kind.Unknown c rule = ⊥

-- what its field gives: the next domain, a URI, or a domain with a letter
abbrev pub Yields : Kind → Client → Naptr → Edge → Type 0
Yields kind.Step c rule (Step domain) =
    (HasReplacement rule × (domain ≡ folded_labels rule.replacement))
    ⊎ (HasRegexp rule × GivesName rule c.string domain)
Yields kind.TerminalUri c rule (Stop r (Uri bytes)) = (r ≡ rule) × HasOutput rule c.string bytes × IsUri bytes
Yields (kind.TerminalName l) c rule (Stop r (Target m name)) = (r ≡ rule) × (m ≡ l) × (name ≡ rule.replacement)
Yields k c rule edge = ⊥

-- what a rule gives by the kind of its flags
pub record GivesAs (k : Kind) (c : Client) (rule : Naptr) (edge : Edge) : Type 0 where
  pub fields : HasFields k c.steps_by_regexp rule
  pub services : HasServices k c rule
  pub yields : Yields k c rule edge

-- what a rule gives
abbrev pub Gives : Client → Naptr → Edge → Type 0
Gives c rule edge = GivesAs (c.kind rule.flags) c rule edge

-- a rule is admissible where it gives something
abbrev pub IsAdmissible : Client → Naptr → Type 0
IsAdmissible c rule = (edge : Edge) × Gives c rule edge

-- the rules that are followed: of the admissible ones those of the least ORDER, in their order
pub record AreFollowed (c : Client) (rules chosen : List Naptr) : Type 0 where
  pub each : (rule : Naptr) → Contains chosen rule
      ↔ (Contains rules rule × IsAdmissible c rule
      × ((other : Naptr) → Contains rules other → IsAdmissible c other → rule.order ≤ other.order))
  pub rising : IsRising chosen

-- the edge of that rank out of a domain with this offer; an alias is one edge, of rank 0
abbrev pub IsEdgeOf : Client → Offer → ℕ → Edge → Type 0
IsEdgeOf c (offer.Rules rules) rank edge =
    (chosen : List Naptr) × (rule : Naptr) × AreFollowed c rules chosen
    × (slice_get chosen rank ≡ Some rule) × Gives c rule edge
IsEdgeOf c (offer.Alias target) rank edge = (rank ≡ 0) × (edge ≡ Step (folded_labels target))
IsEdgeOf c offer.Unserved rank edge = ⊥

-- the edge of that rank out of a domain of the zones
abbrev pub IsEdge : Client → List Zone → Labels → ℕ → Edge → Type 0
IsEdge c zones domain rank edge = (o : Offer) × IsOffer zones domain o × IsEdgeOf c o rank edge
