-- What a walk answers: every end once with its least derivation, or the least loop; and whom it has to ask.
-- RFC 3402, section 3, leaves the way through several rules to the client: these are this project's own.
use Rattle.std.specs.Prelude.{◌≡◌, ℕ, List, [], ◌∷◌, ◌++◌, map, Contains, Option, Some, None}
use Rattle.naptr_data.specs.Sources.{AreDistinct}
use Rattle.naptr_data.specs.Zones.{Labels, Zone, IsOffer}
use Rattle.naptr_data.specs.declared.offer.Offer.TheVariants as offer
use Rattle.naptr_rule.specs.declared.rule.Naptr.{Naptr}
use Rattle.ddds_walk.specs.Graph.{Graph, graph_of, LeadsFrom, PassesFrom}
use Rattle.ddds_walk.specs.Order.{Before, AreRising}
use Rattle.ddds_walk.specs.Rules.{Client, IsEdge}
use Rattle.ddds_walk.specs.declared.derivation.Derivation.{Derivation}
use Rattle.ddds_walk.specs.declared.edge.Edge.TheVariants.{Stop}
use Rattle.ddds_walk.specs.declared.report.End.{End}
use Rattle.ddds_walk.specs.declared.report.LoopPath.{LoopPath}
use Rattle.ddds_walk.specs.declared.report.Outcome.{Outcome}
use Rattle.ddds_walk.specs.declared.report.Outcome.TheVariants.{Unserved}
use Rattle.ddds_walk.specs.declared.report.Report.{Report}
use Rattle.ddds_walk.specs.declared.report.Report.TheVariants.{Ends, Loop}

-- a loop: a derivation whose last domain is one of its earlier ones, which are distinct
pub record IsLoop {V : Type 0} (g : Graph V) (keys : List V) (way : Derivation) (earlier : List V)
    (last : V) : Type 0 where
  pub leads : LeadsFrom g keys way last
  pub passes : PassesFrom g keys way earlier
  pub again : Contains earlier last
  pub others : AreDistinct earlier

-- the least loop: no loop comes before it
pub record IsLeastLoop {V : Type 0} (g : Graph V) (keys : List V) (way : Derivation) (earlier : List V)
    (last : V) : Type 0 where
  pub loop : IsLoop g keys way earlier last
  pub least : (other : Derivation) (ds : List V) (d : V) → IsLoop g keys other ds d → Before other way → ⊥

-- no derivation from a key is a loop
abbrev pub HasNoLoop : {V : Type 0} → Graph V → List V → Type 0
HasNoLoop {V} g keys = (way : Derivation) (ds : List V) (d : V) → IsLoop g keys way ds d → ⊥

-- the derivation leads to a domain that nobody serves, or its last edge is that of a terminal rule at the domain
abbrev pub EndsAt : Client → List Zone → List Labels → Derivation → Labels → Option Naptr → Outcome → Type 0
EndsAt c zones keys way domain None outcome =
    LeadsFrom (graph_of c zones) keys way domain × IsOffer zones domain offer.Unserved × (outcome ≡ Unserved)
EndsAt c zones keys way domain (Some rule) outcome =
    (front : List ℕ) × (rank : ℕ) × (way.ranks ≡ front ++ rank ∷ [])
    × LeadsFrom (graph_of c zones) keys (record { place = way.place; ranks = front }) domain
    × IsEdge c zones domain rank (Stop rule outcome)

-- the derivation of an end, and that of a loop
abbrev pub way_of : End → Derivation
way_of e = record { place = e.place; ranks = e.ranks }

abbrev pub way_round : LoopPath → Derivation
way_round path = record { place = path.place; ranks = path.ranks }

-- an end with a derivation that reaches it
abbrev pub IsEnd : Client → List Zone → List Labels → End → Type 0
IsEnd c zones keys e = EndsAt c zones keys (way_of e) e.domain e.rule e.outcome

-- an end's name: its domain and its rule, or the domain that nobody serves
pub record EndName : Type 0 where
  pub domain : Labels
  pub rule : Option Naptr

abbrev pub name_of : End → EndName
name_of e = record { domain = e.domain; rule = e.rule }

-- the report: each member is an end; all ends are named, each once; the derivations are least, and rise
pub record IsReport (c : Client) (zones : List Zone) (keys : List Labels) (ends : List End) : Type 0 where
  pub each : (e : End) → Contains ends e → IsEnd c zones keys e
  pub all : (e : End) → IsEnd c zones keys e → Contains (map name_of ends) (name_of e)
  pub once : AreDistinct (map name_of ends)
  pub least : (e f : End) → Contains ends e → IsEnd c zones keys f → name_of f ≡ name_of e
      → Before (way_of f) (way_of e) → ⊥
  pub rising : AreRising Before (map way_of ends)

-- what a walk answers: the report where there is no loop, else the least loop
abbrev pub Answers : Client → List Zone → List Labels → Report → Type 0
Answers c zones keys (Ends ends) = IsReport c zones keys ends × HasNoLoop (graph_of c zones) keys
Answers c zones keys (Loop path) =
    (earlier : List Labels) × (last : Labels) × (path.domains ≡ earlier ++ last ∷ [])
    × IsLeastLoop (graph_of c zones) keys (way_round path) earlier last

-- a needed domain: some derivation leads to it, and comes before the least loop where there is one
abbrev pub IsNeeded : {V : Type 0} → Graph V → List V → V → Type 0
IsNeeded {V} g keys d =
    (way : Derivation)
    × LeadsFrom g keys way d
    × ((other : Derivation) (ds : List V) (x : V) → IsLeastLoop g keys other ds x → Before way other)

-- distinct domains, each of them needed
pub record AreSomeNeeded {V : Type 0} (g : Graph V) (keys : List V) (ds : List V) : Type 0 where
  pub once : AreDistinct ds
  pub only : (d : V) → Contains ds d → IsNeeded g keys d

-- a list of the needed domains: distinct, only needed ones, and each of them
pub record AreNeeded {V : Type 0} (g : Graph V) (keys : List V) (ds : List V) : Type 0 where
  pub some : AreSomeNeeded g keys ds
  pub all : (d : V) → IsNeeded g keys d → Contains ds d
