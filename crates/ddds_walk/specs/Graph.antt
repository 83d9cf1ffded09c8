-- Domains and the numbered edges between them. RFC 3402, section 3: a rule that is not terminal gives the next key, and
-- a terminal one ends the way. The numbers of the edges are this project's own.
use Rattle.std.specs.Prelude.{◌≡◌, ℕ, List, [], ◌∷◌, Some, slice_get}
use Rattle.naptr_data.specs.Zones.{Labels, Zone, IsOffer}
use Rattle.naptr_data.specs.declared.offer.Offer.TheVariants.{Unserved}
use Rattle.naptr_rule.specs.declared.rule.Naptr.{Naptr}
use Rattle.ddds_walk.specs.Rules.{Client, IsEdge}
use Rattle.ddds_walk.specs.declared.derivation.Derivation.{Derivation}
use Rattle.ddds_walk.specs.declared.edge.Edge.TheVariants.{Step, Stop}
use Rattle.ddds_walk.specs.declared.report.Outcome.{Outcome}

-- V is the type of domains
pub record Graph (V : Type 0) : Type 1 where
  -- the edge of that rank gives a next domain: a rule that is not terminal, or an alias
  pub Steps : V → ℕ → V → Type 0
  -- the edge of that rank ends the way: a terminal rule
  pub Stops : V → ℕ → Type 0
  -- nobody who is asked serves the domain
  pub Open : V → Type 0

-- the graph that zones make for a client, over folded names
abbrev pub graph_of : Client → List Zone → Graph Labels
graph_of c zones = record {
  Steps = λ d r m. IsEdge c zones d r (Step m);
  Stops = λ d r. (rule : Naptr) × (outcome : Outcome) × IsEdge c zones d r (Stop rule outcome);
  Open = λ d. IsOffer zones d Unserved;
}

module _ {V : Type 0} (g : Graph V) where
  -- the edges of those ranks, one after the other, lead from one domain to the other
  abbrev pub Leads : V → List ℕ → V → Type 0
  Leads k [] d = k ≡ d
  Leads k (r ∷ rs) d = (m : V) × g.Steps k r m × Leads m rs d

  -- the domains that these edges pass before the last one, in order
  abbrev pub Passes : V → List ℕ → List V → Type 0
  Passes k [] ds = ds ≡ []
  Passes k (r ∷ rs) ds = (m : V) × (rest : List V) × g.Steps k r m × Passes m rs rest × (ds ≡ k ∷ rest)

-- from several keys: a derivation leads from the key at its place, along its ranks
module _ {V : Type 0} (g : Graph V) (keys : List V) where
  -- .. to this domain
  abbrev pub LeadsFrom : Derivation → V → Type 0
  LeadsFrom way d = (key : V) × (slice_get keys way.place ≡ Some key) × Leads g key way.ranks d

  -- .. and passes these domains before its last one, in order
  abbrev pub PassesFrom : Derivation → List V → Type 0
  PassesFrom way ds = (key : V) × (slice_get keys way.place ≡ Some key) × Passes g key way.ranks ds
