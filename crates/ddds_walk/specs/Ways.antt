-- Words for the state of a walk, for the functions below `walk`. The walk begins at a root, from which one edge leads
-- to each key; so the first rank from the root is the place of a key, and a derivation is the rest.
use Rattle.std.specs.Prelude.{◌≡◌, ◌↔◌, ◌⊎◌, ℕ, List, [], ◌∷◌, ◌++◌, map, slice_get, Contains, Option, Some, None}
use Rattle.naptr_data.specs.Laws.{ZonesMakeOneOffer}
use Rattle.naptr_data.specs.Sources.{AreDistinct}
use Rattle.naptr_data.specs.Zones.{Labels, Zone}
use Rattle.naptr_rule.specs.declared.rule.Naptr.{Naptr}
use Rattle.subst_expr.specs.Laws.{OneOutput}
use Rattle.ddds_walk.specs.Graph.{Graph, graph_of, Leads, Passes}
use Rattle.ddds_walk.specs.Order.{Less, AreRising}
use Rattle.ddds_walk.specs.Report.{IsEnd, IsNeeded}
use Rattle.ddds_walk.specs.Rules.{Client, IsEdge}
use Rattle.ddds_walk.specs.declared.derivation.Derivation.{Derivation}
use Rattle.ddds_walk.specs.declared.edge.Edge.{Edge}
use Rattle.ddds_walk.specs.declared.edge.Edge.TheVariants.{Step}
use Rattle.ddds_walk.specs.declared.frame.Frame.{Frame}
use Rattle.ddds_walk.specs.declared.report.End.{End}
use Rattle.ddds_walk.specs.declared.report.Outcome.{Outcome}

-- an end by the domain and the rank of its terminal rule, or by the domain that nobody serves
pub data Mark (V : Type 0) : Type 0 where
  by_rule : V → ℕ → Mark V
  by_domain : V → Mark V

-- an end that was found: the derivation that reaches it, and its mark
pub record Found (V : Type 0) : Type 0 where
  pub ranks : List ℕ
  pub mark : Mark V

-- an edge leads to one domain, and does not both lead on and end the way
pub record IsGraph {V : Type 0} (g : Graph V) : Type 0 where
  pub one : (k : V) (r : ℕ) (m n : V) → g.Steps k r m → g.Steps k r n → m ≡ n
  pub either : (k : V) (r : ℕ) (m : V) → g.Steps k r m → g.Stops k r → ⊥

module _ {V : Type 0} (g : Graph V) where
  -- the derivation reaches the end of that mark
  abbrev pub EndsAs : V → List ℕ → Mark V → Type 0
  EndsAs k [] e = g.Open k × (e ≡ by_domain k)
  EndsAs k (r ∷ rs) e =
      (g.Stops k r × (rs ≡ []) × (e ≡ by_rule k r)) ⊎ ((m : V) × g.Steps k r m × EndsAs m rs e)

-- ranks from a start lead round: to one of the domains that they pass, which are distinct
pub record IsRound {V : Type 0} (g : Graph V) (start : V) (ranks : List ℕ) (earlier : List V) (last : V) : Type 0 where
  pub leads : Leads g start ranks last
  pub passes : Passes g start ranks earlier
  pub again : Contains earlier last
  pub others : AreDistinct earlier

-- .. and no lesser ranks do
pub record IsLeastRound {V : Type 0} (g : Graph V) (start : V) (ranks : List ℕ) (earlier : List V)
    (last : V) : Type 0 where
  pub loop : IsRound g start ranks earlier last
  pub least : (ls : List ℕ) (ds : List V) (d : V) → IsRound g start ls ds d → Less ls ranks → ⊥

-- no ranks from the start lead round
abbrev pub HasNoRound : {V : Type 0} → Graph V → V → Type 0
HasNoRound {V} g start = (ls : List ℕ) (ds : List V) (d : V) → IsRound g start ls ds d → ⊥

-- a walk from the start has to open the domain
abbrev pub IsMet : {V : Type 0} → Graph V → V → V → Type 0
IsMet {V} g start d =
    (rs : List ℕ)
    × Leads g start rs d
    × ((ls : List ℕ) (ds : List V) (x : V) → IsLeastRound g start ls ds x → Less rs ls)

-- the derivations and the marks of what was found
abbrev pub ranks_of : {V : Type 0} → List (Found V) → List (List ℕ)
ranks_of found = map (λ e. e.ranks) found

abbrev pub marks_of : {V : Type 0} → List (Found V) → List (Mark V)
marks_of found = map (λ e. e.mark) found

-- The cursor is the path to the top domain and the next rank there: every derivation that is less than it is done with.
-- A domain is finished when all its edges were tried.
pub record Walked {V : Type 0} (g : Graph V) (key : V) (done : List V) (found : List (Found V))
    (path : List ℕ) (next : ℕ) (top : V) : Type 0 where
  pub here : Leads g key path top
  pub sound : (e : Found V) → Contains found e → EndsAs g key e.ranks e.mark × Less e.ranks (path ++ next ∷ [])
  pub complete : (rs : List ℕ) (mark : Mark V) → Less rs (path ++ next ∷ []) → EndsAs g key rs mark
      → (e : Found V) × Contains found e × (e.mark ≡ mark) × ((e.ranks ≡ rs) ⊎ Less e.ranks rs)
  pub least : (e : Found V) (qs : List ℕ) → Contains found e → EndsAs g key qs e.mark → Less qs e.ranks → ⊥
  -- below the cursor no derivation comes back to a domain
  pub simple : (a : List ℕ) (r : ℕ) (b : List ℕ) (d : V)
      → Leads g key a d → Leads g d (r ∷ b) d → Less (a ++ r ∷ b) (path ++ next ∷ []) → ⊥
  -- to a finished domain leads a derivation all of whose continuations are below the cursor
  pub first : (d : V) → Contains done d
      → (q : List ℕ) × Leads g key q d × ((ts : List ℕ) → Less (q ++ ts) (path ++ next ∷ []))
  -- what is reached below the cursor is finished or on the path
  pub reached : (rs : List ℕ) (d : V) → Leads g key rs d → Less rs (path ++ next ∷ [])
      → Contains done d ⊎ ((c : List ℕ) × (path ≡ rs ++ c))
  -- no domain on the path is finished
  pub apart : (rs c : List ℕ) (d : V) → path ≡ rs ++ c → Leads g key rs d → Contains done d → ⊥
  pub once : AreDistinct (marks_of found)
  pub rising : AreRising Less (ranks_of found)

-- the root is none of the domains; from it the edge of rank i leads to key i
abbrev pub RootedSteps : Graph Labels → List Labels → Option Labels → ℕ → Option Labels → Type 0
RootedSteps g keys None r None = ⊥
RootedSteps g keys None r (Some m) = slice_get keys r ≡ Some m
RootedSteps g keys (Some d) r None = ⊥
RootedSteps g keys (Some d) r (Some m) = g.Steps d r m

abbrev pub RootedStops : Graph Labels → Option Labels → ℕ → Type 0
RootedStops g None r = ⊥
RootedStops g (Some d) r = g.Stops d r

abbrev pub RootedOpen : Graph Labels → Option Labels → Type 0
RootedOpen g None = ⊥
RootedOpen g (Some d) = g.Open d

abbrev pub rooted : Graph Labels → List Labels → Graph (Option Labels)
rooted g keys = record {
  Steps = λ d r m. RootedSteps g keys d r m;
  Stops = λ d r. RootedStops g d r;
  Open = λ d. RootedOpen g d;
}

-- the graph that zones make for a client, with the root
abbrev pub tree_of : Client → List Zone → List Labels → Graph (Option Labels)
tree_of c zones keys = rooted (graph_of c zones) keys

-- the edges that are told are those of the domain, or of the root
abbrev pub Tells : Client → List Zone → List Labels → Option Labels → List Edge → Type 0
Tells c zones keys None edges =
    (r : ℕ) (e : Edge) → (slice_get edges r ≡ Some e) ↔ ((k : Labels) × (slice_get keys r ≡ Some k) × (e ≡ Step k))
Tells c zones keys (Some d) edges = (r : ℕ) (e : Edge) → (slice_get edges r ≡ Some e) ↔ IsEdge c zones d r e

abbrev pub path_of : List Frame → List ℕ
path_of frames = map (λ f. f.rank) frames

abbrev pub domains_of : List Frame → List (Option Labels)
domains_of frames = map (λ f. f.domain) frames

-- a frame above others: the path leads to its domain, which is none of theirs, and its edges are those of the domain
pub record IsFrame (c : Client) (zones : List Zone) (keys : List Labels) (below : List Frame)
    (frame : Frame) : Type 0 where
  pub leads : Leads (tree_of c zones keys) None (path_of below) frame.domain
  pub passes : Passes (tree_of c zones keys) None (path_of below) (domains_of below)
  pub tells : Tells c zones keys frame.domain frame.edges
  pub distinct : AreDistinct (domains_of below ++ frame.domain ∷ [])

-- the last rank of a derivation
abbrev pub last_rank : List ℕ → ℕ
last_rank [] = 0
last_rank (r ∷ []) = r
last_rank (r ∷ s ∷ rs) = last_rank (s ∷ rs)

-- an end's mark, by its domain, its rule, if it has one, and its derivation
abbrev pub mark_of : Labels → Option Naptr → List ℕ → Mark (Option Labels)
mark_of domain None ranks = by_domain (Some domain)
mark_of domain (Some rule) ranks = by_rule (Some domain) (last_rank ranks)

-- an end as it was found from the root: the place of its key is the first rank
abbrev pub found_of : End → Found (Option Labels)
found_of e = record { ranks = e.place ∷ e.ranks; mark = mark_of e.domain e.rule e.ranks }

-- an end of this derivation
abbrev pub end_by : Derivation → Labels → Option Naptr → Outcome → End
end_by way domain rule outcome =
    record { place = way.place; ranks = way.ranks; domain = domain; rule = rule; outcome = outcome }

-- ranks from the root are a derivation: the first is the place of the key
abbrev pub derivation_in : List ℕ → Derivation
derivation_in [] = record { place = 0; ranks = [] }
derivation_in (place ∷ ranks) = record { place = place; ranks = ranks }

-- where a walk stands, over told zones
pub record IsState (c : Client) (zones : List Zone) (keys : List Labels) (asked : List Labels) (ends : List End)
    (below : List Frame) (top : Frame) : Type 0 where
  -- the laws on which all of it rests
  pub offers : ZonesMakeOneOffer
  pub outputs : OneOutput
  pub done : List (Option Labels)
  pub walked : Walked (tree_of c zones keys) None done (map found_of ends) (path_of below) top.rank top.domain
  pub at_top : IsFrame c zones keys below top
  pub fronts : (a b : List Frame) (x : Frame) → below ≡ a ++ x ∷ b → IsFrame c zones keys a x
  pub ends_are : (e : End) → Contains ends e → IsEnd c zones keys e
  -- asked are those that are finished or on the path, and each of them is needed
  pub met : (d : Labels) → Contains asked d
      ↔ (Contains done (Some d) ⊎ Contains (domains_of below ++ top.domain ∷ []) (Some d))
  pub needed : (d : Labels) → Contains asked d → IsNeeded (graph_of c zones) keys d
