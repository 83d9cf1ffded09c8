-- Words for the turns of a walk, for the functions below `walk`.
use Rattle.std.specs.Prelude.{◌≡◌, ◌↔◌, ◌⊎◌, ℕ, ◌+◌, ◌-◌, ◌*◌, ◌<◌, ◌≤◌, List, [], ◌∷◌, ◌++◌, length, map, slice_get}
use Rattle.std.specs.Prelude.{Contains, Option, Some, None, IsSome, Result, Ok, Err, IfOk, OnOk, IsTrue}
use Rattle.std.specs.List.{AllByRecursion, sum_by}
use Rattle.enum_base.specs.Causes.{Rose}
use Rattle.enum_base.specs.Outside.{WhereTold}
use Rattle.dns_name.specs.Name.{folded_labels}
use Rattle.naptr_data.specs.Sources.{RuleSourceState, AreDistinct, HasFewRules}
use Rattle.naptr_data.specs.Zones.{Labels, Zone, IsOffer}
use Rattle.naptr_data.specs.declared.offer.Offer.{Offer}
use Rattle.naptr_data.specs.declared.offer.Offer.TheVariants as offer
use Rattle.ddds_walk.specs.Asking.{more, IsWhole, NeedsMore}
use Rattle.ddds_walk.specs.Graph.{graph_of}
use Rattle.ddds_walk.specs.Kept.{HasKept}
use Rattle.ddds_walk.specs.Report.{Answers, AreSomeNeeded, AreNeeded}
use Rattle.ddds_walk.specs.Rules.{Client, IsEdgeOf}
use Rattle.ddds_walk.specs.Ways.{IsState, derivation_in, domains_of, end_by, path_of}
use Rattle.ddds_walk.specs.declared.derivation.Derivation.{Derivation}
use Rattle.ddds_walk.specs.declared.edge.Edge.{Edge}
use Rattle.ddds_walk.specs.declared.edge.Edge.TheVariants.{Step, Stop}
use Rattle.ddds_walk.specs.declared.fault.WalkFault.{WalkFault}
use Rattle.ddds_walk.specs.declared.fault.WalkFault.TheVariants.{Limit, Trouble}
use Rattle.ddds_walk.specs.declared.frame.Frame.{Frame}
use Rattle.ddds_walk.specs.declared.report.End.{End}
use Rattle.ddds_walk.specs.declared.report.Outcome.{Outcome}
use Rattle.ddds_walk.specs.declared.report.Outcome.TheVariants.{Unserved}
use Rattle.ddds_walk.specs.declared.report.Report.{Report}
use Rattle.ddds_walk.specs.declared.report.Report.TheVariants as report
use Rattle.naptr_rule.specs.declared.rule.Naptr.{Naptr}
use Rattle.ddds_walk.specs.declared.walker.Next.{Next}
use Rattle.ddds_walk.specs.declared.walker.Next.TheVariants as next
use Rattle.ddds_walk.specs.declared.walker.Turn.{Turn}
use Rattle.ddds_walk.specs.declared.walker.Turn.TheVariants.{On, Done, Back}
use Rattle.ddds_walk.specs.declared.walker.Walker.{Walker}

-- each edge that goes on leads to a folded name
abbrev pub AreFolded : List Edge → Type 0
AreFolded edges = (rank : ℕ) (d : Labels) → slice_get edges rank ≡ Some (Step d) → folded_labels d ≡ d

-- the edges of a domain, or of the root, which has at most eight, and none is that of a terminal rule
pub record AreSound (domain : Option Labels) (edges : List Edge) : Type 0 where
  pub few : length edges ≤ 65_535
  pub keys : domain ≡ None → length edges ≤ 8
  pub folded : AreFolded edges
  pub root : domain ≡ None → (rank : ℕ) (rule : Naptr) (outcome : Outcome)
      → slice_get edges rank ≡ Some (Stop rule outcome) → ⊥

-- a frame that the way goes on from by one of its edges
abbrev pub IsPast : Frame → Type 0
IsPast f = (f.rank < length f.edges) × AreSound f.domain f.edges

-- a way begins at the root, and goes on over domains
abbrev pub IsWay : List (Option Labels) → Type 0
IsWay [] = ⊥
IsWay (None ∷ ds) = AllByRecursion IsSome ds
IsWay (Some d ∷ ds) = ⊥

-- a domain on the way: that of the topmost frame or of one below
abbrev pub IsOnTheWay : Walker → Labels → Type 0
IsOnTheWay w d = Contains (domains_of w.below) (Some d) ⊎ (w.top.domain ≡ Some d)

-- what holds of a walk over any source
pub record IsSound (limit : ℕ) (w : Walker) : Type 0 where
  pub once : AreDistinct w.asked
  pub few : length w.asked ≤ limit
  pub below : AllByRecursion IsPast w.below
  pub top : (w.top.rank ≤ length w.top.edges) × AreSound w.top.domain w.top.edges
  pub way : IsWay (domains_of w.below ++ w.top.domain ∷ [])
  pub met : (d : Labels) → IsOnTheWay w d → Contains w.asked d

-- how much is left to try at a frame, and in a walk
abbrev pub left_at : Frame → ℕ
left_at f = length f.edges - f.rank + 1

abbrev pub left_in : ℕ → Walker → ℕ
left_in limit w = (limit - length w.asked) * 65_537 + (left_at w.top + sum_by left_at w.below)

-- a walk at the root, from which an edge leads to each key
abbrev pub at_root : List Labels → Walker
at_root keys = record {
  asked = [];
  ends = [];
  below = [];
  top = record { domain = None; edges = map (λ key. Step key) keys; rank = 0 };
}

-- a state, over told zones
abbrev pub IsAt : Client → List Zone → List Labels → Walker → Type 0
IsAt c zones keys w = IsState c zones keys w.asked w.ends w.below w.top

-- what a turn says, over told zones: the walk goes on, or it has found its answer, and asked each needed domain
abbrev pub Says : Client → List Zone → List Labels → Walker → Turn → Type 0
Says c zones keys w On = IsAt c zones keys w
Says c zones keys w Done =
    Answers c zones keys (report.Ends w.ends) × AreNeeded (graph_of c zones) keys w.asked
Says c zones keys w (Back path) =
    Answers c zones keys (report.Loop path) × AreNeeded (graph_of c zones) keys w.asked

-- a turn that asks nobody
pub record HasMoved (limit : ℕ) (w w' : Walker) (turn : Turn) : Type 0 where
  pub asked : w'.asked ≡ w.asked
  pub sound : IsSound limit w'
  pub falls : turn ≡ On → left_in limit w' < left_in limit w
  pub says : (c : Client) (zones : List Zone) (keys : List Labels) → IsAt c zones keys w → Says c zones keys w' turn

-- what stays of a source while it is asked, and its troubles
pub record Serves {A : Type 0} (t u : RuleSourceState) (result : Result A WalkFault) : Type 0 where
  pub zones : u.zones ≡ t.zones
  pub room : u.room ≡ t.room
  pub lent : u.lent ≡ t.lent
  pub later : t.troubles ≤ u.troubles
  pub trouble : result ≡ Err Trouble → Rose t.troubles u.troubles × IsTrue u.failed

-- how the asked domains, and what the source counts and keeps, stand to each other after a turn as before it
pub record Counts {A : Type 0} (limit : ℕ) (t u : RuleSourceState) (asked asked' : List Labels)
    (result : Result A WalkFault) : Type 0 where
  pub once : AreDistinct asked'
  pub few : length asked' ≤ limit
  pub asks : (a : ℕ) → t.asks ≡ more (length asked) a → u.asks ≡ more (length asked') a
  pub kept : IsWhole result → (k : List Labels) (f : ℕ) → HasKept t.room k f asked t.kept t.fetched
      → HasKept t.room k f asked' u.kept u.fetched
  pub met : (n : ℕ) → result ≡ Err (Limit n) → (n ≡ limit) × (length asked' ≡ limit)

-- a turn
pub record HasTurned (c : Client) (limit : ℕ) (t u : RuleSourceState) (w w' : Walker)
    (result : Result Turn WalkFault) : Type 0 where
  pub serves : Serves t u result
  pub counts : Counts limit t u w.asked w'.asked result
  pub sound : OnOk result (IsSound limit w')
  pub falls : result ≡ Ok On → left_in limit w' < left_in limit w
  pub told : (zones : List Zone) (keys : List Labels) → t.zones ≡ Some zones → IsAt c zones keys w
      → AreSomeNeeded (graph_of c zones) keys w'.asked × IfOk result (Says c zones keys w')
      × ((n : ℕ) → result ≡ Err (Limit n) → NeedsMore (graph_of c zones) keys limit)

-- a domain was asked for
pub record HasAsked (limit : ℕ) (t u : RuleSourceState) (asked asked' : List Labels) (next : Labels)
    (result : Result Offer WalkFault) : Type 0 where
  pub serves : Serves t u result
  pub counts : Counts limit t u asked asked' result
  pub cases : (asked' ≡ asked) ⊎ (asked' ≡ asked ++ next ∷ [])
  pub offered : IfOk result (λ o. (asked' ≡ asked ++ next ∷ []) × HasFewRules o
      × WhereTold t.zones (λ zones. IsOffer zones next o))
  pub met : (n : ℕ) → result ≡ Err (Limit n) → asked' ≡ asked

-- the derivation to the edge that is followed next
abbrev pub derivation_of : Walker → Derivation
derivation_of w = derivation_in (path_of w.below ++ w.top.rank ∷ [])

-- the place of its key is a number of eight bits
abbrev pub IsPlaced : Walker → Type 0
IsPlaced w = (derivation_of w).place < 256

-- the edge that is followed next leads to this domain
abbrev pub IsAtStep : Walker → Labels → Type 0
IsAtStep w d = slice_get w.top.edges w.top.rank ≡ Some (Step d)

-- the edge that is followed next is that of a terminal rule
abbrev pub IsAtStop : Walker → Type 0
IsAtStop w = (rule : Naptr) × (outcome : Outcome) × (slice_get w.top.edges w.top.rank ≡ Some (Stop rule outcome))

-- what a walk sees of the edge that it follows next
abbrev pub Sees : Walker → Next → Type 0
Sees w next.None = slice_get w.top.edges w.top.rank ≡ None
Sees w (next.Step d) = IsAtStep w d
Sees w next.Stop = IsAtStop w

-- the end of that rule
abbrev pub IsNextEnd : Walker → End → Type 0
IsNextEnd w e =
    (d : Labels) × (rule : Naptr) × (outcome : Outcome) × (w.top.domain ≡ Some d)
    × (slice_get w.top.edges w.top.rank ≡ Some (Stop rule outcome))
    × (e ≡ end_by (derivation_of w) d (Some rule) outcome)

-- the ends that were found, and one more where nobody serves the domain
abbrev pub NotesOpen : Walker → Labels → Offer → List End → Type 0
NotesOpen w next o ends =
    ((o ≡ offer.Unserved)
    × (ends ≡ w.ends ++ end_by (derivation_of w) next None Unserved ∷ []))
    ⊎ (((o ≡ offer.Unserved) → ⊥) × (ends ≡ w.ends))

-- a walk noted the end at a domain that nobody serves
pub record Notes (next : Labels) (o : Offer) (w w' : Walker) : Type 0 where
  pub asked : w'.asked ≡ w.asked
  pub below : w'.below ≡ w.below
  pub top : w'.top ≡ w.top
  pub ends : NotesOpen w next o w'.ends

-- a domain was opened: it is the topmost one, with the edges of its offer
pub record Opens (c : Client) (next : Labels) (o : Offer) (w w' : Walker) : Type 0 where
  pub edges : List Edge
  pub few : length edges ≤ 65_535
  pub told : (r : ℕ) (e : Edge) → (slice_get edges r ≡ Some e) ↔ IsEdgeOf c o r e
  pub asked : w'.asked ≡ w.asked
  pub below : w'.below ≡ w.below ++ w.top ∷ []
  pub top : w'.top ≡ record { domain = Some next; edges = edges; rank = 0 }
  pub ends : NotesOpen w next o w'.ends

-- a walk that goes on, and what its source tells since it began
pub record IsGoing (c : Client) (keys : List Labels) (limit : ℕ) (t u : RuleSourceState) (w : Walker) : Type 0 where
  pub zones : u.zones ≡ t.zones
  pub room : u.room ≡ t.room
  pub lent : u.lent ≡ t.lent
  pub later : t.troubles ≤ u.troubles
  pub sound : IsSound limit w
  pub asks : u.asks ≡ more (length w.asked) t.asks
  pub kept : HasKept t.room t.kept t.fetched w.asked u.kept u.fetched
  pub told : (zones : List Zone) → t.zones ≡ Some zones → IsAt c zones keys w

-- a whole walk
pub record HasWalked (c : Client) (keys : List Labels) (limit : ℕ) (t u : RuleSourceState)
    (result : Result Report WalkFault) : Type 0 where
  pub asked : List Labels
  pub serves : Serves t u result
  pub once : AreDistinct asked
  pub few : length asked ≤ limit
  pub asks : u.asks ≡ more (length asked) t.asks
  pub kept : IsWhole result → HasKept t.room t.kept t.fetched asked u.kept u.fetched
  pub met : (n : ℕ) → result ≡ Err (Limit n) → (n ≡ limit) × (length asked ≡ limit)
  pub told : (zones : List Zone) → t.zones ≡ Some zones
      → AreSomeNeeded (graph_of c zones) keys asked × IfOk result (Answers c zones keys)
      × OnOk result (AreNeeded (graph_of c zones) keys asked)
      × ((n : ℕ) → result ≡ Err (Limit n) → NeedsMore (graph_of c zones) keys limit)
