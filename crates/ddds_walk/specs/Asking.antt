-- How often a walk asks, and when it stops short (this project's own).
use Rattle.std.specs.Prelude.{◌≡◌, ◌↔◌, ◌⊎◌, ℕ, zero, suc, ◌+◌, ◌<◌, ◌≤◌, List, length, Contains, Result, Ok, Err}
use Rattle.enum_base.specs.Causes.{one_more}
use Rattle.naptr_data.specs.Sources.{AreDistinct}
use Rattle.naptr_data.specs.Zones.{Labels}
use Rattle.ddds_walk.specs.Graph.{Graph}
use Rattle.ddds_walk.specs.Report.{IsNeeded, AreSomeNeeded, AreNeeded}
use Rattle.ddds_walk.specs.declared.fault.WalkFault.{WalkFault}
use Rattle.ddds_walk.specs.declared.fault.WalkFault.TheVariants.{Limit, Trouble, Memory}
use Rattle.ddds_walk.specs.declared.report.Report.{Report}

-- that many more, in a number of 64 bits, which stays at its greatest value
abbrev pub more : ℕ → ℕ → ℕ
more zero before = before
more (suc n) before = one_more (more n before)

-- an answer, or the refusal at the limit: no ask failed
abbrev pub IsWhole : {A : Type 0} → Result A WalkFault → Type 0
IsWhole (Ok answer) = Unit {0}
IsWhole (Err (Limit asked)) = Unit {0}
IsWhole (Err Trouble) = ⊥
IsWhole (Err Memory) = ⊥

-- asked were distinct domains, each of them needed
abbrev pub AsksNeeded : Graph Labels → List Labels → (before now : ℕ) → Type 0
AsksNeeded g keys before now = (ds : List Labels) × AreSomeNeeded g keys ds × (now ≡ more (length ds) before)

-- asked were all needed domains, each once
abbrev pub AsksAll : Graph Labels → List Labels → (before now : ℕ) → Type 0
AsksAll g keys before now = (ds : List Labels) × AreNeeded g keys ds × (now ≡ more (length ds) before)

-- each of these keys is one of the names
abbrev pub Holds : (names keys : List Labels) → Type 0
Holds names keys = (key : Labels) → Contains keys key → Contains names key

-- asked were so many domains at most
abbrev pub AsksAtMost : ℕ → (before now : ℕ) → Type 0
AsksAtMost most before now = (n : ℕ) × (n ≤ most) × (now ≡ more n before)

-- asked were at most so many domains as there are rules and aliases and distinct keys
abbrev pub AsksFew : ℕ → List Labels → (before now : ℕ) → Type 0
AsksFew count keys before now = (names : List Labels) → Holds names keys → AsksAtMost (count + length names) before now

-- more domains are needed than that
abbrev pub NeedsMore : Graph Labels → List Labels → ℕ → Type 0
NeedsMore g keys most = (ds : List Labels) × AreSomeNeeded g keys ds × (most < length ds)

-- fetched were at least as many names as asked, less those that had been kept
abbrev pub FetchesEnough : List Labels → (asks asks' fetched fetched' : ℕ) → Type 0
FetchesEnough kept asks asks' fetched fetched' =
    (n : ℕ) × (m : ℕ) × (asks' ≡ more n asks) × (fetched' ≡ more m fetched) × (n ≤ m + length kept)

-- these are the names that were kept and the needed domains together
abbrev pub AreTogether : Graph Labels → List Labels → List Labels → List Labels → Type 0
AreTogether g keys kept all = AreDistinct all × ((d : Labels) → Contains all d ↔ (Contains kept d ⊎ IsNeeded g keys d))

-- these are the needed domains that were not kept
abbrev pub AreMissing : Graph Labels → List Labels → List Labels → List Labels → Type 0
AreMissing g keys kept missing =
    AreDistinct missing × ((d : Labels) → Contains missing d ↔ (IsNeeded g keys d × ¬ Contains kept d))

-- where there is room for all together, just the missing ones were fetched, and just these together are kept
abbrev pub FetchesMissing : Graph Labels → List Labels → ℕ → (kept kept' : List Labels) → (fetched fetched' : ℕ) → Type 0
FetchesMissing g keys room kept kept' fetched fetched' =
    (all : List Labels) → AreTogether g keys kept all → length all ≤ room
    → ((d : Labels) → Contains kept' d ↔ Contains all d)
    × ((missing : List Labels) × AreMissing g keys kept missing × (fetched' ≡ more (length missing) fetched))

-- the answer is that the limit was met, or want of memory in its place
abbrev pub IsLimit : ℕ → Result Report WalkFault → Type 0
IsLimit limit result = (result ≡ Err (Limit limit)) ⊎ (result ≡ Err Memory)
