-- What a source of rules tells of its asks, and of the names that it keeps (this project's own).
use Rattle.std.specs.Prelude.{◌≡◌, ◌⊎◌, ℕ, ◌≤◌, List, [], ◌∷◌, ◌++◌, length, take, Contains, Bool, IsTrue, Option, Result, Ok, Err, ⊤}
use Rattle.enum_base.specs.Causes.{Rose, one_more}
use Rattle.dns_name.specs.Name.{folded_labels}
use Rattle.naptr_data.specs.Zones.{Labels, Zone, IsRising}
use Rattle.naptr_data.specs.declared.offer.Offer.{Offer}
use Rattle.naptr_data.specs.declared.offer.Offer.TheVariants as offer
use Rattle.naptr_data.specs.declared.source.SourceFault.{SourceFault}
use Rattle.naptr_data.specs.declared.source.SourceFault.TheVariants.{Trouble}

-- what a source tells of itself: the zones that it answers from, which need not be told; how often it was asked and had
-- trouble, and whether the last answer was trouble; how many names it keeps at most, the folded names that it keeps, the
-- last asked first, and how often it fetched one that it did not keep; and what it was lent
pub record RuleSourceState : Type 0 where
  pub zones : Option (List Zone)
  pub asks : ℕ
  pub troubles : ℕ
  pub failed : Bool
  pub room : ℕ
  pub kept : List Labels
  pub fetched : ℕ
  pub lent : List ℕ

-- the rules of an offer rise, and are at most 65,535
abbrev pub HasFewRules : Offer → Type 0
HasFewRules (offer.Rules rules) = IsRising rules × (length rules ≤ 65_535)
HasFewRules (offer.Alias target) = ⊤
HasFewRules offer.Unserved = ⊤

-- no two of the elements are equal
abbrev pub AreDistinct : {X : Type 0} → List X → Type 0
AreDistinct [] = Unit {0}
AreDistinct (x ∷ xs) = ¬ Contains xs x × AreDistinct xs

-- the element at the front, and after it the others in their order
abbrev pub BringsToFront : {X : Type 0} → X → List X → List X → Type 0
BringsToFront {X} x old new =
    ((before : List X) × (after : List X) × (old ≡ before ++ x ∷ after) × (new ≡ x ∷ (before ++ after)))
    ⊎ (¬ Contains old x × (new ≡ x ∷ old))

-- which names are kept after a call: after an answer the name asked for and then the others, as many as there is room for;
-- after a refusal those from before, or they with the name brought to the front
abbrev pub KeepsNames : {A : Type 0} → ℕ → Labels → List Labels → List Labels → Result A SourceFault → Type 0
KeepsNames room name old new (Ok a) = (all : List Labels) × BringsToFront name old all × (new ≡ take room all)
KeepsNames room name old new (Err fault) = (new ≡ old) ⊎ (Contains old name × BringsToFront name old new)

-- how often names were fetched from beyond: once more exactly where the name was not kept
pub record Fetches (name : Labels) (old : List Labels) (before now : ℕ) : Type 0 where
  pub kept : Contains old name → now ≡ before
  pub missing : ¬ Contains old name → now ≡ one_more before

-- the names that are kept are folded and distinct, and each was fetched
pub record AreKept (names : List Labels) (fetched : ℕ) : Type 0 where
  pub folded : (name : Labels) → Contains names name → folded_labels name ≡ name
  pub once : AreDistinct names
  pub few : length names ≤ fetched

-- trouble comes only where the count of troubles rose, and the source has then failed
pub record HasTrouble {A : Type 0} (old new : RuleSourceState) (result : Result A SourceFault) : Type 0 where
  pub later : old.troubles ≤ new.troubles
  pub rose : result ≡ Err Trouble → Rose old.troubles new.troubles
  pub failed : result ≡ Err Trouble → IsTrue new.failed
