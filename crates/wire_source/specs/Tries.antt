-- Tries of a question over a link (this project's own).
use Rattle.std.specs.Prelude.{◌≡◌, ◌≢◌, ◌↔◌, ℕ, ◌+◌, ◌-◌, ◌*◌, ◌%◌, ◌^◌, ◌<◌, ◌≤◌, min, List, [], ◌∷◌, Option, Some, None, option_map, is_some, Result, Ok, Err, ⊤}
use Rattle.enum_base.specs.Causes.{Rose, many_more, one_more}
use Rattle.enum_base.specs.Outside.{WhereTold}
use Rattle.enum_base.specs.declared.fault.MemoryFault.{MemoryFault}
use Rattle.dns_name.specs.Name.{IsName}
use Rattle.naptr_data.specs.Sources.{HasFewRules, RuleSourceState}
use Rattle.naptr_data.specs.Zones.{Labels, IsOffer}
use Rattle.naptr_data.specs.declared.offer.Offer.{Offer}
use Rattle.naptr_data.specs.declared.source.SourceFault.{SourceFault}
use Rattle.naptr_data.specs.declared.source.SourceFault.TheVariants as fault
use Rattle.zone_build.specs.Plain.{told}
use Rattle.zone_db.specs.Links.{LinkState}
use Rattle.zone_db.specs.declared.link.Counts.{Counts}
use Rattle.wire_source.specs.Queries.{query_bytes}
use Rattle.wire_source.specs.Readings.{IsRead}
use Rattle.wire_source.specs.declared.reading.Reading.{Reading}
use Rattle.wire_source.specs.declared.reading.Reading.TheVariants as reading
use Rattle.wire_source.specs.declared.tries.NoOffer.{NoOffer}
use Rattle.wire_source.specs.declared.tries.NoOffer.TheVariants as no_offer
use Rattle.wire_source.specs.declared.trouble.Trouble.{Trouble}
use Rattle.wire_source.specs.declared.trouble.Trouble.TheVariants.{LinkFault}
use Rattle.wire_source.specs.declared.trouble.Trouble.TheVariants as trouble

-- the rules of an offer that is read are few
abbrev pub HasFewRead : Reading → Type 0
HasFewRead (reading.Says o) = HasFewRules o
HasFewRead reading.CutShort = ⊤
HasFewRead (reading.Faulty t) = ⊤

-- some exchanges were begun for the rules at a name, at most so many: each query has the next number, and over zones that are told
-- there are at most so many of them if none failed. `Came` says what they came to, by the number of the last query
pub record Asks (most most_calm : ℕ) (name : Labels) (id id' : ℕ) (old new : LinkState) (Came : ℕ → Type 0) : Type 0 where
  pub named : IsName name
  pub count : ℕ
  pub some : 0 < count
  pub few : count ≤ most
  pub exchanges : new.exchanges ≡ many_more old.exchanges count
  pub numbers : id' ≡ (id + count) % 2 ^ 16
  pub query : new.query ≡ query_bytes ((id + (count - 1)) % 2 ^ 16) name
  pub zones : new.zones ≡ old.zones
  pub faults : old.faults ≤ new.faults
  pub calm : WhereTold old.zones (λ zones. new.faults ≡ old.faults → new.faults < 2 ^ 64 - 1 → count ≤ most_calm)
  pub came : Came ((id + (count - 1)) % 2 ^ 16)

-- the last exchange did not fail, its reply is read as an offer, and zones that are told make it
pub record IsAnswered (id : ℕ) (name : Labels) (old new : LinkState) (o : Offer) : Type 0 where
  pub recent : new.recent ≡ 0
  pub read : IsRead id name new.way new.held (reading.Says o)
  pub few : HasFewRules o
  pub told : WhereTold old.zones (λ zones. IsOffer (told zones) name o)

-- so many tries failed, one after another: the last by its exchange exactly where that is the trouble, and else by its reply; and
-- all by their exchanges over zones that are told
pub record HasFailed (tries id : ℕ) (name : Labels) (old new : LinkState) (trouble : Trouble) : Type 0 where
  pub rose : many_more old.exchanges tries ≤ new.exchanges
  pub fault : (trouble ≡ LinkFault) ↔ (new.recent ≢ 0)
  pub blamed : trouble ≡ LinkFault → Rose old.faults new.faults
  pub read : trouble ≢ LinkFault → IsRead id name new.way new.held (reading.Faulty trouble)
  pub told : WhereTold old.zones (λ zones. (trouble ≡ LinkFault) × (min 3 (old.recent + tries) ≤ new.recent))

-- what so many tries of one way come to, by the number of the last query: an offer, a reply that was cut short, which is none on a
-- stream, or trouble; but for want of memory
abbrev pub ComesTo : ℕ → ℕ → Labels → LinkState → LinkState → Result Reading MemoryFault → Type 0
ComesTo tries id name old new (Ok (reading.Says o)) = IsAnswered id name old new o
ComesTo tries id name old new (Ok reading.CutShort) = IsRead id name new.way new.held reading.CutShort
ComesTo tries id name old new (Ok (reading.Faulty t)) = HasFailed tries id name old new t
ComesTo tries id name old new (Err memory) = ⊤

-- the end of all tries, by what those of the last way came to
abbrev pub end_of : Result Reading MemoryFault → Result Offer NoOffer
end_of (Ok (reading.Says o)) = Ok o
end_of (Ok reading.CutShort) = Err (no_offer.Failed trouble.WrongReply)
end_of (Ok (reading.Faulty t)) = Err (no_offer.Failed t)
end_of (Err memory) = Err no_offer.Memory

-- .. and all tries of an offer
abbrev pub Ends : ℕ → Labels → LinkState → LinkState → Result Offer NoOffer → Type 0
Ends id name old new (Ok o) = IsAnswered id name old new o
Ends id name old new (Err (no_offer.Failed t)) = HasFailed 3 id name old new t
Ends id name old new (Err no_offer.Memory) = ⊤

-- the trouble that an end is
abbrev pub trouble_of : Result Offer NoOffer → Option Trouble
trouble_of (Ok o) = None
trouble_of (Err (no_offer.Failed t)) = Some t
trouble_of (Err no_offer.Memory) = None

-- how often there was trouble, with one more where there is some
abbrev pub troubles_with : ℕ → Option Trouble → ℕ
troubles_with count None = count
troubles_with count (Some t) = one_more count

-- an end, as a source tells it
abbrev pub answer_of : Result Offer NoOffer → Result Offer SourceFault
answer_of (Ok o) = Ok o
answer_of (Err (no_offer.Failed t)) = Err fault.Trouble
answer_of (Err no_offer.Memory) = Err fault.Memory

-- what a source answers, by the number of its last query, and the trouble that it keeps
abbrev pub Answers : ℕ → Labels → LinkState → LinkState → Option Trouble → Result Offer SourceFault → Type 0
Answers last name old new trouble (Ok o) = (trouble ≡ None) × IsAnswered last name old new o
Answers last name old new trouble (Err fault.Trouble) = (t : Trouble) × (trouble ≡ Some t) × HasFailed 3 last name old new t
Answers last name old new trouble (Err fault.Memory) = trouble ≡ None

-- what a source was lent: a link, and what its counts were then
abbrev pub lent_of : ℕ → Counts → List ℕ
lent_of link before = link ∷ before.exchanges ∷ before.faults ∷ []

-- what a source over a link tells of itself as of every source
abbrev pub source_state : LinkState → ℕ → ℕ → Option Trouble → List ℕ → RuleSourceState
source_state link asks troubles trouble lent = record {
  zones = option_map told link.zones;
  asks = asks;
  troubles = troubles;
  failed = is_some trouble;
  room = 0;
  kept = [];
  fetched = asks;
  lent = lent;
}

-- the trouble of the last offer, of which a link still tells: three tries of one way failed since these counts
pub record WasTrouble (before : Counts) (now : LinkState) (trouble : Trouble) : Type 0 where
  pub id : ℕ
  pub name : Labels
  pub number : id < 2 ^ 16
  pub named : IsName name
  pub query : now.query ≡ query_bytes id name
  pub rose : many_more before.exchanges 3 ≤ now.exchanges
  pub fault : (trouble ≡ LinkFault) ↔ (now.recent ≢ 0)
  pub blamed : trouble ≡ LinkFault → Rose before.faults now.faults
  pub read : trouble ≢ LinkFault → IsRead id name now.way now.held (reading.Faulty trouble)
  pub told : WhereTold now.zones (λ zones. (trouble ≡ LinkFault) × (3 ≤ now.recent))

-- what a source keeps of the link that it was lent, since these counts: each ask began an exchange, and at most two of a link that
-- tells zones if none failed; and it is as the trouble of the last offer says
pub record Keeps (before : Counts) (now : LinkState) (asks : ℕ) (last : Option Trouble) : Type 0 where
  pub rose : many_more before.exchanges asks ≤ now.exchanges
  pub faults : before.faults ≤ now.faults
  pub calm : WhereTold now.zones
      (λ zones. now.faults ≡ before.faults → now.faults < 2 ^ 64 - 1 → now.exchanges ≤ before.exchanges + 2 * asks)
  pub trouble : (trouble : Trouble) → last ≡ Some trouble → WasTrouble before now trouble
