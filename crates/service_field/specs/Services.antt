-- The services fields of ENUM rules (RFC 6116, section 3.4.3) and of S-NAPTR rules (RFC 3958, section 6.5), and lists
-- of wanted services (this project's own): which texts spell which items.
use Rattle.std.specs.Prelude.{◌≡◌, ℕ, List, ◌∷◌, take, drop, map, codes, flat_map}
use Rattle.std.specs.List.{join_with_byte}
use Rattle.enum_base.specs.Folding.{folded}
use Rattle.service_field.specs.Tags.{AreItems, IsItem, IsPair, Item, item_text, items_of}
use Rattle.service_field.specs.declared.alphabet.Alphabet.TheVariants.{Enum, Snaptr}

-- the byte before each item of ENUM services
abbrev pub plus : ℕ
plus = 43

-- the byte between items of a wanted list
abbrev pub comma : ℕ
comma = 44

-- the bytes with which services of ENUM begin, with small letters
abbrev pub e2u : List ℕ
e2u = codes "e2u"

-- a text spells ENUM services: E2U in any case, and then each item after a +
pub record SpellsServices (text : List ℕ) (items : List Item) : Type 0 where
  pub head : folded (take 3 text) ≡ e2u
  pub rest : drop 3 text ≡ flat_map (λ item. plus ∷ item_text item) items
  pub are : AreItems (IsItem Enum) items

-- a text spells S-NAPTR services: one item, a service and its protocols
pub record SpellsSnaptr (text : List ℕ) (item : Item) : Type 0 where
  pub whole : text ≡ item_text item
  pub is : IsItem Snaptr item

-- a text spells a list of such items, with , between them
pub record SpellsList (IsOne : Item → Type 0) (text : List ℕ) (items : List Item) : Type 0 where
  pub whole : text ≡ join_with_byte comma (map item_text items)
  pub are : AreItems IsOne items

-- a wanted list of ENUM
abbrev pub SpellsWanted : List ℕ → List Item → Type 0
SpellsWanted text items = SpellsList (IsItem Enum) text items

-- a wanted list of S-NAPTR
abbrev pub SpellsSnaptrWanted : List ℕ → List Item → Type 0
SpellsSnaptrWanted text items = SpellsList IsPair text items

-- the items of ENUM services, which begin after E2U and a +
abbrev pub services_items : List ℕ → List Item
services_items text = items_of plus (drop 4 text)

-- the items of a wanted list, well formed or not
abbrev pub wanted_items : List ℕ → List Item
wanted_items text = items_of comma text
