-- Which services serve what is wanted (RFC 6116, section 3.4.3; RFC 3958, section 2.2.2; what a list asks for is this
-- project's own).
use Rattle.std.specs.Prelude.{◌≡◌, ℕ, Bool, true, false, ◌&&◌, ◌==◌, nat_lt, nat_le, List, [], ◌∷◌, ◌++◌, length, map}
use Rattle.std.specs.Prelude.{bytes_eq, Contains, Option, Some, None, ⊤}
use Rattle.std.specs.List.{All, list_any, list_all}
use Rattle.enum_base.specs.Folding.{folded}
use Rattle.service_field.specs.Tags.{Item, IsItem, IsPair, begins_tag, colon, first_tag, is_tag_byte, other_tags}
use Rattle.service_field.specs.Services.{wanted_items}
use Rattle.service_field.specs.declared.alphabet.Alphabet.{Alphabet}
use Rattle.service_field.specs.declared.alphabet.Alphabet.TheVariants.{Enum, Snaptr}

-- some item of a wanted list is well formed and served; where there is no list, all is served
abbrev pub SomeServed : (Item → Type 0) → (Item → Type 0) → Option (List ℕ) → Type 0
SomeServed IsOne IsServed None = ⊤
SomeServed IsOne IsServed (Some text) = (wanted : Item) × Contains (wanted_items text) wanted × IsOne wanted × IsServed wanted

-- the tags of the first item are the first tags of the other, without regard to case
abbrev pub Begins : Item → Item → Type 0
Begins wanted item = (more : List (List ℕ)) × (map folded item ≡ map folded wanted ++ more)

-- ENUM services serve what is wanted: a well-formed item of the list is the beginning of one of theirs
abbrev pub Fits : Option (List ℕ) → List Item → Type 0
Fits wanted items = SomeServed (IsItem Enum) (λ one. (item : Item) × Contains items item × Begins one item) wanted

-- a tag is one of those, without regard to case
abbrev pub IsAmong : List ℕ → List (List ℕ) → Type 0
IsAmong tag tags = (other : List ℕ) × Contains tags other × (folded tag ≡ folded other)

-- S-NAPTR services offer what an item asks for: its service, and its protocol where it has one, without regard to case
pub record Offers (wanted field : Item) : Type 0 where
  pub service : folded (first_tag wanted) ≡ folded (first_tag field)
  pub protocol : All (λ tag. IsAmong tag (other_tags field)) (other_tags wanted)

-- S-NAPTR services serve what is wanted: they offer what a well-formed item of the list asks for
abbrev pub SnaptrFits : Option (List ℕ) → Item → Type 0
SnaptrFits wanted field = SomeServed IsPair (λ one. Offers one field) wanted

-- the same as tests

-- whether bytes are a tag
abbrev pub is_tag : Alphabet → List ℕ → Bool
is_tag alphabet tag = begins_tag alphabet tag && (nat_le (length tag) 32 && list_all (is_tag_byte alphabet) tag)

-- whether a list of tags is an item
abbrev pub is_item : Alphabet → Item → Bool
is_item alphabet item = nat_lt 0 (length item) && list_all (is_tag alphabet) item

-- whether it is a service and at most one protocol
abbrev pub is_pair : Item → Bool
is_pair item = is_item Snaptr item && nat_le (length item) 2

-- whether two tags are equal but for case
abbrev pub same_tag : List ℕ → List ℕ → Bool
same_tag one other = bytes_eq (folded one) (folded other)

-- whether the tags of the first item are the first tags of the other
abbrev pub begins : Item → Item → Bool
begins [] item = true
begins (tag ∷ tags) [] = false
begins (tag ∷ tags) (other ∷ others) = same_tag tag other && begins tags others

-- whether services offer what an item asks for
abbrev pub offers : Item → Item → Bool
offers wanted field =
    same_tag (first_tag wanted) (first_tag field) && list_all (λ tag. list_any (same_tag tag) (other_tags field)) (other_tags wanted)

-- whether some item of a wanted list is well formed and served
abbrev pub some_served : (Item → Bool) → (Item → Bool) → Option (List ℕ) → Bool
some_served is_one is_served None = true
some_served is_one is_served (Some text) = list_any (λ wanted. is_one wanted && is_served wanted) (wanted_items text)

-- whether ENUM services serve what is wanted
abbrev pub items_serve : Option (List ℕ) → List Item → Bool
items_serve wanted items = some_served (is_item Enum) (λ one. list_any (begins one) items) wanted

-- whether S-NAPTR services serve what is wanted
abbrev pub snaptr_serves : Option (List ℕ) → Item → Bool
snaptr_serves wanted field = some_served is_pair (λ one. offers one field) wanted

-- whether no further byte belongs to the tag before
abbrev pub ends : List ℕ → Bool
ends [] = true
ends (b ∷ rest) = b == colon
