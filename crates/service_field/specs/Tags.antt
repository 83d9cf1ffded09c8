-- Tags, and items made of them (RFC 6116, section 3.4.3; RFC 3958, section 6.5; that one alphabet serves services and
-- protocols is this project's own).
use Rattle.std.specs.Prelude.{◌≡◌, ℕ, ◌<◌, ◌≤◌, Bool, true, false, ◌||◌, ◌==◌, nat_lt, if◌then◌else◌, List, [], ◌∷◌, length, map, drop}
use Rattle.std.specs.Char.{is_ascii_alphabetic, is_ascii_alphanumeric}
use Rattle.std.specs.List.{All, AllPass, after_first, before_first, join_with_byte, position_or_len, slice_split}
use Rattle.service_field.specs.declared.alphabet.Alphabet.{Alphabet}
use Rattle.service_field.specs.declared.alphabet.Alphabet.TheVariants.{Enum, Snaptr}

-- the byte between tags of an item
abbrev pub colon : ℕ
colon = 58

-- a byte of a tag: of ENUM a letter, a digit or -; of S-NAPTR also + and .
abbrev pub is_tag_byte : Alphabet → ℕ → Bool
is_tag_byte Enum b = is_ascii_alphanumeric b || b == 45
is_tag_byte Snaptr b = is_ascii_alphanumeric b || b == 43 || b == 45 || b == 46

-- a byte with which a tag begins: of ENUM any byte of a tag, of S-NAPTR a letter
abbrev pub is_first_byte : Alphabet → ℕ → Bool
is_first_byte Enum b = is_tag_byte Enum b
is_first_byte Snaptr b = is_ascii_alphabetic b

-- a tag may begin where this text begins
abbrev pub begins_tag : Alphabet → List ℕ → Bool
begins_tag alphabet [] = false
begins_tag alphabet (b ∷ rest) = is_first_byte alphabet b

-- a tag has at least the byte with which it begins, and at most 32
pub record IsTag (alphabet : Alphabet) (tag : List ℕ) : Type 0 where
  pub first : begins_tag alphabet tag ≡ true
  pub bytes : AllPass (is_tag_byte alphabet) tag
  pub short : length tag ≤ 32

-- an item is a list of tags: of ENUM a type and its subtypes, of S-NAPTR a service and its protocols
abbrev pub Item : Type 0
Item = List (List ℕ)

-- an item has at least one tag, and each is one
pub record IsItem (alphabet : Alphabet) (item : Item) : Type 0 where
  pub tags : All (IsTag alphabet) item
  pub some : 0 < length item

-- what an S-NAPTR list asks for: a service, and at most one protocol
pub record IsPair (item : Item) : Type 0 where
  pub is : IsItem Snaptr item
  pub most : length item ≤ 2

-- items in a row: there is at least one, and each is one
pub record AreItems (IsOne : Item → Type 0) (items : List Item) : Type 0 where
  pub each : All IsOne items
  pub some : 0 < length items

-- its first tag: the type, or the service
abbrev pub first_tag : Item → List ℕ
first_tag [] = []
first_tag (tag ∷ tags) = tag

-- its other tags: the subtypes, or the protocols
abbrev pub other_tags : Item → List (List ℕ)
other_tags item = drop 1 item

-- the text of an item: its tags with : between them
abbrev pub item_text : Item → List ℕ
item_text item = join_with_byte colon item

-- the tags of an item's text: what stands between its colons
abbrev pub tags_of : List ℕ → Item
tags_of text = slice_split (λ b. b == colon) text

-- a text cut at its first colon, where it has one
abbrev pub cut_once : List ℕ → Item
cut_once text =
    if nat_lt (position_or_len (λ b. b == colon) text) (length text)
    then before_first (λ b. b == colon) text ∷ after_first (λ b. b == colon) text ∷ []
    else text ∷ []

-- the items of a text whose items stand between bytes of that kind
abbrev pub items_of : ℕ → List ℕ → List Item
items_of separator text = map tags_of (slice_split (λ b. b == separator) text)
