-- Telephone numbers as they are typed (RFC 6116, section 3.2; the accepted spellings are this project's own).
use Rattle.std.specs.Prelude.{◌≡◌, ◌≢◌, ℕ, ◌<◌, ◌≤◌, Bool, true, false, ◌||◌, ◌==◌, List, [], ◌∷◌, ◌++◌, length, take}
use Rattle.std.specs.Prelude.{drop, filter, map, reverse, codes, flat_map, Some, slice_get}
use Rattle.std.specs.Char.{is_ascii_digit}
use Rattle.std.specs.List.{AllPass}
use Rattle.dns_name.specs.Name.{label_wire}
pub use Rattle.service_field.specs.Services.{plus}
use Rattle.enum_app.specs.declared.number.NumberFault.{NumberFault}
use Rattle.enum_app.specs.declared.number.NumberFault.TheVariants.{NoPlus, NoDigit, TooLong, BadChar}

-- a byte that may stand between digits: a blank, ( ) - or .
abbrev pub is_separator : ℕ → Bool
is_separator b = b == 32 || b == 40 || b == 41 || b == 45 || b == 46

abbrev pub is_number_byte : ℕ → Bool
is_number_byte b = is_ascii_digit b || is_separator b

-- the digits of a text, in order
abbrev pub digits_of : List ℕ → List ℕ
digits_of text = filter is_ascii_digit text

-- a plus sign, and then digits and separators, with at most fifteen digits
pub record IsSpelled (text : List ℕ) : Type 0 where
  pub sign : slice_get text 0 ≡ Some plus
  pub bytes : AllPass is_number_byte (drop 1 text)
  pub most : length (digits_of text) ≤ 15

-- a text is a number: it is spelled as one and has a digit
pub record IsNumber (text : List ℕ) : Type 0 where
  pub spelled : IsSpelled text
  pub some : 0 < length (digits_of text)

-- the byte at this place is the first that breaks the spelling, and it passes this test
pub record BreaksAt (text : List ℕ) (at : ℕ) (Breaks : ℕ → Type 0) : Type 0 where
  pub front : IsSpelled (take at text)
  pub byte : ℕ
  pub here : slice_get text at ≡ Some byte
  pub breaks : Breaks byte

-- the fault of a text that is no number: the first by place
abbrev pub HasNumberFault : List ℕ → NumberFault → Type 0
HasNumberFault text NoPlus = slice_get text 0 ≢ Some plus
HasNumberFault text NoDigit = IsSpelled text × (digits_of text ≡ [])
HasNumberFault text (TooLong at) =
    BreaksAt text at (λ b. (is_ascii_digit b ≡ true) × (length (digits_of (take at text)) ≡ 15))
HasNumberFault text (BadChar at) = BreaksAt text at (λ b. is_number_byte b ≡ false)

-- the labels of a number under an apex: its digits, the last one first, each a label (RFC 6116, section 3.2)
abbrev pub key_labels : List ℕ → List (List ℕ) → List (List ℕ)
key_labels digits apex = map (λ digit. digit ∷ []) (reverse digits) ++ apex

-- the wire form of those labels without an apex (RFC 1035, section 3.1)
abbrev pub labels_wire : List ℕ → List ℕ
labels_wire digits = flat_map label_wire (key_labels digits [])

-- the domain under which telephone numbers stand (RFC 6116, section 1.2)
abbrev pub e164_arpa : List (List ℕ)
e164_arpa = codes "e164" ∷ codes "arpa" ∷ []
