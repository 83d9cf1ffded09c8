-- Names as text (RFC 1035, section 5.1; which bytes are escaped in writing is this project's own).
use Rattle.std.specs.Prelude.{◌≡◌, ◌≢◌, ◌⊎◌, ℕ, ◌≤◌, nat_le, List, [], ◌∷◌, ◌++◌, length, Bool, ◌&&◌, ◌||◌, IsTrue}
use Rattle.std.specs.Prelude.{IsFalse, if◌then◌else◌, ◌==◌, Option, Some, None, option_map}
use Rattle.std.specs.Borrow.{Bor}
use Rattle.std.specs.List.{flat_map}
use Rattle.std.specs.Char.{is_ascii_digit}
pub use Rattle.enum_base.specs.Escapes.{backslash, decimal_of}
use Rattle.enum_base.specs.Escapes.{decimal_escape}
use Rattle.dns_name.specs.Name.{IsLabel}

abbrev pub dot : ℕ
dot = 46

-- A text stands for one byte where it is this byte, but no dot and no backslash ..
abbrev pub IsUnescaped : List ℕ → ℕ → Type 0
IsUnescaped text byte = (text ≡ byte ∷ []) × (byte ≢ dot) × (byte ≢ backslash)

-- .. or a backslash and this byte, which is no digit ..
abbrev pub IsQuoted : List ℕ → ℕ → Type 0
IsQuoted text byte = (text ≡ backslash ∷ byte ∷ []) × IsFalse (is_ascii_digit byte)

-- .. or a backslash and its number in three digits
abbrev pub IsDecimal : List ℕ → ℕ → Type 0
IsDecimal text byte =
    (x : ℕ) × (y : ℕ) × (z : ℕ) × (text ≡ backslash ∷ x ∷ y ∷ z ∷ []) × IsTrue (is_ascii_digit x)
    × IsTrue (is_ascii_digit y) × IsTrue (is_ascii_digit z) × (byte ≡ decimal_of x y z) × (byte ≤ 255)

-- a text stands for one byte of a label
abbrev pub SpellsByte : List ℕ → ℕ → Type 0
SpellsByte text byte = IsUnescaped text byte ⊎ (IsQuoted text byte ⊎ IsDecimal text byte)

-- a text is cut into texts that stand for these bytes in turn
abbrev pub SpellsBytes : List ℕ → List ℕ → Type 0
SpellsBytes text [] = text ≡ []
SpellsBytes text (byte ∷ bytes) =
    (first : List ℕ) × (rest : List ℕ) × (text ≡ first ++ rest) × SpellsByte first byte × SpellsBytes rest bytes

-- a text is cut into texts of these labels, each with a dot after it
abbrev pub SpellsDotted : List ℕ → List (List ℕ) → Type 0
SpellsDotted text [] = text ≡ []
SpellsDotted text (label ∷ labels) =
    (first : List ℕ) × (rest : List ℕ) × (text ≡ first ++ dot ∷ rest) × SpellsBytes first label × IsLabel label × SpellsDotted rest labels

-- an absolute text of these labels: the dot of the root alone, or one or more labels with a dot after each
abbrev pub IsAbsolute : List ℕ → List (List ℕ) → Type 0
IsAbsolute text [] = text ≡ dot ∷ []
IsAbsolute text (label ∷ labels) = SpellsDotted text (label ∷ labels)

-- a relative text of these labels: no dot stands after the last
abbrev pub IsRelative : List ℕ → List (List ℕ) → Type 0
IsRelative text labels =
    (front : List ℕ) × (back : List ℕ) × (dotted : List (List ℕ)) × (last : List ℕ) × (text ≡ front ++ back)
    × (labels ≡ dotted ++ last ∷ []) × SpellsDotted front dotted × SpellsBytes back last × IsLabel last

-- the labels of an origin that is lent
abbrev pub labels_lent : Option (Bor (List (List ℕ))) → Option (List (List ℕ))
labels_lent origin = option_map (λ name. name.now) origin

-- a text and an origin stand for these labels: a relative text has those of the origin after its own
abbrev pub StandsFor : List ℕ → Option (List (List ℕ)) → List (List ℕ) → Type 0
StandsFor text None labels = IsAbsolute text labels
StandsFor text (Some origin) labels =
    IsAbsolute text labels ⊎ ((own : List (List ℕ)) × IsRelative text own × (labels ≡ own ++ origin))

-- after whole labels a text has a label without bytes at this place, and it is not the root's text
pub record HasEmptyLabel (text : List ℕ) (at : ℕ) : Type 0 where
  pub front : List ℕ
  pub back : List ℕ
  pub labels : List (List ℕ)
  pub parts : text ≡ front ++ back
  pub place : length front ≡ at
  pub before : SpellsDotted front labels
  pub none : (text ≡ []) ⊎ ((rest : List ℕ) × (back ≡ dot ∷ rest))
  pub no_root : text ≢ dot ∷ []

-- after whole labels a text has 64 bytes of one label, which begins at this place
pub record HasLongLabel (text : List ℕ) (at : ℕ) : Type 0 where
  pub front : List ℕ
  pub middle : List ℕ
  pub back : List ℕ
  pub labels : List (List ℕ)
  pub label : List ℕ
  pub parts : text ≡ front ++ (middle ++ back)
  pub place : length front ≡ at
  pub before : SpellsDotted front labels
  pub bytes : SpellsBytes middle label
  pub long : length label ≡ 64

-- a text begins with a backslash, and no front of it stands for a byte
abbrev pub BeginsIllFormed : List ℕ → Type 0
BeginsIllFormed text =
    ((rest : List ℕ) × (text ≡ backslash ∷ rest)) × ((first : List ℕ) (rest : List ℕ) (byte : ℕ) → text ≡ first ++ rest → SpellsByte first byte → ⊥)

-- after whole labels and at most 63 bytes of one more, an ill-formed escape begins at this place
pub record HasBadEscape (text : List ℕ) (at : ℕ) : Type 0 where
  pub front : List ℕ
  pub middle : List ℕ
  pub back : List ℕ
  pub labels : List (List ℕ)
  pub label : List ℕ
  pub parts : text ≡ front ++ (middle ++ back)
  pub place : length (front ++ middle) ≡ at
  pub before : SpellsDotted front labels
  pub bytes : SpellsBytes middle label
  pub short : length label ≤ 63
  pub ill_formed : BeginsIllFormed back

-- a byte that is written as it is
abbrev pub is_visible : ℕ → Bool
is_visible byte = nat_le 33 byte && nat_le byte 126

-- a byte that is written with a backslash before it: . \ " ; ( ) @ $
abbrev pub is_special : ℕ → Bool
is_special byte =
    byte == 46 || byte == 92 || byte == 34 || byte == 59 || byte == 40 || byte == 41 || byte == 64 || byte == 36

-- how a byte of a label is written: itself, with a backslash before it, or as a backslash and three digits
abbrev pub byte_text : ℕ → List ℕ
byte_text byte =
    if is_special byte then backslash ∷ byte ∷ []
    else if is_visible byte then byte ∷ []
    else decimal_escape byte

-- how a label is written: its bytes and a dot
abbrev pub label_text : List ℕ → List ℕ
label_text label = flat_map byte_text label ++ dot ∷ []

-- how a name is written: its labels, or a dot alone for the root
abbrev pub text_of : List (List ℕ) → List ℕ
text_of [] = dot ∷ []
text_of (label ∷ labels) = flat_map label_text (label ∷ labels)
