-- Domain names as lists of labels, and their wire form (RFC 1035, sections 2.3.4 and 3.1).
use Rattle.std.specs.Prelude.{◌≡◌, ℕ, zero, suc, ◌<◌, ◌≤◌, nat_le, List, [], ◌∷◌, ◌++◌, map, length, take, drop, if◌then◌else◌, Option, Some, None}
use Rattle.std.specs.List.{AllByRecursion, flat_map}
use Rattle.std.specs.declared.cmp.Ordering.{Ordering}
use Rattle.std.specs.Ordering.{nat_cmp}
use Rattle.std.specs.Cmp.Lexicographic.{slice_cmp}
use Rattle.enum_base.specs.Folding.{folded}
use Rattle.enum_base.specs.Padding.{padded}
pub use Rattle.enum_base.specs.Texts.{IsByte}

-- names, as lists of labels
abbrev pub Labels : Type 0
Labels = List (List ℕ)

-- a label has 1 to 63 bytes (RFC 1035, 2.3.4)
pub record IsLabel (label : List ℕ) : Type 0 where
  pub some : 0 < length label
  pub most : length label ≤ 63
  pub bytes : AllByRecursion IsByte label

-- a label on the wire: a length byte, then its bytes (RFC 1035, 3.1)
abbrev pub label_wire : List ℕ → List ℕ
label_wire label = length label ∷ label

-- a name on the wire: its labels, the leftmost first, then the zero byte of the root (RFC 1035, 3.1)
abbrev pub wire_of : List (List ℕ) → List ℕ
wire_of labels = flat_map label_wire labels ++ 0 ∷ []

-- the labels of a name: each is a label, and the wire form has at most 255 bytes (RFC 1035, 2.3.4)
pub record IsName (labels : List (List ℕ)) : Type 0 where
  pub each : AllByRecursion IsLabel labels
  pub short : length (wire_of labels) ≤ 255

-- the labels with A to Z made small (RFC 4343)
abbrev pub folded_labels : List (List ℕ) → List (List ℕ)
folded_labels labels = map folded labels

-- two names are the same where their folded labels are equal (RFC 4343)
abbrev pub AreSame : List (List ℕ) → List (List ℕ) → Type 0
AreSame one other = folded_labels one ≡ folded_labels other

-- a name is at or below another that is the same as its last labels (RFC 1034, 3.1)
abbrev pub IsBelow : List (List ℕ) → List (List ℕ) → Type 0
IsBelow name top = (front : List (List ℕ)) × (back : List (List ℕ)) × (name ≡ front ++ back) × AreSame back top

-- the order of names: by their wire bytes, with A to Z as small letters (this project's own)
abbrev pub folded_order : List (List ℕ) → List (List ℕ) → Ordering
folded_order one other = slice_cmp nat_cmp (folded (wire_of one)) (folded (wire_of other))

-- the name above one: all its labels but the first; the root has none (RFC 1034, 3.1)
abbrev pub parent_of : List (List ℕ) → Option (List (List ℕ))
parent_of [] = None
parent_of (label ∷ labels) = Some labels

-- the label of wildcards (RFC 4592, 2.1.1)
abbrev pub star : List ℕ
star = 42 ∷ []

-- these labels, where their wire form fits a name
abbrev pub name_within : List (List ℕ) → Option (List (List ℕ))
name_within labels = if nat_le (length (wire_of labels)) 255 then Some labels else None

-- the labels that some wire bytes spell, at most that many
unfoldable pub labels_within : ℕ → List ℕ → List (List ℕ)
labels_within zero bytes = []
labels_within (suc more) [] = []
labels_within (suc more) (zero ∷ rest) = []
labels_within (suc more) (suc size ∷ rest) = take (suc size) rest ∷ labels_within more (drop (suc size) rest)

-- the labels that wire bytes spell
unfoldable pub labels_of : List ℕ → List (List ℕ)
labels_of bytes = labels_within (length bytes) bytes

-- these bytes are the wire form of a name
pub record IsWire (bytes : List ℕ) : Type 0 where
  pub wire : wire_of (labels_of bytes) ≡ bytes
  pub name : IsName (labels_of bytes)

-- the first cells of a row are the wire form of a name, and the others are zero
pub record IsRow (len : ℕ) (row : List ℕ) : Type 0 where
  pub front : length (take len row) ≡ len
  pub rest : padded 255 (take len row) ≡ row
  pub spelt : IsWire (take len row)
