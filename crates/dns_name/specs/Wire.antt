-- Names in messages, where pointers stand for names before them (RFC 1035, sections 3.1 and 4.1.4).
use Rattle.std.specs.Prelude.{◌≡◌, ◌⊎◌, ℕ, ◌+◌, ◌-◌, ◌*◌, ◌<◌, ◌≤◌, List, [], ◌∷◌, ◌++◌, length, take, drop, Option, Some, None, unwrap_or}
use Rattle.dns_name.specs.Name.{IsLabel, label_wire, wire_of}
use Rattle.dns_name.specs.declared.wire_fault.WireFault.{WireFault}
use Rattle.dns_name.specs.declared.wire_fault.WireFault.TheVariants.{Short, BadLabelType, ForwardPointer, NameTooLong}
use Rattle.dns_name.specs.declared.wire_fault.WithinFault.{WithinFault}
use Rattle.dns_name.specs.declared.wire_fault.WithinFault.TheVariants.{Shape, Wire}

-- these bytes stand at a place of a message
abbrev pub StandsAt : List ℕ → ℕ → List ℕ → Type 0
StandsAt message at bytes = take (length bytes) (drop at message) ≡ bytes

-- the root stands there: a zero byte (RFC 1035, 3.1)
abbrev pub RootAt : List ℕ → ℕ → Type 0
RootAt message at = StandsAt message at (0 ∷ [])

-- a label stands there: a length byte of 1 to 63, and as many bytes (RFC 1035, 3.1)
abbrev pub LabelAt : List ℕ → ℕ → List ℕ → Type 0
LabelAt message at label = StandsAt message at (label_wire label) × IsLabel label

-- a pointer stands there: two bytes, whose first two bits are 11 and whose other 14 are an offset (RFC 1035, 4.1.4)
abbrev pub PointerAt : List ℕ → ℕ → ℕ → Type 0
PointerAt message at offset =
    (high : ℕ) × (low : ℕ) × StandsAt message at (high ∷ low ∷ []) × (192 ≤ high) × (offset ≡ 256 * (high - 192) + low)

-- what a name is read through before its root: labels, and pointers to offsets
pub data Field : Type 0 where
  by_label : List ℕ → Field
  by_pointer : ℕ → Field

-- such fields lead from a place to another: a label to what stands after it, a pointer to its offset. There a label run begins.
-- The offset is less than the start of the run that the pointer ends
abbrev pub Leads : List ℕ → ℕ → ℕ → List Field → ℕ → ℕ → Type 0
Leads message start at [] start' at' = (start ≡ start') × (at ≡ at')
Leads message start at (by_label label ∷ fields) start' at' =
    LabelAt message at label × Leads message start (at + (length label + 1)) fields start' at'
Leads message start at (by_pointer offset ∷ fields) start' at' =
    PointerAt message at offset × (offset < start) × Leads message offset offset fields start' at'

-- the labels among the fields
abbrev pub labels_in : List Field → List (List ℕ)
labels_in [] = []
labels_in (by_label label ∷ fields) = label ∷ labels_in fields
labels_in (by_pointer offset ∷ fields) = labels_in fields

-- the place after the first pointer
abbrev pub after_pointer : ℕ → List Field → Option ℕ
after_pointer at [] = None
after_pointer at (by_label label ∷ fields) = after_pointer (at + (length label + 1)) fields
after_pointer at (by_pointer offset ∷ fields) = Some (at + 2)

-- a name at a place, and the place after it: after its first pointer, or where it has none after its root
pub record NameAt (message : List ℕ) (at : ℕ) (labels : List (List ℕ)) (next : ℕ) : Type 0 where
  pub fields : List Field
  pub start : ℕ
  pub root : ℕ
  pub leads : Leads message at at fields start root
  pub end : RootAt message root
  pub spelt : labels ≡ labels_in fields
  pub short : length (wire_of labels) ≤ 255
  pub after : next ≡ unwrap_or (after_pointer at fields) (root + 1)

-- a name that is read as far as a place, in the run that begins at `start`: these labels stand before, and they fit a name
pub record Reaches (message : List ℕ) (at : ℕ) (labels : List (List ℕ)) (start here : ℕ) : Type 0 where
  pub fields : List Field
  pub leads : Leads message at at fields start here
  pub spelt : labels ≡ labels_in fields
  pub short : length (wire_of labels) ≤ 255

-- the label or pointer that begins at a place does not lie wholly in the message: there is no byte, a length byte with too few
-- after it, or the first byte of a pointer alone
abbrev pub FieldIsCut : List ℕ → ℕ → Type 0
FieldIsCut message at =
    (length message ≤ at)
    ⊎ (((size : ℕ) × StandsAt message at (size ∷ []) × (0 < size) × (size ≤ 63) × (length message < at + (size + 1)))
    ⊎ ((high : ℕ) × StandsAt message at (high ∷ []) × (192 ≤ high) × (length message < at + 2)))

-- a length byte whose first two bits are 01 or 10 (RFC 1035, 4.1.4: reserved)
abbrev pub IsBadType : List ℕ → ℕ → Type 0
IsBadType message at = (byte : ℕ) × StandsAt message at (byte ∷ []) × (64 ≤ byte) × (byte < 192)

-- a name that is read as far as the place of its fault, and what breaks it there
abbrev pub NameBreaks : List ℕ → ℕ → WireFault → Type 0
NameBreaks message at (Short place) =
    (labels : List (List ℕ)) × (start : ℕ) × Reaches message at labels start place × FieldIsCut message place
NameBreaks message at (BadLabelType place) =
    (labels : List (List ℕ)) × (start : ℕ) × Reaches message at labels start place × IsBadType message place
NameBreaks message at (ForwardPointer place) =
    (labels : List (List ℕ)) × (start : ℕ) × Reaches message at labels start place
    × ((offset : ℕ) × PointerAt message place offset × (start ≤ offset))
NameBreaks message at (NameTooLong place) =
    (labels : List (List ℕ)) × (start : ℕ) × Reaches message at labels start place
    × ((label : List ℕ) × LabelAt message place label × (255 < length (wire_of (labels ++ label ∷ []))))

-- the first label run of a name, read as far as a place, has a label or pointer there that does not lie wholly in the bytes
abbrev pub RunIsCut : List ℕ → ℕ → ℕ → Type 0
RunIsCut bytes at place = (labels : List (List ℕ)) × Reaches bytes at labels at place × FieldIsCut bytes place

-- a name whose first label run lies before `to`
abbrev pub NameWithin : List ℕ → ℕ → ℕ → List (List ℕ) → ℕ → Type 0
NameWithin message at to labels next = NameAt message at labels next × (next ≤ to)

-- where there is none: the first run is cut in the bytes before `to`, or else the name is broken
abbrev pub WithinBreaks : List ℕ → ℕ → ℕ → WithinFault → Type 0
WithinBreaks message at to (Shape place) = RunIsCut (take to message) at place
WithinBreaks message at to (Wire fault) = NameBreaks message at fault × ((place : ℕ) → ¬ RunIsCut (take to message) at place)
