-- What the code reads at a place of a name in a message. It serves the proofs alone.
use Rattle.std.specs.Prelude.{◌≡◌, ℕ, ◌+◌, List, length, take, drop, Option, Some, None, Result, Ok, Err}
use Rattle.dns_name.specs.Wire.{RootAt, LabelAt, PointerAt, FieldIsCut, IsBadType, NameAt, NameBreaks, NameWithin, WithinBreaks}
use Rattle.dns_name.specs.declared.field.Field.{Field}
use Rattle.dns_name.specs.declared.field.Field.TheVariants.{Root, Label, Pointer}
use Rattle.dns_name.specs.declared.wire_fault.WireFault.{WireFault}
use Rattle.dns_name.specs.declared.wire_fault.WithinFault.{WithinFault}
use Rattle.dns_name.specs.declared.wire_fault.WireFault.TheVariants.{Short, BadLabelType, ForwardPointer, NameTooLong}

-- the bytes of a label of that size, whose length byte stands at a place
abbrev pub label_bytes : List ℕ → ℕ → ℕ → List ℕ
label_bytes message at size = take size (drop (at + 1) message)

-- the root's byte, a label of that size, a pointer to that offset, or why it is none of these
abbrev pub IsField : List ℕ → ℕ → Result Field WireFault → Type 0
IsField message at (Ok Root) = RootAt message at
IsField message at (Ok (Label size)) =
    LabelAt message at (label_bytes message at size) × (length (label_bytes message at size) ≡ size)
IsField message at (Ok (Pointer offset)) = PointerAt message at offset
IsField message at (Err (Short place)) = (place ≡ at) × FieldIsCut message at
IsField message at (Err (BadLabelType place)) = (place ≡ at) × IsBadType message at
IsField message at (Err (ForwardPointer place)) = ⊥
IsField message at (Err (NameTooLong place)) = ⊥

-- the name at a place and the place after it, or what breaks it
abbrev pub IsAnswer : List ℕ → ℕ → Result (List (List ℕ) × ℕ) WireFault → Type 0
IsAnswer message at (Ok (labels, next)) = NameAt message at labels next
IsAnswer message at (Err fault) = NameBreaks message at fault

-- the name whose first label run lies before a place, and the place after it, or what breaks it
abbrev pub IsWithin : List ℕ → ℕ → ℕ → Result (List (List ℕ) × ℕ) WithinFault → Type 0
IsWithin message at to (Ok (labels, next)) = NameWithin message at to labels next
IsWithin message at to (Err fault) = WithinBreaks message at to fault

-- the place of a fault that is a cut
abbrev pub cut_place : WireFault → Option ℕ
cut_place (Short place) = Some place
cut_place (BadLabelType place) = None
cut_place (ForwardPointer place) = None
cut_place (NameTooLong place) = None
