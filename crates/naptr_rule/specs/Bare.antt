-- The RDATA of a rule by itself, with no message round it that a pointer could lead into (RFC 3403, section 4.1; RFC 1035, sections
-- 3.1 and 3.3).
use Rattle.std.specs.Prelude.{◌≡◌, ◌⊎◌, ℕ, ◌+◌, ◌<◌, ◌≤◌, List, [], ◌∷◌, ◌++◌, length, Result, Ok, Err}
use Rattle.std.specs.List.{flat_map}
use Rattle.dns_name.specs.Name.{IsName, label_wire, wire_of}
use Rattle.dns_name.specs.Wire.{StandsAt, LabelAt}
use Rattle.naptr_rule.specs.Fields.{RuleBy}
use Rattle.naptr_rule.specs.declared.rdata_fault.RdataFault.{RdataFault}
use Rattle.naptr_rule.specs.declared.rdata_fault.RdataFault.TheVariants.{Short, BadName, Trailing}
use Rattle.naptr_rule.specs.declared.rule.Naptr.{Naptr}

-- the labels of a name stand one after another, from a place to another
abbrev pub LabelsStand : List ℕ → ℕ → List (List ℕ) → ℕ → Type 0
LabelsStand bytes at labels place =
    IsName labels × StandsAt bytes at (flat_map label_wire labels) × (place ≡ at + length (flat_map label_wire labels))

-- the label that begins at a place does not lie in the bytes: no length byte stands there, or too few bytes after it
abbrev pub LabelIsCut : List ℕ → ℕ → Type 0
LabelIsCut bytes at = (length bytes ≤ at) ⊎ ((size : ℕ) × StandsAt bytes at (size ∷ []) × (size ≤ 63) × (length bytes < at + (size + 1)))

-- after these labels stands a length byte whose first two bits are not 00, or a label with which the name passes 255 bytes
abbrev pub LabelIsBad : List ℕ → List (List ℕ) → ℕ → Type 0
LabelIsBad bytes labels at =
    ((byte : ℕ) × StandsAt bytes at (byte ∷ []) × (64 ≤ byte))
    ⊎ ((label : List ℕ) × LabelAt bytes at label × (255 < length (wire_of (labels ++ label ∷ []))))

-- a name without pointers, or the first of its labels that is none
abbrev pub BareName : List ℕ → ℕ → Result (List (List ℕ) × ℕ) RdataFault → Type 0
BareName bytes at result =
    ((labels : List (List ℕ)) × IsName labels × StandsAt bytes at (wire_of labels) × (result ≡ Ok (labels, at + length (wire_of labels))))
    ⊎ ((labels : List (List ℕ)) × (place : ℕ) × LabelsStand bytes at labels place
    × ((LabelIsCut bytes place × (result ≡ Err (Short place))) ⊎ (LabelIsBad bytes labels place × (result ≡ Err (BadName place)))))

-- the rule of the RDATA, or what breaks it
abbrev pub BareRule : List ℕ → Result Naptr RdataFault → Type 0
BareRule bytes = RuleBy Short Trailing (BareName bytes) bytes 0 (length bytes)
