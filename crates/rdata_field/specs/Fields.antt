-- The fields of RDATA (RFC 1035, sections 3.3, 3.4 and 4.1.4; RFC 3596, section 2.2). A reading tells what stands at a place: a value and
-- the place after it, or what breaks it there. The RDATA ends at `to`, and none of its fields may pass that place.
use Rattle.std.specs.Prelude.{◌≡◌, ◌⊎◌, ℕ, ◌+◌, ◌<◌, ◌≤◌, ◌^◌, List, [], ◌∷◌, length, Result, Ok, Err}
use Rattle.std.specs.Int.{w16, w32, to_be_bytes}
use Rattle.dns_name.specs.Wire.{StandsAt, NameWithin, WithinBreaks}
use Rattle.dns_name.specs.declared.wire_fault.WithinFault.{WithinFault}
use Rattle.dns_name.specs.declared.wire_fault.WithinFault.TheVariants as within
use Rattle.rdata_field.specs.Strings.{string_wire}
use Rattle.rdata_field.specs.declared.in_fault.InFault.{InFault}
use Rattle.rdata_field.specs.declared.in_fault.InFault.TheVariants.{Shape, Name}

-- these bytes stand at a place and end before `to`, or there
abbrev pub StandsWithin : List ℕ → ℕ → ℕ → List ℕ → Type 0
StandsWithin message at to bytes = StandsAt message at bytes × (at + length bytes ≤ to)

-- a number of 16 bits, the high byte first; or its two bytes do not lie before `to`, which is the fault of its place
abbrev pub U16By : {F : Type 0} → (ℕ → F) → List ℕ → ℕ → ℕ → Result (ℕ × ℕ) F → Type 0
U16By cut message to at result =
    ((value : ℕ) × (value < 2 ^ 16) × StandsWithin message at to (to_be_bytes w16 value) × (result ≡ Ok (value, at + 2)))
    ⊎ ((to < at + 2) × (result ≡ Err (cut at)))

-- a number of 32 bits, the high byte first; or its four bytes do not lie before `to`, which is the fault of its place
abbrev pub U32By : {F : Type 0} → (ℕ → F) → List ℕ → ℕ → ℕ → Result (ℕ × ℕ) F → Type 0
U32By cut message to at result =
    ((value : ℕ) × (value < 2 ^ 32) × StandsWithin message at to (to_be_bytes w32 value) × (result ≡ Ok (value, at + 4)))
    ⊎ ((to < at + 4) × (result ≡ Err (cut at)))

-- a character-string does not lie before `to`: no length byte stands there, or too few bytes after it
abbrev pub TextIsCut : List ℕ → ℕ → ℕ → Type 0
TextIsCut message to at = (to ≤ at) ⊎ ((size : ℕ) × StandsAt message at (size ∷ []) × (to < at + (size + 1)))

-- a character-string: a length byte, and as many bytes (RFC 1035, 3.3); or it does not lie before `to`
abbrev pub TextBy : {F : Type 0} → (ℕ → F) → List ℕ → ℕ → ℕ → Result (List ℕ × ℕ) F → Type 0
TextBy cut message to at result =
    ((text : List ℕ) × (length text ≤ 255) × StandsWithin message at to (string_wire text) × (result ≡ Ok (text, at + (length text + 1))))
    ⊎ (TextIsCut message to at × (result ≡ Err (cut at)))

-- a value whose last field ends where the RDATA does; or it ends before, which is the fault of that place
abbrev pub EndsBy : {A F : Type 0} → (ℕ → F) → ℕ → A → ℕ → Result A F → Type 0
EndsBy left to value at result = ((at ≡ to) × (result ≡ Ok value)) ⊎ ((at < to) × (result ≡ Err (left at)))

-- the fields of RDATA in a message: what does not lie before `to`, or leaves bytes before it, is a fault of shape
abbrev pub U16In : List ℕ → ℕ → ℕ → Result (ℕ × ℕ) InFault → Type 0
U16In = U16By Shape

abbrev pub U32In : List ℕ → ℕ → ℕ → Result (ℕ × ℕ) InFault → Type 0
U32In = U32By Shape

abbrev pub TextIn : List ℕ → ℕ → ℕ → Result (List ℕ × ℕ) InFault → Type 0
TextIn = TextBy Shape

-- an address of that many bytes; or they do not lie before `to`
abbrev pub AddressIn : ℕ → List ℕ → ℕ → ℕ → Result (List ℕ × ℕ) InFault → Type 0
AddressIn size message to at result =
    ((bytes : List ℕ) × (length bytes ≡ size) × StandsWithin message at to bytes × (result ≡ Ok (bytes, at + size)))
    ⊎ ((to < at + size) × (result ≡ Err (Shape at)))

abbrev pub EndsIn : {A : Type 0} → ℕ → A → ℕ → Result A InFault → Type 0
EndsIn = EndsBy Shape

-- what breaks a name breaks the RDATA
abbrev pub in_fault : WithinFault → InFault
in_fault (within.Shape at) = Shape at
in_fault (within.Wire fault) = Name fault

-- a name, whose first label run lies before `to`; or what breaks it (RFC 1035, 4.1.4)
abbrev pub NameIn : List ℕ → ℕ → ℕ → Result (List (List ℕ) × ℕ) InFault → Type 0
NameIn message to at result =
    ((labels : List (List ℕ)) × (next : ℕ) × NameWithin message at to labels next × (result ≡ Ok (labels, next)))
    ⊎ ((fault : WithinFault) × WithinBreaks message at to fault × (result ≡ Err (in_fault fault)))
