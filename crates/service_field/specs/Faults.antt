-- The first fault, from left to right, of services and of wanted lists (places are this project's own).
use Rattle.std.specs.Prelude.{ℕ, ◌+◌, not, ◌||◌, ◌==◌, Bool, nat_lt, if◌then◌else◌, List, [], ◌∷◌, length, take, drop, bytes_eq, Option, Some, None}
use Rattle.std.specs.List.{position_or_len, slice_split}
use Rattle.std.specs.Option.{option_or}
use Rattle.enum_base.specs.Folding.{folded}
use Rattle.service_field.specs.Tags.{begins_tag, colon, cut_once, is_tag_byte}
use Rattle.service_field.specs.Services.{comma, plus, e2u}
use Rattle.service_field.specs.declared.alphabet.Alphabet.{Alphabet}
use Rattle.service_field.specs.declared.alphabet.Alphabet.TheVariants.{Enum, Snaptr}
use Rattle.service_field.specs.declared.form.Form.{Form}
use Rattle.service_field.specs.declared.form.Form.TheVariants.{EnumItems, EnumList, SnaptrTags, SnaptrList}
use Rattle.service_field.specs.declared.fault.ServiceFault.{ServiceFault}
use Rattle.service_field.specs.declared.fault.ServiceFault.TheVariants.{Empty, NoE2u, BadTag, TagTooLong, Trailing}

-- how many bytes of a tag a text begins with
abbrev pub run_of : Alphabet → List ℕ → ℕ
run_of alphabet text = position_or_len (λ b. not (is_tag_byte alphabet b)) text

-- the fault of a text that begins at a place as a tag does, by its length and by how many bytes of a tag it begins with
abbrev pub fault_by_run : ℕ → ℕ → ℕ → Option ServiceFault
fault_by_run at size run =
    if nat_lt 32 run then Some (TagTooLong at)
    else if nat_lt run size then Some (Trailing (at + run))
    else None

-- the fault of a text that begins at a place and is to be a tag
abbrev pub tag_fault : Alphabet → ℕ → List ℕ → Option ServiceFault
tag_fault alphabet at text =
    if not (begins_tag alphabet text) then Some (BadTag at) else fault_by_run at (length text) (run_of alphabet text)

-- the first fault of parts, one byte apart, of which the first begins at a place
abbrev pub parts_fault : (ℕ → List ℕ → Option ServiceFault) → ℕ → List (List ℕ) → Option ServiceFault
parts_fault fault at [] = None
parts_fault fault at (part ∷ parts) = option_or (fault at part) (parts_fault fault (at + (length part + 1)) parts)

-- the first fault of a text that begins at a place and is to be a service and at most one protocol; a second colon is no
-- byte of the protocol
abbrev pub pair_fault : ℕ → List ℕ → Option ServiceFault
pair_fault at text = parts_fault (tag_fault Snaptr) at (cut_once text)

-- a byte that ends a part of such a text: a tag in ENUM and in S-NAPTR services, an item in an S-NAPTR list
abbrev pub ends_part : Form → ℕ → Bool
ends_part EnumItems b = b == colon || b == plus
ends_part EnumList b = b == colon || b == comma
ends_part SnaptrTags b = b == colon
ends_part SnaptrList b = b == comma

-- the fault of a part of such a text that begins at a place
abbrev pub part_fault : Form → ℕ → List ℕ → Option ServiceFault
part_fault EnumItems at part = tag_fault Enum at part
part_fault EnumList at part = tag_fault Enum at part
part_fault SnaptrTags at part = tag_fault Snaptr at part
part_fault SnaptrList at part = pair_fault at part

-- the first fault of the parts of a text that begins at a place
abbrev pub form_fault : Form → ℕ → List ℕ → Option ServiceFault
form_fault form at text = parts_fault (part_fault form) at (slice_split (ends_part form) text)

-- the first fault of a text that is all parts
abbrev pub whole_fault : Form → List ℕ → Option ServiceFault
whole_fault form text = if length text == 0 then Some Empty else form_fault form 0 text

-- the first fault of what stands after E2U
abbrev pub fault_after_e2u : List ℕ → Option ServiceFault
fault_after_e2u [] = Some (BadTag 3)
fault_after_e2u (b ∷ rest) = if b == plus then form_fault EnumItems 4 rest else Some (Trailing 3)

-- the first fault of ENUM services
abbrev pub services_fault : List ℕ → Option ServiceFault
services_fault text =
    if length text == 0 then Some Empty
    else if not (bytes_eq (folded (take 3 text)) e2u) then Some NoE2u
    else fault_after_e2u (drop 3 text)

-- the first fault of S-NAPTR services
abbrev pub snaptr_fault : List ℕ → Option ServiceFault
snaptr_fault text = whole_fault SnaptrTags text

-- the first fault of a wanted list of ENUM
abbrev pub wanted_fault : List ℕ → Option ServiceFault
wanted_fault text = whole_fault EnumList text

-- the first fault of a wanted list of S-NAPTR
abbrev pub snaptr_wanted_fault : List ℕ → Option ServiceFault
snaptr_wanted_fault text = whole_fault SnaptrList text
