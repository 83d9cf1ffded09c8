-- What the code makes of the faults of a name that it read in the bytes from the name on. It serves the proofs alone.
use Rattle.std.specs.Prelude.{ℕ, ◌+◌, nat_le, List, get_or, if◌then◌else◌}
use Rattle.dns_name.specs.declared.wire_fault.WireFault.{WireFault}
use Rattle.dns_name.specs.declared.wire_fault.WireFault.TheVariants as wire
use Rattle.rdata_field.specs.declared.in_fault.InFault.{InFault}
use Rattle.rdata_field.specs.declared.in_fault.InFault.TheVariants.{Shape, Name}
use Rattle.naptr_rule.specs.declared.rdata_fault.RdataFault.{RdataFault}
use Rattle.naptr_rule.specs.declared.rdata_fault.RdataFault.TheVariants.{Short, BadName}

-- the place of what breaks a name
abbrev pub place_of : WireFault → ℕ
place_of (wire.Short at) = at
place_of (wire.BadLabelType at) = at
place_of (wire.ForwardPointer at) = at
place_of (wire.NameTooLong at) = at

-- what does not lie in the RDATA, by what it would be in a message
abbrev pub rdata_fault : InFault → RdataFault
rdata_fault (Shape at) = Short at
rdata_fault (Name fault) = BadName (place_of fault)

-- what is cut there: a label, or a pointer, whose first bits are 11
abbrev pub cut_fault : List ℕ → ℕ → RdataFault
cut_fault bytes at = if nat_le 64 (get_or bytes at 0) then BadName at else Short at

-- what breaks a name that begins at a place, by what breaks it in the bytes from there on
abbrev pub bare_fault : List ℕ → ℕ → WireFault → RdataFault
bare_fault bytes from (wire.Short at) = cut_fault bytes (from + at)
bare_fault bytes from (wire.BadLabelType at) = BadName (from + at)
bare_fault bytes from (wire.ForwardPointer at) = BadName (from + at)
bare_fault bytes from (wire.NameTooLong at) = BadName (from + at)
