-- How the faults of names are printed (this project's own).
use Rattle.std.specs.Prelude.{ℕ, List, codes}
use Rattle.enum_base.specs.Words.{fault_at}
use Rattle.dns_name.specs.declared.fault.NameFault.{NameFault}
use Rattle.dns_name.specs.declared.fault.NameFault.TheVariants.{EmptyLabel, LabelTooLong, NameTooLong, BadEscape, NoOrigin}
use Rattle.dns_name.specs.declared.wire_fault.WireFault.{WireFault}
use Rattle.dns_name.specs.declared.wire_fault.WireFault.TheVariants as wire

-- a fault of a name's text: its name, and its place where it has one
abbrev pub name_fault : NameFault → List ℕ
name_fault (EmptyLabel at) = fault_at (codes "EmptyLabel") at
name_fault (LabelTooLong at) = fault_at (codes "LabelTooLong") at
name_fault NameTooLong = codes "NameTooLong"
name_fault (BadEscape at) = fault_at (codes "BadEscape") at
name_fault NoOrigin = codes "NoOrigin"

-- a fault of a name in a message: its name and its place
abbrev pub wire_fault : WireFault → List ℕ
wire_fault (wire.Short at) = fault_at (codes "Short") at
wire_fault (wire.BadLabelType at) = fault_at (codes "BadLabelType") at
wire_fault (wire.ForwardPointer at) = fault_at (codes "ForwardPointer") at
wire_fault (wire.NameTooLong at) = fault_at (codes "NameTooLong") at
