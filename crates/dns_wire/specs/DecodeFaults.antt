-- What the faults of messages come from, and how they are printed (this project's own).
use Rattle.std.specs.Prelude.{ℕ, List, codes}
use Rattle.enum_base.specs.Words.{fault_at}
use Rattle.dns_name.specs.declared.wire_fault.WireFault.{WireFault}
use Rattle.dns_name.specs.declared.wire_fault.WireFault.TheVariants as wire
use Rattle.rdata_field.specs.declared.in_fault.InFault.{InFault}
use Rattle.rdata_field.specs.declared.in_fault.InFault.TheVariants as rdata
use Rattle.dns_wire.specs.declared.decode_fault.DecodeFault.{DecodeFault}
use Rattle.dns_wire.specs.declared.decode_fault.DecodeFault.TheVariants as decode

-- what breaks a name breaks the message
abbrev pub of_name : WireFault → DecodeFault
of_name (wire.Short at) = decode.Short at
of_name (wire.BadLabelType at) = decode.BadLabelType at
of_name (wire.ForwardPointer at) = decode.ForwardPointer at
of_name (wire.NameTooLong at) = decode.NameTooLong at

-- what breaks RDATA breaks the message
abbrev pub of_rdata : InFault → DecodeFault
of_rdata (rdata.Shape at) = decode.RdataShape at
of_rdata (rdata.Name fault) = of_name fault

-- a fault of a message: its name and its place
abbrev pub decode_fault_words : DecodeFault → List ℕ
decode_fault_words (decode.Short at) = fault_at (codes "Short") at
decode_fault_words (decode.BadLabelType at) = fault_at (codes "BadLabelType") at
decode_fault_words (decode.ForwardPointer at) = fault_at (codes "ForwardPointer") at
decode_fault_words (decode.NameTooLong at) = fault_at (codes "NameTooLong") at
decode_fault_words (decode.RdataLength at) = fault_at (codes "RdataLength") at
decode_fault_words (decode.RdataShape at) = fault_at (codes "RdataShape") at
decode_fault_words (decode.Trailing at) = fault_at (codes "Trailing") at
decode_fault_words decode.Memory = codes "Memory"
