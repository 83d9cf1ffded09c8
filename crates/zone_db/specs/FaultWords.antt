-- How the faults of sets of zones are printed (this project's own).
use Rattle.std.specs.Prelude.{ℕ, List, codes}
use Rattle.zone_db.specs.declared.fault.AddFault.{AddFault}
use Rattle.zone_db.specs.declared.fault.AddFault.TheVariants as add

-- the name of a fault
abbrev pub add_fault : AddFault → List ℕ
add_fault add.SameApex = codes "SameApex"
add_fault add.Full = codes "Full"
add_fault add.Memory = codes "Memory"
