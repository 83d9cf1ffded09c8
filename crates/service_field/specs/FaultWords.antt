-- How a fault of services is printed: its name, and its place where it has one (this project's own).
use Rattle.std.specs.Prelude.{ℕ, List, codes}
use Rattle.enum_base.specs.Words.{fault_at}
use Rattle.service_field.specs.declared.fault.ServiceFault.{ServiceFault}
use Rattle.service_field.specs.declared.fault.ServiceFault.TheVariants.{Empty, NoE2u, BadTag, TagTooLong, Trailing}

-- the words of a fault
abbrev pub service_fault : ServiceFault → List ℕ
service_fault Empty = codes "Empty"
service_fault NoE2u = codes "NoE2u"
service_fault (BadTag at) = fault_at (codes "BadTag") at
service_fault (TagTooLong at) = fault_at (codes "TagTooLong") at
service_fault (Trailing at) = fault_at (codes "Trailing") at
