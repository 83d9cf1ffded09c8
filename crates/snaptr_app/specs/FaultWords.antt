-- How a fault of a domain is printed: by the name of the innermost fault, and its place where it has one (this project's own).
use Rattle.std.specs.Prelude.{ℕ, List, codes}
use Rattle.enum_base.specs.Words.{fault_at}
use Rattle.dns_name.specs.FaultWords.{name_fault}
use Rattle.snaptr_app.specs.declared.fault.DomainFault.{DomainFault}
use Rattle.snaptr_app.specs.declared.fault.DomainFault.TheVariants.{Empty, TooLong, NotPrintable, BadName}

-- the words of a fault
abbrev pub domain_fault_words : DomainFault → List ℕ
domain_fault_words Empty = codes "Empty"
domain_fault_words TooLong = codes "TooLong"
domain_fault_words (NotPrintable at) = fault_at (codes "NotPrintable") at
domain_fault_words (BadName fault) = name_fault fault
