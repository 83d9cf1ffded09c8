-- How a fault of a number is printed: its name, and its place where it has one (this project's own).
use Rattle.std.specs.Prelude.{ℕ, List, codes}
use Rattle.enum_base.specs.Words.{fault_at}
use Rattle.enum_app.specs.declared.number.NumberFault.{NumberFault}
use Rattle.enum_app.specs.declared.number.NumberFault.TheVariants.{NoPlus, NoDigit, TooLong, BadChar}

-- the words of a fault
abbrev pub number_fault : NumberFault → List ℕ
number_fault NoPlus = codes "NoPlus"
number_fault NoDigit = codes "NoDigit"
number_fault (TooLong at) = fault_at (codes "TooLong") at
number_fault (BadChar at) = fault_at (codes "BadChar") at
