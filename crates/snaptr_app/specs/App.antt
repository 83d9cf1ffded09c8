-- What S-NAPTR and U-NAPTR make of flags and services (RFC 3958, sections 6.4 and 6.5; RFC 4848, sections 2.1 and 2.2).
use Rattle.std.specs.Prelude.{ℕ, Bool, true, false, ◌&&◌, ◌==◌, if◌then◌else◌, is_none, List, [], ◌∷◌, Option}
use Rattle.enum_base.specs.Folding.{folded}
use Rattle.service_field.specs.Applications.{Meaning}
use Rattle.service_field.specs.Faults.{snaptr_fault}
use Rattle.service_field.specs.Fitting.{snaptr_serves}
use Rattle.service_field.specs.Tags.{tags_of}
use Rattle.service_field.specs.declared.kind.Kind.{Kind}
use Rattle.service_field.specs.declared.kind.Kind.TheVariants.{Step, TerminalName, TerminalUri, Unknown}

-- a flag of S-NAPTR in small letters: s and a tell under which of the two the name of REPLACEMENT is looked up
abbrev pub snaptr_flag : ℕ → Kind
snaptr_flag b = if b == 115 then TerminalName 115 else if b == 97 then TerminalName 97 else Unknown

-- a flag of U-NAPTR in small letters: those two, and u for a URI
abbrev pub unaptr_flag : ℕ → Kind
unaptr_flag b = if b == 117 then TerminalUri else snaptr_flag b

-- no flags: a rule that is not terminal; one flag: what it tells; all else is unknown
abbrev pub kind_by : (ℕ → Kind) → List ℕ → Kind
kind_by flag [] = Step
kind_by flag (b ∷ []) = flag b
kind_by flag (b ∷ c ∷ rest) = Unknown

-- flags of S-NAPTR, in either case
abbrev pub snaptr_kind : List ℕ → Kind
snaptr_kind flags = kind_by snaptr_flag (folded flags)

-- flags of U-NAPTR, in either case
abbrev pub unaptr_kind : List ℕ → Kind
unaptr_kind flags = kind_by unaptr_flag (folded flags)

-- services serve where they have no fault and offer what is wanted
abbrev pub serves : Option (List ℕ) → List ℕ → Bool
serves wanted services = is_none (snaptr_fault services) && snaptr_serves wanted (tags_of services)

-- S-NAPTR as an application: no domain comes by REGEXP
abbrev pub snaptr_meaning : Meaning
snaptr_meaning = record { kind = snaptr_kind; serves = serves; fault = snaptr_fault; steps_by_regexp = false; wants_whole = false }

-- U-NAPTR as an application: the same, and a URI rule has the whole text alone as its expression
abbrev pub unaptr_meaning : Meaning
unaptr_meaning = record { kind = unaptr_kind; serves = serves; fault = snaptr_fault; steps_by_regexp = false; wants_whole = true }
