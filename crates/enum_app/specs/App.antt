-- What ENUM makes of flags and services (RFC 6116, sections 3.4.2 and 3.4.3).
use Rattle.std.specs.Prelude.{ℕ, Bool, true, false, ◌&&◌, ◌||◌, ◌==◌, if◌then◌else◌, is_none, List, [], ◌∷◌, Option}
use Rattle.service_field.specs.Applications.{Meaning}
use Rattle.service_field.specs.Faults.{services_fault}
use Rattle.service_field.specs.Fitting.{items_serve}
use Rattle.service_field.specs.Services.{services_items}
use Rattle.service_field.specs.declared.fault.ServiceFault.{ServiceFault}
use Rattle.service_field.specs.declared.kind.Kind.{Kind}
use Rattle.service_field.specs.declared.kind.Kind.TheVariants.{Step, TerminalUri, Unknown}

-- no flags: a rule that is not terminal; u in either case: a URI; all else is unknown
abbrev pub enum_kind : List ℕ → Kind
enum_kind [] = Step
enum_kind (b ∷ []) = if b == 117 || b == 85 then TerminalUri else Unknown
enum_kind (b ∷ c ∷ rest) = Unknown

-- the first fault of services
abbrev pub enum_fault : List ℕ → Option ServiceFault
enum_fault services = services_fault services

-- services serve where they have no fault and their items serve what is wanted
abbrev pub enum_serves : Option (List ℕ) → List ℕ → Bool
enum_serves wanted services = is_none (enum_fault services) && items_serve wanted (services_items services)

-- ENUM as an application: a rule that is not terminal may give its next domain by REGEXP, and a URI rule may have any
-- expression
abbrev pub enum_meaning : Meaning
enum_meaning = record { kind = enum_kind; serves = enum_serves; fault = enum_fault; steps_by_regexp = true; wants_whole = false }
