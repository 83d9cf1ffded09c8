-- What an application of the DDDS algorithm makes of the fields of a rule (RFC 3402, section 4; RFC 3403, section 4.1).
use Rattle.std.specs.Prelude.{ℕ, Bool, List, Option}
use Rattle.service_field.specs.declared.fault.ServiceFault.{ServiceFault}
use Rattle.service_field.specs.declared.kind.Kind.{Kind}

-- what flags mean; whether services serve a wanted list, which is none where any is wanted; the first fault of services;
-- whether a rule that is not terminal may give its next domain by REGEXP; and whether provisioning takes the whole text
-- alone as an expression of a URI rule
pub record Meaning : Type 0 where
  pub kind : List ℕ → Kind
  pub serves : Option (List ℕ) → List ℕ → Bool
  pub fault : List ℕ → Option ServiceFault
  pub steps_by_regexp : Bool
  pub wants_whole : Bool
