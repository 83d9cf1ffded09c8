-- The RDATA of a rule in a message (RFC 3403, section 4.1; RFC 1035, section 4.1.4).
use Rattle.std.specs.Prelude.{◌≡◌, ℕ, List, [], Result, Ok}
use Rattle.enum_base.specs.Stages.{Then}
use Rattle.rdata_field.specs.Fields.{U16By, TextBy, EndsBy, NameIn}
use Rattle.rdata_field.specs.declared.in_fault.InFault.{InFault}
use Rattle.rdata_field.specs.declared.in_fault.InFault.TheVariants.{Shape}
use Rattle.naptr_rule.specs.declared.rule.Naptr.{Naptr}

-- the fields of a rule before its name, in a rule whose name is the root: two numbers and three character-strings
abbrev pub FrontBy : {F : Type 0} → (ℕ → F) → List ℕ → ℕ → ℕ → Result (Naptr × ℕ) F → Type 0
FrontBy cut message to from =
    Then (U16By cut message to from) (λ order.
    Then (U16By cut message to order.1) (λ preference.
    Then (TextBy cut message to preference.1) (λ flags.
    Then (TextBy cut message to flags.1) (λ services.
    Then (TextBy cut message to services.1) (λ regexp result.
    result ≡ Ok (
      record {
        order = order.0;
        preference = preference.0;
        flags = flags.0;
        services = services.0;
        regexp = regexp.0;
        replacement = [];
      },
      regexp.1,
    ))))))

-- the rule of all the RDATA: the fields before its name, and a name that is read like this (RFC 3403, 4.1)
abbrev pub RuleBy : {F : Type 0} → (ℕ → F) → (ℕ → F) → (ℕ → Result (List (List ℕ) × ℕ) F → Type 0) → List ℕ → ℕ → ℕ → Result Naptr F → Type 0
RuleBy cut left NameBy message from to =
    Then (FrontBy cut message to from) (λ front.
    Then (NameBy front.1) (λ name.
    EndsBy left to (record front.0 { replacement = name.0 }) name.1))

-- the fields of a rule before its name
abbrev pub FrontIn : List ℕ → ℕ → ℕ → Result (Naptr × ℕ) InFault → Type 0
FrontIn = FrontBy Shape

-- the rule of the RDATA between two places of a message
abbrev pub RuleIn : List ℕ → ℕ → ℕ → Result Naptr InFault → Type 0
RuleIn message from to = RuleBy Shape Shape (NameIn message to) message from to
