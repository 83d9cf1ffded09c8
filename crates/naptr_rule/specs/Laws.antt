-- Laws of rules.
use Rattle.std.specs.Prelude.{◌≡◌, ◌⊎◌, ℕ, ◌≤◌, ◌+◌, List, length, Result, Ok, Err}
use Rattle.std.specs.Cmp.{IsTotalOrder}
use Rattle.std.specs.List.{AllByRecursion}
use Rattle.std.specs.declared.cmp.Ordering.TheVariants.{Equal}
use Rattle.dns_name.specs.Name.{IsByte}
use Rattle.dns_name.specs.Wire.{StandsAt}
use Rattle.rdata_field.specs.declared.in_fault.InFault.{InFault}
use Rattle.naptr_rule.specs.declared.rdata_fault.RdataFault.{RdataFault}
use Rattle.naptr_rule.specs.declared.rule.Naptr.{Naptr}
use Rattle.naptr_rule.specs.Bare.{BareRule}
use Rattle.naptr_rule.specs.Fields.{RuleIn}
use Rattle.naptr_rule.specs.Rdata.{rdata, IsRule}
use Rattle.naptr_rule.specs.Rank.{rank_of}

-- rules with the same RDATA are one rule
abbrev pub RdataTellsRules : Type 0
RdataTellsRules = (one other : Naptr) → IsRule one → IsRule other → rdata one ≡ rdata other → one ≡ other

-- rules rank equal only where they are one rule
abbrev pub RankTellsRules : Type 0
RankTellsRules = (one other : Naptr) → IsRule one → IsRule other → rank_of one other ≡ Equal → one ≡ other

-- the order of rules is antisymmetric, transitive, and the same for rules that rank equal
abbrev pub RankIsTotal : Type 0
RankIsTotal = IsTotalOrder rank_of

-- the RDATA of a rule is read as that rule ..
abbrev pub RdataIsRead : Type 0
RdataIsRead = (one : Naptr) → IsRule one → BareRule (rdata one) (Ok one)

-- .. and only RDATA is read as a rule
abbrev pub OnlyRdataIsRead : Type 0
OnlyRdataIsRead = (bytes : List ℕ) (one : Naptr) → BareRule bytes (Ok one) → IsRule one × (bytes ≡ rdata one)

-- bytes have at most one fault of RDATA ..
abbrev pub OneRdataFault : Type 0
OneRdataFault = (bytes : List ℕ) (one other : RdataFault) → BareRule bytes (Err one) → BareRule bytes (Err other) → one ≡ other

-- .. the RDATA of a rule has none ..
abbrev pub RuleHasNoFault : Type 0
RuleHasNoFault = (one : Naptr) (fault : RdataFault) → IsRule one → ¬ BareRule (rdata one) (Err fault)

-- .. and bytes that are no RDATA have one
abbrev pub RuleOrFault : Type 0
RuleOrFault =
    (bytes : List ℕ) → AllByRecursion IsByte bytes → ((one : Naptr) × IsRule one × (bytes ≡ rdata one)) ⊎ ((fault : RdataFault) × BareRule bytes (Err fault))

-- the RDATA of a rule that stands in a message is read as that rule
abbrev pub WrittenIsReadIn : Type 0
WrittenIsReadIn =
    (message : List ℕ) (from : ℕ) (one : Naptr) → IsRule one → StandsAt message from (rdata one) → RuleIn message from (from + length (rdata one)) (Ok one)

-- RDATA in a message is read as one rule or has one fault, never both ..
abbrev pub OneRuleIn : Type 0
OneRuleIn =
    (message : List ℕ) (from to : ℕ) (one other : Result Naptr InFault) → RuleIn message from to one → RuleIn message from to other → one ≡ other

-- .. and in a message of bytes always one of them
abbrev pub SomeRuleIn : Type 0
SomeRuleIn =
    (message : List ℕ) (from to : ℕ) → to ≤ length message → AllByRecursion IsByte message → (result : Result Naptr InFault) × RuleIn message from to result
