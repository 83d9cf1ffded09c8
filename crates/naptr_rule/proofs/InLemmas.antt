-- Rules come to one thing each, and in a list of bytes to something.
use Rattle.std.proofs.Common.{ℕ, ◌≤◌, List, length, Result, Ok}
use Rattle.std.specs.List.{AllByRecursion}
use Rattle.enum_base.proofs.StageLemmas.{IsSingle, IsTotal, IsSingle-is, IsTotal-is, IsSingle-then, IsTotal-then}
use Rattle.dns_name.specs.Name.{IsByte}
use Rattle.rdata_field.specs.Fields.{NameIn}
use Rattle.rdata_field.specs.declared.in_fault.InFault.TheVariants.{Shape}
use Rattle.rdata_field.proofs.NumberLemmas.{IsSingle-u16, IsTotal-u16}
use Rattle.rdata_field.proofs.FieldLemmas.{IsSingle-text, IsTotal-text, IsSingle-ends, IsTotal-ends, IsSingle-name_in, IsTotal-name_in, name_in-within}
use Rattle.naptr_rule.specs.Fields.{FrontBy, RuleBy, RuleIn}

IsSingle-front : {F : Type 0} (cut : ℕ → F) (message : List ℕ) (to from : ℕ) → IsSingle (FrontBy cut message to from)
IsSingle-front cut message to from =
    IsSingle-then _ _ (IsSingle-u16 cut message to from) (λ order.
    IsSingle-then _ _ (IsSingle-u16 cut message to order.1) (λ preference.
    IsSingle-then _ _ (IsSingle-text cut message to preference.1) (λ flags.
    IsSingle-then _ _ (IsSingle-text cut message to flags.1) (λ services.
    IsSingle-then _ _ (IsSingle-text cut message to services.1) (λ regexp. IsSingle-is _)))))

IsTotal-front : {F : Type 0} (cut : ℕ → F) (message : List ℕ) (to from : ℕ) → AllByRecursion IsByte message
    → to ≤ length message → IsTotal (FrontBy cut message to from)
IsTotal-front cut message to from all fits =
    IsTotal-then _ _ (IsTotal-u16 cut message to from all fits) (λ order o.
    IsTotal-then _ _ (IsTotal-u16 cut message to order.1 all fits) (λ preference p.
    IsTotal-then _ _ (IsTotal-text cut message to preference.1 all fits) (λ flags f.
    IsTotal-then _ _ (IsTotal-text cut message to flags.1 all fits) (λ services s.
    IsTotal-then _ _ (IsTotal-text cut message to services.1 all fits) (λ regexp r. IsTotal-is _)))))

pub IsSingle-rule : {F : Type 0} (cut left : ℕ → F) (NameBy : ℕ → Result (List (List ℕ) × ℕ) F → Type 0) (message : List ℕ) (from to : ℕ)
    → ((at : ℕ) → IsSingle (NameBy at)) → IsSingle (RuleBy cut left NameBy message from to)
IsSingle-rule cut left NameBy message from to one =
    IsSingle-then _ _ (IsSingle-front cut message to from) (λ front.
    IsSingle-then _ _ (one front.1) (λ name. IsSingle-ends left to _ name.1))

pub IsTotal-rule : {F : Type 0} (cut left : ℕ → F) (NameBy : ℕ → Result (List (List ℕ) × ℕ) F → Type 0) (message : List ℕ) (from to : ℕ)
    → AllByRecursion IsByte message → to ≤ length message → ((at : ℕ) → IsTotal (NameBy at))
    → ((at : ℕ) (read : List (List ℕ) × ℕ) → NameBy at (Ok read) → read.1 ≤ to)
    → IsTotal (RuleBy cut left NameBy message from to)
IsTotal-rule cut left NameBy message from to all fits some within =
    IsTotal-then _ _ (IsTotal-front cut message to from all fits) (λ front f.
    IsTotal-then _ _ (some front.1) (λ name n. IsTotal-ends left to _ name.1 (within front.1 name n)))

-- the rule of RDATA in a message
pub IsSingle-rule_in : (message : List ℕ) (from to : ℕ) → IsSingle (RuleIn message from to)
IsSingle-rule_in message from to = IsSingle-rule Shape Shape (NameIn message to) message from to (IsSingle-name_in message to)

pub IsTotal-rule_in : (message : List ℕ) (from to : ℕ) → AllByRecursion IsByte message → to ≤ length message → IsTotal (RuleIn message from to)
IsTotal-rule_in message from to all fits =
    IsTotal-rule Shape Shape (NameIn message to) message from to all fits (λ at. IsTotal-name_in message to at all fits) (name_in-within message to)
