-- What the laws of applications say of S-NAPTR and U-NAPTR, proved (RFC 3958, sections 6.4 and 6.5).
use Rattle.std.proofs.Common.{◌≡◌, ℕ, false, ◌&&◌, is_none, List, Option, IsSome, option_map, ap, ◌∙◌}
use Rattle.enum_base.specs.Folding.{folded}
use Rattle.service_field.specs.Faults.{snaptr_fault}
use Rattle.service_field.specs.Fitting.{snaptr_serves}
use Rattle.service_field.specs.Tags.{tags_of}
use Rattle.service_field.specs.declared.kind.Kind.{Kind}
use Rattle.service_field.proofs.FoldLemmas.{folded-folded, snaptr_fault_folds, snaptr_folded_services, snaptr_folded_wanted}
use Rattle.service_field.proofs.ServeLemmas.{faulty}
use Rattle.snaptr_app.specs.App.{kind_by, serves}

-- the case of flags is ignored
pub kind_folds : (flag : ℕ → Kind) (flags : List ℕ) → kind_by flag (folded (folded flags)) ≡ kind_by flag (folded flags)
kind_folds flag flags = ap (kind_by flag) (folded-folded flags)

-- the case of services is ignored
pub serves_folded : (wanted : Option (List ℕ)) (services : List ℕ) → serves wanted (folded services) ≡ serves wanted services
serves_folded wanted services =
    ap (λ o. is_none o && snaptr_serves wanted (tags_of (folded services))) (snaptr_fault_folds services)
    ∙ ap (λ b. is_none (snaptr_fault services) && b) (snaptr_folded_services wanted services)

-- the case of a wanted list is ignored
pub serves_folded_wanted : (wanted : Option (List ℕ)) (services : List ℕ) → serves (option_map folded wanted) services ≡ serves wanted services
serves_folded_wanted wanted services = ap (λ b. is_none (snaptr_fault services) && b) (snaptr_folded_wanted wanted (tags_of services))

-- services with a fault serve nothing
pub faulty_serves_nothing : (wanted : Option (List ℕ)) (services : List ℕ) → IsSome (snaptr_fault services) → serves wanted services ≡ false
faulty_serves_nothing wanted services some = faulty (snaptr_fault services) (snaptr_serves wanted (tags_of services)) some
