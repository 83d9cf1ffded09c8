-- What the laws of applications say of ENUM, proved (RFC 6116, section 3.4).
use Rattle.std.proofs.Common.{◌≡◌, ℕ, ◌+◌, ◌<◌, ◌≤◌, false, ◌&&◌, ◌||◌, ◌==◌, cond, is_none, List, [], ◌∷◌, Option}
use Rattle.std.proofs.Common.{IsSome, option_map, refl, sym, ap, ◌∙◌, inl, inr, arith}
use Rattle.std.proofs.lemmas.Bool.{cases_eq, cases_lt, eq-eqb, ne_eqb, or_from, or_left, or_right}
use Rattle.std.proofs.lemmas.Str.Ascii.{lowercase_is}
use Rattle.enum_base.specs.Folding.{folded, folded_byte}
use Rattle.service_field.specs.Faults.{services_fault}
use Rattle.service_field.specs.Fitting.{items_serve}
use Rattle.service_field.specs.Services.{services_items}
use Rattle.service_field.specs.declared.kind.Kind.TheVariants.{TerminalUri, Unknown}
use Rattle.service_field.proofs.ServeLemmas.{faulty}
use Rattle.service_field.proofs.FoldLemmas.{serve_folded_services, serve_folded_wanted, services_fault_folds}
use Rattle.enum_app.specs.App.{enum_fault, enum_kind, enum_serves}

-- of the capital letters U alone is a u
letter_u : (b small : ℕ) → small ≡ b + 32 → 65 ≤ b → b < 91 → (small == 117 || small == 85) ≡ (b == 117 || b == 85)
letter_u b small is above below =
    elim (cases_eq b 85) [
      | inl u ↦
          or_left (small == 117) (small == 85) (eq-eqb small 117 (omega (arith, is, u)))
          ∙ sym (or_right (b == 117) (b == 85) (eq-eqb b 85 u))
      | inr other ↦
          or_from (small == 117) (small == 85) (ne_eqb small 117 (λ e. other (omega (arith, is, e)))) (ne_eqb small 85 (λ e. omega (arith, is, e, above)))
          ∙ sym (or_from (b == 117) (b == 85) (ne_eqb b 117 (λ e. omega (arith, e, below))) (ne_eqb b 85 other))
    ]

-- u in either case stays so
u_folds : (b : ℕ) → (folded_byte b == 117 || folded_byte b == 85) ≡ (b == 117 || b == 85)
u_folds b =
    elim (cases_lt b 65) [
      | inl less ↦ ap (λ x. x == 117 || x == 85) ((lowercase_is b).1 less)
      | inr more ↦ elim (cases_lt b 91) [
        | inl letter ↦ letter_u b (folded_byte b) ((lowercase_is b).0 (more, omega (arith, letter))) more letter
        | inr other ↦ ap (λ x. x == 117 || x == 85) ((lowercase_is b).2 (omega (arith, other)))
      ]
    ]

-- the case of flags is ignored
pub kind_folds : (flags : List ℕ) → enum_kind (folded flags) ≡ enum_kind flags
kind_folds [] = refl
kind_folds (b ∷ []) = ap (λ x. cond x TerminalUri Unknown) (u_folds b)
kind_folds (b ∷ c ∷ rest) = refl

-- the case of services is ignored
pub serves_folded : (wanted : Option (List ℕ)) (services : List ℕ) → enum_serves wanted (folded services) ≡ enum_serves wanted services
serves_folded wanted services =
    ap (λ o. is_none o && items_serve wanted (services_items (folded services))) (services_fault_folds services)
    ∙ ap (λ b. is_none (services_fault services) && b) (serve_folded_services wanted services)

-- the case of a wanted list is ignored
pub serves_folded_wanted : (wanted : Option (List ℕ)) (services : List ℕ) → enum_serves (option_map folded wanted) services ≡ enum_serves wanted services
serves_folded_wanted wanted services = ap (λ b. is_none (services_fault services) && b) (serve_folded_wanted wanted (services_items services))

-- services with a fault serve nothing
pub faulty_serves_nothing : (wanted : Option (List ℕ)) (services : List ℕ) → IsSome (enum_fault services) → enum_serves wanted services ≡ false
faulty_serves_nothing wanted services some = faulty (services_fault services) (items_serve wanted (services_items services)) some
