-- The work of `show` comes to one verdict.
use Rattle.std.proofs.Common.{ℕ, List, Option, refl, sym, subst}
use Rattle.enum_base.proofs.StageLemmas.{IsSingle}
use Rattle.enum_top.specs.Showing.{Shows, show_work}
use Rattle.enum_top.specs.Verdicts.{IsSound}
use Rattle.enum_top.proofs.LawLemmas.{Laws}
use Rattle.enum_top.proofs.OneMessageLemmas.{IsSingle-shows}
use Rattle.enum_top.proofs.ResolveLemmas.{told_is}
use Rattle.enum_top.proofs.SomeMessageLemmas.{IsTotal-shows}
use Rattle.enum_top.proofs.WorkLemmas.{IsSound-at_once}

pub IsSound-show : Laws → IsSound show_work
IsSound-show laws =
    IsSound-at_once (λ told. Shows told.input) show_work.breaks show_work.uses show_work.fronts
    (λ told seen. let input = told_is told.input (seen.on_input refl)
    in subst (λ (bytes : Option (List ℕ)). IsSingle (Shows bytes)) (sym input.1)
    (IsSingle-shows laws.one_message input.0))
    (λ told. IsTotal-shows laws.some_message told.input)
    (λ told cause none. absurd none)
