-- The work of `resolve` comes to one verdict.
use Rattle.std.proofs.Common.{◌≡◌, ℕ, List, [], length, map, Option, Some, None, Result, Ok, refl, sym, ap, subst, ◌∙◌}
use Rattle.std.specs.Prelude.{IsSome}
use Rattle.dns_name.specs.Name.{folded_labels}
use Rattle.enum_base.proofs.StageLemmas.{IsSingle, IsSingle-then}
use Rattle.enum_base.specs.Outside.{File}
use Rattle.enum_base.specs.Stages.Then.{stops}
use Rattle.zone_build.specs.Plain as plain
use Rattle.zone_build.specs.Zone.{Zone}
use Rattle.request_words.specs.Words.{cells}
use Rattle.request_words.specs.declared.request.AppName.{AppName}
use Rattle.request_words.specs.declared.request.Resolution.{Resolution}
use Rattle.enum_top.specs.Applications.{Inquiry}
use Rattle.enum_top.specs.Resolving.{Reports, Resolves, client_for, files_of, resolve_work}
use Rattle.enum_top.specs.Verdicts.{IsSound}
use Rattle.enum_top.specs.declared.cause.Cause.{Cause}
use Rattle.enum_top.specs.declared.status.Printed.{Printed}
use Rattle.enum_top.proofs.InquiryLemmas.{IsSingle-asks}
use Rattle.enum_top.proofs.LawLemmas.{Laws}
use Rattle.enum_top.proofs.OneZonesLemmas.{AreLaws, IsSingle-from}
use Rattle.enum_top.proofs.ReportLemmas.{HasOneText}
use Rattle.enum_top.proofs.SomeResolveLemmas.{IsTotal-resolves}
use Rattle.enum_top.proofs.WorkLemmas.{IsSound-at_once}

IsSingle-reports : HasOneText → (app : AppName) (inquiry : Inquiry) (zones : List Zone) → IsSingle (Reports app inquiry zones)
IsSingle-reports law app inquiry zones = record { same = same }
  where
    same : (r s : Result Printed Cause) → Reports app inquiry zones r → Reports app inquiry zones s → r ≡ s
    same r s (one, answers, is) (other, answers', is') =
        is ∙ ap Ok (law (length inquiry.keys) (client_for app inquiry) (plain.told zones) (map folded_labels inquiry.keys) one other answers answers') ∙ sym is'

IsSingle-resolves : AreLaws → HasOneText → (files : List File) (words : List (List ℕ)) (asked : Resolution) → IsSingle (Resolves (Some files) words asked)
IsSingle-resolves laws law files words asked =
    IsSingle-then _ _ (IsSingle-asks words asked.app asked.string asked.want (cells asked.apexes))
    (λ inquiry. IsSingle-then _ _ (IsSingle-from laws files words [] (files_of asked.origin))
    (λ zones. IsSingle-reports law asked.app inquiry zones))

pub told_is : {A : Type 0} (told : Option A) → IsSome told → (value : A) × (told ≡ Some value)
told_is None some = absurd (cc some)
told_is (Some value) some = (value, refl)

pub IsSound-resolve : Laws → (words : List (List ℕ)) (asked : Resolution) → IsSound (resolve_work words asked)
IsSound-resolve laws words asked =
    IsSound-at_once (λ told. Resolves told.files words asked) (resolve_work words asked).breaks
    (resolve_work words asked).uses (resolve_work words asked).fronts
    (λ told seen. let files = told_is told.files (seen.on_shelf refl)
    in subst (λ (fs : Option (List File)). IsSingle (Resolves fs words asked)) (sym files.1)
    (IsSingle-resolves laws.one_zones laws.one_text files.0 words asked))
    (λ told. IsTotal-resolves laws.some_zones laws.some_report laws.rules_apart told.files words asked)
    (λ told cause broken. stops cause broken refl)
