-- What `resolve` asks comes to a text, or to a cause.
use Rattle.std.proofs.Common.{◌⊎◌, inl, inr, ℕ, List, [], ◌∷◌, length, map, Option, option_map, Ok, Err, refl}
use Rattle.ddds_walk.specs.Report as walk
use Rattle.ddds_walk.specs.Rules.{Client}
use Rattle.ddds_walk.specs.declared.report.Report.{Report}
use Rattle.dns_name.specs.Name.{folded_labels}
use Rattle.enum_app.specs.Number.{IsNumber, HasNumberFault, digits_of, plus}
use Rattle.enum_app.specs.declared.number.NumberFault.{NumberFault}
use Rattle.enum_base.proofs.StageLemmas.{IsTotal, IsTotal-is, IsTotal-then}
use Rattle.enum_base.specs.Outside.{File}
use Rattle.naptr_data.specs.Laws.{RulesAreApart}
use Rattle.naptr_data.specs.Zones as plain
use Rattle.request_words.specs.Words.{cells, text_at}
use Rattle.request_words.specs.declared.request.AppName.{AppName}
use Rattle.request_words.specs.declared.request.AppName.TheVariants.{Enum, Snaptr, Unaptr}
use Rattle.request_words.specs.declared.request.Resolution.{Resolution}
use Rattle.snaptr_app.specs.Domain.{domain_fault, key_of}
use Rattle.std.specs.List.{AllByRecursion}
use Rattle.zone_db.specs.Laws.{ToldRulesAreApart}
use Rattle.zone_build.specs.Plain.{told}
use Rattle.zone_build.specs.Zone.{IsValid, Zone}
use Rattle.enum_top.specs.Applications.{Asks, Inquiry, Keys, Strings, apexes_of, as_apexes, domain_key, domain_string}
use Rattle.enum_top.specs.Applications.{every, faultless, under, want_fault}
use Rattle.enum_top.specs.Resolving.{Reports, Resolves, client_for, files_of, printed_as}
use Rattle.enum_top.specs.declared.cause.Cause.TheVariants as cause
use Rattle.enum_top.proofs.SomeNumberLemmas.{number_or_fault}
use Rattle.enum_top.proofs.SomeZonesLemmas.{AreTotal, IsTotal-zones, valid_zones}

IsTotal-strings : (app : AppName) (text : List ℕ) → IsTotal (Strings app text)
IsTotal-strings Enum text = by (number_or_fault text)
  where
    by : IsNumber text ⊎ ((fault : NumberFault) × HasNumberFault text fault) → IsTotal (Strings Enum text)
    by (inl number) = record { result = Ok (plus ∷ digits_of text); comes = inl (number, refl) }
    by (inr (fault, has)) = record { result = Err (cause.Number fault); comes = inr (fault, has, refl) }
IsTotal-strings Snaptr text = IsTotal-is (domain_string text (domain_fault text))
IsTotal-strings Unaptr text = IsTotal-is (domain_string text (domain_fault text))

IsTotal-keys : (app : AppName) (text : List ℕ) (apexes : List (List ℕ)) → IsTotal (Keys app text apexes)
IsTotal-keys Enum text apexes =
    IsTotal-then _ _ (IsTotal-is (as_apexes (apexes_of apexes))) (λ tops is. IsTotal-is (every (map (under (digits_of text)) tops)))
IsTotal-keys Snaptr text apexes = IsTotal-is (domain_key (key_of text))
IsTotal-keys Unaptr text apexes = IsTotal-is (domain_key (key_of text))

IsTotal-asks : (words : List (List ℕ)) (app : AppName) (string : ℕ) (want : Option ℕ) (apexes : List ℕ) → IsTotal (Asks words app string want apexes)
IsTotal-asks words app string want apexes =
    IsTotal-then _ _ (IsTotal-strings app (text_at words string)) (λ original read.
    IsTotal-then _ _ (IsTotal-is (faultless (option_map (text_at words) want) (want_fault app (option_map (text_at words) want)))) (λ wanted is.
    IsTotal-then _ _ (IsTotal-keys app (text_at words string) (map (text_at words) apexes)) (λ domains has.
    IsTotal-is (Ok (record { string = original; want = wanted; keys = domains })))))

-- the law that there is an answer over zones whose rules are apart
abbrev pub HasReport : Type 0
HasReport = (c : Client) (zones : List plain.Zone) (keys : List plain.Labels) → RulesAreApart zones
    → (report : Report) × walk.Answers c zones keys report

IsTotal-reports : HasReport → ToldRulesAreApart → (app : AppName) (inquiry : Inquiry) (zones : List Zone)
    → AllByRecursion IsValid zones → IsTotal (Reports app inquiry zones)
IsTotal-reports some apart app inquiry zones valid =
    let r = some (client_for app inquiry) (told zones) (map folded_labels inquiry.keys) (apart zones valid) in
    record { result = Ok (printed_as (length inquiry.keys) r.0); comes = (r.0, r.1, refl) }

pub IsTotal-resolves : AreTotal → HasReport → ToldRulesAreApart
    → (files : Option (List File)) (words : List (List ℕ)) (asked : Resolution) → IsTotal (Resolves files words asked)
IsTotal-resolves laws some apart files words asked =
    IsTotal-then _ _ (IsTotal-asks words asked.app asked.string asked.want (cells asked.apexes)) (λ inquiry read.
    IsTotal-then _ _ (IsTotal-zones laws files words [] (files_of asked.origin)) (λ zones come.
    IsTotal-reports some apart asked.app inquiry zones (valid_zones files words [] zones (files_of asked.origin) tt come)))
