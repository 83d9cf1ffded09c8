-- What `resolve APP STRING` comes to.
use Rattle.std.specs.Prelude.{◌≡◌, ℕ, List, [], ◌∷◌, length, map, Option, Result, Ok, Err}
use Rattle.dns_name.specs.Name.{folded_labels}
use Rattle.ddds_walk.specs.Report.{Answers}
use Rattle.ddds_walk.specs.Rules.{Client, client_of}
use Rattle.ddds_walk.specs.declared.report.Report.{Report}
use Rattle.ddds_walk.specs.declared.report.Report.TheVariants.{Ends, Loop}
use Rattle.enum_base.specs.Outside.{File}
use Rattle.zone_build.specs.Plain.{told}
use Rattle.zone_build.specs.Zone.{Zone}
use Rattle.report_text.specs.Printing.{printed}
use Rattle.request_words.specs.Words.{cells}
use Rattle.request_words.specs.declared.request.AppName.{AppName}
use Rattle.request_words.specs.declared.request.Origin.{Origin}
use Rattle.request_words.specs.declared.request.Origin.TheVariants.{Files}
use Rattle.request_words.specs.declared.request.Resolution.{Resolution}
use Rattle.enum_top.specs.Applications.{Asks, Inquiry, meaning_of}
use Rattle.enum_base.specs.Stages.{Then}
use Rattle.enum_top.specs.Verdicts.{AtOnce, Work}
use Rattle.enum_top.specs.ZoneFiles.{ZonesOf}
use Rattle.enum_top.specs.declared.cause.Cause.{Cause}
use Rattle.enum_top.specs.declared.objects.Object.TheVariants.{Shelf}
use Rattle.enum_top.specs.declared.status.Ending.{Ending}
use Rattle.enum_top.specs.declared.status.Ending.TheVariants as ending
use Rattle.enum_top.specs.declared.status.Printed.{Printed}

-- who asks: the application, with the wanted list and the original string
abbrev pub client_for : AppName → Inquiry → Client
client_for app inquiry = client_of (meaning_of app) inquiry.want inquiry.string

-- whether a report has an end, none, or is a loop
abbrev pub ending_of : Report → Ending
ending_of (Ends []) = ending.Nothing
ending_of (Ends (e ∷ ends)) = ending.Done
ending_of (Loop path) = ending.Loop

-- the text of a report from so many keys
abbrev pub printed_as : ℕ → Report → Printed
printed_as keys report = record { ending = ending_of report; text = printed keys report }

-- the text of what a walk over the zones answers
abbrev pub Reports : AppName → Inquiry → List Zone → Result Printed Cause → Type 0
Reports app inquiry zones result =
    (report : Report) × Answers (client_for app inquiry) (told zones) (map folded_labels inquiry.keys) report
    × (result ≡ Ok (printed_as (length inquiry.keys) report))

-- the places of the names of the files
abbrev pub files_of : Origin → List ℕ
files_of (Files zones) = cells zones

-- what is asked, then the zones of the files, then the report
abbrev pub Resolves : Option (List File) → List (List ℕ) → Resolution → Result Printed Cause → Type 0
Resolves files words asked =
    Then (Asks words asked.app asked.string asked.want (cells asked.apexes)) (λ inquiry.
    Then (ZonesOf files words (files_of asked.origin)) (Reports asked.app inquiry))

-- the work of `resolve`: the string, the wanted list, the apexes and the keys are of the words alone
abbrev pub resolve_work : List (List ℕ) → Resolution → Work
resolve_work words asked = record {
  answers = λ told. AtOnce (Resolves told.files words asked);
  breaks = λ cause. Asks words asked.app asked.string asked.want (cells asked.apexes) (Err cause);
  uses = λ object. object ≡ Shelf;
  fronts = λ told front. ⊥;
}
