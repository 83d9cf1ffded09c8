-- The line that tells why a run ended without a text (this project's own).
use Rattle.std.specs.Prelude.{ℕ, List, ◌++◌, codes}
use Rattle.dns_name.specs.FaultWords.{name_fault}
use Rattle.dns_wire.specs.DecodeFaults.{decode_fault_words}
use Rattle.enum_app.specs.FaultWords.{number_fault}
use Rattle.request_words.specs.Words.{text_at}
use Rattle.service_field.specs.FaultWords.{service_fault}
use Rattle.snaptr_app.specs.FaultWords.{domain_fault_words}
use Rattle.zone_build.specs.FaultWords.{zone_fault}
use Rattle.zone_db.specs.FaultWords.{add_fault}
use Rattle.zone_text.specs.FaultWords.{text_fault}
use Rattle.enum_top.specs.declared.cause.Cause.{Cause}
use Rattle.enum_top.specs.declared.cause.Cause.TheVariants.{Number, Domain, Want, Apex, Key, Absent, Text, Zone, Set, InputTooLarge, Hex, Message}
use Rattle.enum_top.specs.declared.why.Why.{Why}
use Rattle.enum_top.specs.declared.why.Why.TheVariants.{Usage, Judged, Outside, Memory}
use Rattle.enum_top.specs.declared.objects.Object.{Object}
use Rattle.enum_top.specs.declared.objects.Object.TheVariants.{Shelf, Input, Output}

-- the line of what a file is; the file is named by the word at its place
abbrev pub file_line : List ℕ → List (List ℕ) → ℕ → List ℕ → List ℕ
file_line head words file fault = head ++ text_at words file ++ codes " " ++ fault ++ codes "\n"

-- the line of what is ill-formed
abbrev pub cause_line : List (List ℕ) → Cause → List ℕ
cause_line words (Number fault) = codes "enumd: ill-formed string " ++ number_fault fault ++ codes "\n"
cause_line words (Domain fault) = codes "enumd: ill-formed string " ++ domain_fault_words fault ++ codes "\n"
cause_line words (Want fault) = codes "enumd: ill-formed want " ++ service_fault fault ++ codes "\n"
cause_line words (Apex fault) = codes "enumd: ill-formed apex " ++ name_fault fault ++ codes "\n"
cause_line words Key = codes "enumd: ill-formed key NameTooLong\n"
cause_line words (Absent place) = codes "enumd: ill-formed file " ++ text_at words place ++ codes "\n"
cause_line words (Text file fault) = file_line (codes "enumd: ill-formed text ") words file (text_fault fault)
cause_line words (Zone file fault) = file_line (codes "enumd: ill-formed zone ") words file (zone_fault fault)
cause_line words (Set file fault) = file_line (codes "enumd: ill-formed zone ") words file (add_fault fault)
cause_line words InputTooLarge = codes "enumd: ill-formed input TooLarge\n"
cause_line words Hex = codes "enumd: ill-formed hex\n"
cause_line words (Message fault) = codes "enumd: ill-formed message " ++ decode_fault_words fault ++ codes "\n"

-- the line of a call that failed
abbrev pub outside_line : Object → List ℕ
outside_line Shelf = codes "enumd: outside shelf\n"
outside_line Input = codes "enumd: outside input\n"
outside_line Output = codes "enumd: outside output\n"

-- the line of a refusal
abbrev pub line_of : List (List ℕ) → Why → List ℕ
line_of words Usage = codes "enumd: usage\n"
line_of words (Judged cause) = cause_line words cause
line_of words (Outside object) = outside_line object
line_of words Memory = codes "enumd: memory\n"
