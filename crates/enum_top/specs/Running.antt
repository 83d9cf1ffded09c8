-- How a run comes to its answer.
use Rattle.std.specs.Prelude.{◌≡◌, ◌≢◌, ◌⊎◌, ℕ, List, ◌∷◌, take, Option, Some, None, Result, Ok, Err}
use Rattle.dns_wire.specs.declared.record.Record.{Record}
use Rattle.enum_app.specs.Number.{plus}
use Rattle.enum_base.specs.Outside.{SinkState}
use Rattle.enum_base.specs.Stages.{Then}
use Rattle.enum_base.specs.Writing.{Gains, Takes}
use Rattle.naptr_data.specs.Zones.{Labels}
use Rattle.request_words.specs.Words.{Means, IsRequest}
use Rattle.request_words.specs.declared.request.Request.{Request}
use Rattle.service_field.specs.Wanted.{wanted_text}
use Rattle.service_field.specs.declared.fault.ServiceFault.{ServiceFault}
use Rattle.service_field.specs.declared.wanted.Wanted.{Wanted}
use Rattle.zone_build.specs.Zone.{Zone}
use Rattle.zone_text.specs.declared.fault.TextFault.{TextFault}
use Rattle.zone_token.specs.declared.fault.TextWhy.TheVariants as text
use Rattle.enum_top.specs.Applications as applications
use Rattle.enum_top.specs.FaultLines.{cause_line}
use Rattle.enum_top.specs.Requests.{ComesTo, IsOutput, Leaves, Need, work_of}
use Rattle.enum_top.specs.Verdicts.{Told, Verdict, Work, whole}
use Rattle.enum_top.specs.Verdicts.Verdict.{prints, refuses}
use Rattle.enum_top.specs.ZoneFiles.{Texts}
use Rattle.enum_top.specs.declared.cause.Cause.{Cause}
use Rattle.enum_top.specs.declared.cause.Cause.TheVariants.{Text, Want}
use Rattle.enum_top.specs.declared.domains.Domains.{Domains}
use Rattle.enum_top.specs.declared.inquiry.Inquiry.{Inquiry}
use Rattle.enum_top.specs.declared.objects.Object.{Object}
use Rattle.enum_top.specs.declared.objects.Object.TheVariants.{Shelf, Input, Output}
use Rattle.enum_top.specs.declared.status.Ending.{Ending}
use Rattle.enum_top.specs.declared.status.Printed.{Printed}
use Rattle.enum_top.specs.declared.status.Status.{Status}
use Rattle.enum_top.specs.declared.status.Status.TheVariants.{Ended, Refused}
use Rattle.enum_top.specs.declared.why.Why.{Why}
use Rattle.enum_top.specs.declared.why.Why.TheVariants.{Usage, Judged, Outside, Memory}

-- a part of the work was done or stopped as `One` says; only objects that are used fail
pub record Does {A : Type 0} (Used : Object → Type 0) (One : Result A Cause → Type 0) (result : Result A Why) : Type 0 where
  pub went : (value : A) → result ≡ Ok value → One (Ok value)
  pub stopped : (cause : Cause) → result ≡ Err (Judged cause) → One (Err cause)
  pub failed : (object : Object) → result ≡ Err (Outside object) → Used object
  pub asked : result ≡ Err Usage → ⊥
  pub unwritten : result ≡ Err (Outside Output) → ⊥

-- .. that uses the shelf alone
abbrev pub DoesOnShelf : {A : Type 0} → (Result A Cause → Type 0) → Result A Why → Type 0
DoesOnShelf One result = Does (λ object. object ≡ Shelf) One result

-- .. that uses the input alone
abbrev pub DoesOnInput : {A : Type 0} → (Result A Cause → Type 0) → Result A Why → Type 0
DoesOnInput One result = Does (λ object. object ≡ Input) One result

-- .. that uses no object
abbrev pub DoesAlone : {A : Type 0} → (Result A Cause → Type 0) → Result A Why → Type 0
DoesAlone One result = Does (λ object. ⊥) One result

-- the original string of a number
abbrev pub string_in : Result (List ℕ) Cause → Result (List ℕ) Cause
string_in (Ok digits) = Ok (plus ∷ digits)
string_in (Err cause) = Err cause

-- the text of a wanted list
abbrev pub wanted_in : Result Wanted Cause → Result (Option (List ℕ)) Cause
wanted_in (Ok wanted) = Ok (wanted_text wanted)
wanted_in (Err cause) = Err cause

-- .. that is read, or its cause
abbrev pub wanted_or_cause : Result Wanted ServiceFault → Result (Option (List ℕ)) Cause
wanted_or_cause (Ok wanted) = Ok (wanted_text wanted)
wanted_or_cause (Err fault) = Err (Want fault)

-- the domains of a row
abbrev pub listed : Domains → List Labels
listed domains = take domains.count domains.row

-- .. that was made, or why not
abbrev pub domains_in : {F : Type 0} → Result Domains F → Result (List Labels) F
domains_in (Ok domains) = Ok (listed domains)
domains_in (Err fault) = Err fault

-- what is asked, without the slices that it is held in
abbrev pub inquiry_of : Inquiry → applications.Inquiry
inquiry_of inquiry = record { string = inquiry.string; want = wanted_text inquiry.wanted; keys = listed inquiry.keys }

abbrev pub inquiry_in : Result Inquiry Cause → Result applications.Inquiry Cause
inquiry_in (Ok inquiry) = Ok (inquiry_of inquiry)
inquiry_in (Err cause) = Err cause

-- the bytes left of a fetched file; where that is not told, any
abbrev pub LeftBytes : Option (List ℕ) → Result (List ℕ) Cause → Type 0
LeftBytes (Some bytes) result = result ≡ Ok bytes
LeftBytes None result = (bytes : List ℕ) × (result ≡ Ok bytes)

-- .. as a zone text
abbrev pub LeftText : Option (List ℕ) → ℕ → Result (List Record) Cause → Type 0
LeftText left place = Then (LeftBytes left) (Texts place)

-- the refusal of a broken text
abbrev pub Refuses : ℕ → TextFault → Why → Type 0
Refuses place fault why = (why ≡ Memory) ⊎ ((fault.why ≢ text.Memory) × (why ≡ Judged (Text place fault)))

-- the zones after one more was added, or the cause why not
abbrev pub zones_after : List Zone → Result (Unit {0}) Cause → Result (List Zone) Cause
zones_after zones (Ok done) = Ok zones
zones_after zones (Err cause) = Err cause

-- the work of a request was done or stopped as its verdict says, and by what the words alone are whatever else comes
pub record DoesWork (told : Told) (work : Work) (result : Result Printed Why) : Type 0 where
  pub does : Does work.uses (λ printed. work.answers told (whole printed)) result
  pub early : (cause : Cause) → work.breaks cause → result ≡ Err (Judged cause)

-- the refusals that come with no text and no verdict
abbrev pub HasNoVerdict : Why → Type 0
HasNoVerdict Usage = Unit {0}
HasNoVerdict (Judged cause) = ⊥
HasNoVerdict (Outside Shelf) = Unit {0}
HasNoVerdict (Outside Input) = Unit {0}
HasNoVerdict (Outside Output) = ⊥
HasNoVerdict Memory = Unit {0}

-- what a run comes to, but for the line of a refusal
pub record Runs (told : Told) (words : List (List ℕ)) (out out' : SinkState) (end : Status) : Type 0 where
  pub usage : end ≡ Refused Usage → ¬ IsRequest words
  pub no_request : ¬ IsRequest words → end ≡ Refused Usage
  pub early : (asked : Request) (cause : Cause) → Means words asked → (work_of words asked).breaks cause → end ≡ Refused (Judged cause)
  pub printed : (ending : Ending) → end ≡ Ended ending → (text : List ℕ) × ComesTo told words (prints ending text) × Gains out out' text
  pub judged : (cause : Cause) → end ≡ Refused (Judged cause) → (front : List ℕ) × ComesTo told words (refuses front cause) × Gains out out' front
  pub failed : (object : Object) → end ≡ Refused (Outside object) → Need words object ⊎ (object ≡ Output)
  pub cut : end ≡ Refused (Outside Output) → (text : List ℕ) × IsOutput told words text × ((n : ℕ) × Gains out out' (take n text))
  pub kept : (why : Why) → HasNoVerdict why → end ≡ Refused why → (front : List ℕ) × Leaves told words front × Gains out out' front

-- a run ended by this verdict
abbrev pub EndsWith : List (List ℕ) → Verdict → Status → (out out' err err' : SinkState) → Type 0
EndsWith words (prints ending text) end out out' err err' = (end ≡ Ended ending) × Gains out out' text
EndsWith words (refuses front cause) end out out' err err' =
    (end ≡ Refused (Judged cause)) × Gains out out' front × Takes err err' (cause_line words cause)
