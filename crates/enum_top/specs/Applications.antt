-- What each application makes of the words of a request: its original string, the services that are wanted, and the
-- domains that its walk begins at (RFC 3402, section 3; ENUM: RFC 6116, sections 1.2 and 3.2; S-NAPTR: RFC 3958,
-- section 6; U-NAPTR: RFC 4848, section 4).
use Rattle.std.specs.Prelude.{◌≡◌, ◌⊎◌, ℕ, nat_le, List, [], ◌∷◌, length, map, if◌then◌else◌, Option, Some, None, option_map, Result, Ok, Err}
use Rattle.dns_name.specs.Name.{wire_of}
use Rattle.dns_name.specs.Reading.{name_of}
use Rattle.dns_name.specs.declared.fault.NameFault.{NameFault}
use Rattle.enum_app.specs.App.{enum_meaning}
use Rattle.enum_app.specs.Number.{IsNumber, HasNumberFault, digits_of, key_labels, e164_arpa, plus}
use Rattle.enum_app.specs.declared.number.NumberFault.{NumberFault}
use Rattle.naptr_data.specs.Zones.{Labels}
use Rattle.request_words.specs.Words.{text_at}
use Rattle.request_words.specs.declared.request.AppName.{AppName}
use Rattle.request_words.specs.declared.request.AppName.TheVariants.{Enum, Snaptr, Unaptr}
use Rattle.service_field.specs.Applications.{Meaning}
use Rattle.service_field.specs.Faults.{snaptr_wanted_fault, wanted_fault}
use Rattle.service_field.specs.declared.fault.ServiceFault.{ServiceFault}
use Rattle.snaptr_app.specs.App.{snaptr_meaning, unaptr_meaning}
use Rattle.snaptr_app.specs.Domain.{domain_fault, key_of}
use Rattle.snaptr_app.specs.declared.fault.DomainFault.{DomainFault}
use Rattle.snaptr_app.specs.declared.fault.DomainFault.TheVariants.{BadName}
use Rattle.enum_base.specs.Stages.{Then}
use Rattle.enum_top.specs.declared.cause.Cause.{Cause}
use Rattle.enum_top.specs.declared.cause.Cause.TheVariants as cause

-- what the application makes of flags and services
abbrev pub meaning_of : AppName → Meaning
meaning_of Enum = enum_meaning
meaning_of Snaptr = snaptr_meaning
meaning_of Unaptr = unaptr_meaning

-- the original string of a domain, unless it has a fault
abbrev pub domain_string : List ℕ → Option DomainFault → Result (List ℕ) Cause
domain_string text None = Ok text
domain_string text (Some fault) = Err (cause.Domain fault)

-- the original string of a text, or its fault. ENUM: a plus sign and the digits of the number; S-NAPTR and U-NAPTR: the
-- text of the domain as it stands
abbrev pub Strings : AppName → List ℕ → Result (List ℕ) Cause → Type 0
Strings Enum text result =
    (IsNumber text × (result ≡ Ok (plus ∷ digits_of text)))
    ⊎ ((fault : NumberFault) × HasNumberFault text fault × (result ≡ Err (cause.Number fault)))
Strings Snaptr text result = result ≡ domain_string text (domain_fault text)
Strings Unaptr text result = result ≡ domain_string text (domain_fault text)

-- the first fault of a wanted list, where there is a list and it has one
abbrev pub want_fault : AppName → Option (List ℕ) → Option ServiceFault
want_fault app None = None
want_fault Enum (Some text) = wanted_fault text
want_fault Snaptr (Some text) = snaptr_wanted_fault text
want_fault Unaptr (Some text) = snaptr_wanted_fault text

-- a wanted list, unless it has a fault
abbrev pub faultless : Option (List ℕ) → Option ServiceFault → Result (Option (List ℕ)) Cause
faultless want None = Ok want
faultless want (Some fault) = Err (cause.Want fault)

-- the wanted list, where there is one
abbrev pub Wants : AppName → Option (List ℕ) → Result (Option (List ℕ)) Cause → Type 0
Wants app want result = result ≡ faultless want (want_fault app want)

-- one value before others
abbrev pub after : {A F : Type 0} → A → Result (List A) F → Result (List A) F
after value (Ok values) = Ok (value ∷ values)
after value (Err fault) = Err fault

-- all values of a list, or its first fault
abbrev pub every : {A F : Type 0} → List (Result A F) → Result (List A) F
every [] = Ok []
every (Ok value ∷ results) = after value (every results)
every (Err fault ∷ results) = Err fault

-- the name of a text, with the root as origin
abbrev pub apex_of : List ℕ → Result Labels NameFault
apex_of text = name_of text (Some [])

-- the apexes: the name of each text; e164.arpa. where there is none
abbrev pub apexes_of : List (List ℕ) → Result (List Labels) NameFault
apexes_of [] = Ok (e164_arpa ∷ [])
apexes_of (text ∷ texts) = every (map apex_of (text ∷ texts))

-- .. or the fault of the first that is no name
abbrev pub as_apexes : Result (List Labels) NameFault → Result (List Labels) Cause
as_apexes (Ok apexes) = Ok apexes
as_apexes (Err fault) = Err (cause.Apex fault)

-- .. of the words
abbrev pub Apexes : List (List ℕ) → Result (List Labels) Cause → Type 0
Apexes apexes result = result ≡ as_apexes (apexes_of apexes)

-- labels that fit a name
abbrev pub fitting : Labels → Result Labels Cause
fitting labels = if nat_le (length (wire_of labels)) 255 then Ok labels else Err cause.Key

-- the domain of digits under an apex: the last digit first (RFC 6116, section 3.2)
abbrev pub under : List ℕ → Labels → Result Labels Cause
under digits top = fitting (key_labels digits top)

-- the domains of digits: every apex in turn, and then the domain under each of them in turn
abbrev pub Numbered : List ℕ → List (List ℕ) → Result (List Labels) Cause → Type 0
Numbered digits apexes = Then (Apexes apexes) (λ tops result. result ≡ every (map (under digits) tops))

-- the name that a text stands for, alone; one whose string has no fault stands for one
abbrev pub domain_key : Result Labels NameFault → Result (List Labels) Cause
domain_key (Ok labels) = Ok (labels ∷ [])
domain_key (Err fault) = Err (cause.Domain (BadName fault))

-- the keys: the domains that the walk begins at. ENUM: those of the digits; S-NAPTR and U-NAPTR: the name of the text
abbrev pub Keys : AppName → List ℕ → List (List ℕ) → Result (List Labels) Cause → Type 0
Keys Enum text apexes result = Numbered (digits_of text) apexes result
Keys Snaptr text apexes result = result ≡ domain_key (key_of text)
Keys Unaptr text apexes result = result ≡ domain_key (key_of text)

-- what is asked: the original string, the wanted list, and the keys
pub record Inquiry : Type 0 where
  pub string : List ℕ
  pub want : Option (List ℕ)
  pub keys : List Labels

-- what the words ask: first the string, then the wanted list, then every apex, then every key
abbrev pub Asks : List (List ℕ) → AppName → ℕ → Option ℕ → List ℕ → Result Inquiry Cause → Type 0
Asks words app string want apexes =
    Then (Strings app (text_at words string)) (λ original.
    Then (Wants app (option_map (text_at words) want)) (λ wanted.
    Then (Keys app (text_at words string) (map (text_at words) apexes)) (λ domains result.
    result ≡ Ok (record { string = original; want = wanted; keys = domains }))))
