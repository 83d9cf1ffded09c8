-- What is asked, stage by stage.
use Rattle.std.proofs.Common.{◌≡◌, inl, inr, ℕ, List, [], ◌∷◌, map, Option, Some, None, option_map, Result, Ok, Err, refl, sym, ap, subst, ◌∙◌}
use Rattle.enum_app.specs.Number.{digits_of}
use Rattle.enum_app.proofs.NumberFaultsLemmas.{no_fault, one_fault}
use Rattle.naptr_data.specs.Zones.{Labels}
use Rattle.service_field.specs.Wanted.{wanted_text}
use Rattle.service_field.specs.declared.fault.ServiceFault.{ServiceFault}
use Rattle.service_field.specs.declared.wanted.Wanted.{Wanted}
use Rattle.snaptr_app.specs.Domain.{domain_fault, key_of}
use Rattle.snaptr_app.specs.declared.fault.DomainFault.{DomainFault}
use Rattle.std.specs.Prelude.{IfOk}
use Rattle.std.specs.Result.{result_err}
use Rattle.request_words.specs.Words.{text_at}
use Rattle.request_words.specs.declared.request.AppName.{AppName}
use Rattle.request_words.specs.declared.request.AppName.TheVariants.{Enum, Snaptr, Unaptr}
use Rattle.enum_top.specs.Applications.{Asks, Inquiry, Keys, Numbered, Strings, Wants, domain_key, domain_string, faultless}
use Rattle.enum_top.specs.Running.{wanted_or_cause}
use Rattle.enum_base.specs.Stages.Then.{goes, stops}
use Rattle.enum_top.specs.declared.cause.Cause.{Cause}
use Rattle.enum_top.specs.declared.cause.Cause.TheVariants.{Number, Domain}
use Rattle.enum_base.proofs.StageLemmas.{IsSingle, IsSingle-is, IsSingle-then}

-- a string has one reading, or one fault
pub IsSingle-strings : (app : AppName) (text : List ℕ) → IsSingle (Strings app text)
IsSingle-strings Snaptr text = IsSingle-is _
IsSingle-strings Unaptr text = IsSingle-is _
IsSingle-strings Enum text = record { same = same }
  where
    same : (r s : Result (List ℕ) Cause) → Strings Enum text r → Strings Enum text s → r ≡ s
    same r s (inl (number, is)) (inl (number', is')) = is ∙ sym is'
    same r s (inl (number, is)) (inr (fault, has, is')) = absurd (no_fault text fault number has)
    same r s (inr (fault, has, is)) (inl (number, is')) = absurd (no_fault text fault number has)
    same r s (inr (one, has, is)) (inr (other, has', is')) =
        is ∙ ap (λ f. Err (Number f)) (one_fault text one other has has') ∙ sym is'

pub IsSingle-keys : (app : AppName) (text : List ℕ) (apexes : List (List ℕ)) → IsSingle (Keys app text apexes)
IsSingle-keys Snaptr text apexes = IsSingle-is _
IsSingle-keys Unaptr text apexes = IsSingle-is _
IsSingle-keys Enum text apexes = IsSingle-then _ _ (IsSingle-is _) (λ tops. IsSingle-is _)

-- what is asked is one thing
pub IsSingle-asks : (words : List (List ℕ)) (app : AppName) (string : ℕ) (want : Option ℕ) (apexes : List ℕ) → IsSingle (Asks words app string want apexes)
IsSingle-asks words app string want apexes =
    IsSingle-then _ _ (IsSingle-strings app (text_at words string))
    (λ original. IsSingle-then _ _ (IsSingle-is _)
    (λ wanted. IsSingle-then _ _ (IsSingle-keys app (text_at words string) (map (text_at words) apexes))
    (λ domains. IsSingle-is _)))

-- .. so one cause at most, and none beside what is asked
pub one_cause : (words : List (List ℕ)) (app : AppName) (string : ℕ) (want : Option ℕ) (apexes : List ℕ) (cause other : Cause)
    → Asks words app string want apexes (Err cause) → Asks words app string want apexes (Err other) → cause ≡ other
one_cause words app string want apexes cause other h k =
    let single = IsSingle-asks words app string want apexes in cc (single.same (Err cause) (Err other) h k)

pub no_cause : {P : Type 0} (words : List (List ℕ)) (app : AppName) (string : ℕ) (want : Option ℕ) (apexes : List ℕ)
    (asked : Inquiry) (other : Cause) → Asks words app string want apexes (Ok asked)
    → Asks words app string want apexes (Err other) → P
no_cause words app string want apexes asked other h k =
    let single = IsSingle-asks words app string want apexes in absurd (cc (single.same (Ok asked) (Err other) h k))

-- a number is asked for, stage by stage
module _ (words : List (List ℕ)) (string : ℕ) (want : Option ℕ) (apexes : List ℕ) (text : List ℕ) (same : text ≡ text_at words string) where
  pub no_string : (cause : Cause) → Strings Enum text (Err cause) → Asks words Enum string want apexes (Err cause)
  no_string cause h = stops cause (subst (λ t. Strings Enum t (Err cause)) same h) refl

  pub no_want : (original : List ℕ) (cause : Cause) → Strings Enum text (Ok original)
      → Wants Enum (option_map (text_at words) want) (Err cause) → Asks words Enum string want apexes (Err cause)
  no_want original cause h k = goes original (subst (λ t. Strings Enum t (Ok original)) same h) (stops cause k refl)

  pub no_key : (original digits : List ℕ) (wanted : Option (List ℕ)) (cause : Cause) → Strings Enum text (Ok original)
      → digits ≡ digits_of text → Wants Enum (option_map (text_at words) want) (Ok wanted)
      → Numbered digits (map (text_at words) apexes) (Err cause) → Asks words Enum string want apexes (Err cause)
  no_key original digits wanted cause h is k n =
      goes original (subst (λ t. Strings Enum t (Ok original)) same h)
      (goes wanted k (stops cause
      (subst (λ ds. Numbered ds (map (text_at words) apexes) (Err cause)) (is ∙ ap digits_of same) n) refl))

  pub asked_whole : (original digits aus : List ℕ) (wanted : Option (List ℕ)) (keys : List Labels)
      → Strings Enum text (Ok original) → digits ≡ digits_of text
      → Wants Enum (option_map (text_at words) want) (Ok wanted)
      → Numbered digits (map (text_at words) apexes) (Ok keys) → aus ≡ original
      → Asks words Enum string want apexes (Ok (record { string = aus; want = wanted; keys = keys }))
  asked_whole original digits aus wanted keys h is k n e =
      goes original (subst (λ t. Strings Enum t (Ok original)) same h)
      (goes wanted k
      (goes keys (subst (λ ds. Numbered ds (map (text_at words) apexes) (Ok keys)) (is ∙ ap digits_of same) n)
      (λ i. Ok (record { string = e i; want = wanted; keys = keys }))))

-- a domain is asked for, stage by stage

strings_of : (app : AppName) → (app ≡ Enum → ⊥) → (text : List ℕ) (r : Result (List ℕ) Cause) → r ≡ domain_string text (domain_fault text) → Strings app text r
strings_of Enum unlike text r is = absurd (unlike refl)
strings_of Snaptr unlike text r is = is
strings_of Unaptr unlike text r is = is

keys_of : (app : AppName) → (app ≡ Enum → ⊥) → (text : List ℕ) (apexes : List (List ℕ)) (r : Result (List Labels) Cause)
    → r ≡ domain_key (key_of text) → Keys app text apexes r
keys_of Enum unlike text apexes r is = absurd (unlike refl)
keys_of Snaptr unlike text apexes r is = is
keys_of Unaptr unlike text apexes r is = is

module _ (words : List (List ℕ)) (app : AppName) (unlike : app ≡ Enum → ⊥) (string : ℕ) (want : Option ℕ) (apexes : List ℕ)
    (text : List ℕ) (same : text ≡ text_at words string) where
  is_string : (r : Result (List ℕ) Cause) → r ≡ domain_string text (domain_fault text) → Strings app (text_at words string) r
  is_string r is = strings_of app unlike (text_at words string) r (is ∙ ap (λ t. domain_string t (domain_fault t)) same)

  pub no_domain : (fault : DomainFault) → Some fault ≡ domain_fault text → Asks words app string want apexes (Err (Domain fault))
  no_domain fault e = stops (Domain fault) (is_string (Err (Domain fault)) (ap (domain_string text) e)) refl

  pub domain_wants_none : (cause : Cause) → None ≡ domain_fault text
      → Wants app (option_map (text_at words) want) (Err cause) → Asks words app string want apexes (Err cause)
  domain_wants_none cause e k = goes text (is_string (Ok text) (ap (domain_string text) e)) (stops cause k refl)

  pub domain_whole : (domain aus : List ℕ) (wanted : Option (List ℕ)) (key : Labels) (keys : List Labels)
      → None ≡ domain_fault text → domain ≡ text → Wants app (option_map (text_at words) want) (Ok wanted)
      → aus ≡ domain → key_of domain ≡ Ok key → keys ≡ key ∷ []
      → Asks words app string want apexes (Ok (record { string = aus; want = wanted; keys = keys }))
  domain_whole domain aus wanted key keys e is k a n one =
      let known : Keys app (text_at words string) (map (text_at words) apexes) (Ok keys) =
      keys_of app unlike (text_at words string) (map (text_at words) apexes) (Ok keys)
      (ap Ok one ∙ sym (ap domain_key n) ∙ ap (λ t. domain_key (key_of t)) (is ∙ same)) in
      let string_is : aus ≡ text = a ∙ is in
      goes text (is_string (Ok text) (ap (domain_string text) e))
      (goes wanted k (goes keys known (λ i. Ok (record { string = string_is i; want = wanted; keys = keys }))))

-- a wanted list that was read
pub listed : (read : Result Wanted ServiceFault) (list : List ℕ) (fault : Option ServiceFault)
    → result_err read ≡ fault → IfOk read (λ wanted. wanted_text wanted ≡ Some list)
    → wanted_or_cause read ≡ faultless (Some list) fault
listed (Ok wanted) list fault e h = ap Ok h ∙ ap (faultless (Some list)) e
listed (Err why) list fault e h = ap (faultless (Some list)) e
