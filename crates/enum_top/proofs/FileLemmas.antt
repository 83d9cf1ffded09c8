-- What was read of a zone file, and what that comes to.
use Rattle.std.proofs.Common.{◌≡◌, ◌≢◌, inl, inr, ℕ, ◌+◌, ◌≤◌, List, [], ◌∷◌, ◌++◌, length, take, drop, Option, Some}
use Rattle.std.proofs.Common.{None, option_map, Result, Ok, Err, refl, sym, ap, subst, ◌∙◌, append_assoc, length-append}
use Rattle.std.proofs.Common.{max, arith}
use Rattle.std.specs.Prelude.{Contains, IsSome, true, false, unwrap_or}
use Rattle.std.proofs.Math.Seq.{drop-append_seam}
use Rattle.std.proofs.lemmas.List.{append-nil, take-append-drop}
use Rattle.dns_wire.specs.declared.record.Record.{Record}
use Rattle.enum_base.specs.Loading.{AreTaken, TakesAtMost}
use Rattle.enum_base.proofs.OutsideLemmas.{after-twice}
use Rattle.enum_base.specs.Causes.{many_more}
use Rattle.enum_base.specs.Outside.{AreFirst, EndsAtEnd, File, Finds, Opens, ShelfState, WhereTold, after, file_of}
use Rattle.naptr_data.proofs.CutLemmas.{Contains-none, head_or_after}
use Rattle.naptr_data.specs.Zones.{Labels}
use Rattle.request_words.specs.Words.{text_at}
use Rattle.zone_build.specs.Zone.{IsPlain}
use Rattle.zone_text.specs.Fed.{Fed}
use Rattle.zone_text.specs.Zone.{Are, BreaksSoFar, ZoneBreaks, most_bytes}
use Rattle.zone_text.specs.declared.fault.TextFault.{TextFault}
use Rattle.zone_token.specs.declared.fault.TextWhy.{TextWhy}
use Rattle.zone_token.specs.declared.fault.TextWhy.TheVariants as text
use Rattle.zone_text.specs.declared.meaning.Statement.{Statement}
use Rattle.enum_top.specs.Running.{Does, LeftBytes, LeftText, Refuses}
use Rattle.enum_base.specs.Stages.Then.{goes, stops}
use Rattle.enum_top.specs.ZoneFiles.{Files, TextAt, found}
use Rattle.enum_top.specs.declared.cause.Cause.{Cause}
use Rattle.enum_top.specs.declared.cause.Cause.TheVariants.{Absent, Text}
use Rattle.enum_top.specs.declared.why.Why.{Why}
use Rattle.enum_top.specs.declared.objects.Object.{Object}
use Rattle.enum_top.proofs.DoesLemmas.{ill_formed}

-- the law that a text that is broken so far stays so
abbrev pub StaysBroken : Type 0
StaysBroken = (bytes more : List ℕ) (origin : Labels) (line : ℕ) (why : TextWhy) → BreaksSoFar bytes origin line why
    → ZoneBreaks (bytes ++ more) origin line why

-- a reader was fed what was read, and the shelf has the rest left
pub record IsFed (old new : ShelfState) (fed : Fed) : Type 0 where
  pub parts : old.left ≡ option_map (λ rest. fed.text ++ rest) new.left
  pub origin : fed.origin ≡ []
  pub unbroken : fed.fault ≡ None
  pub small : length fed.text ≤ most_bytes
  pub files : new.files ≡ old.files
  pub faults : new.faults ≡ old.faults
  pub given : new.given ≤ length fed.text
  pub most : new.most_given ≤ max old.most_given (length fed.text)

front_and_rest : (bytes piece rest : List ℕ) (n : ℕ) → piece ≡ take n rest → bytes ++ rest ≡ (bytes ++ piece) ++ drop n rest
front_and_rest bytes piece rest n is =
    ap (λ (r : List ℕ). bytes ++ r) (sym (take-append-drop n rest))
    ∙ sym (append_assoc bytes (take n rest) (drop n rest))
    ∙ ap (λ (p : List ℕ). (bytes ++ p) ++ drop n rest) (sym is)

-- one piece more was fed
pub next_left : (old left left' : Option (List ℕ)) (bytes piece : List ℕ) (n : ℕ)
    → old ≡ option_map (λ rest. bytes ++ rest) left → AreFirst n piece left → left' ≡ after n left
    → old ≡ option_map (λ rest. (bytes ++ piece) ++ rest) left'
next_left old None left' bytes piece n parts first then = parts ∙ sym (ap (option_map (λ rest. (bytes ++ piece) ++ rest)) then)
next_left old (Some rest) left' bytes piece n parts first then =
    parts ∙ ap Some (front_and_rest bytes piece rest n first) ∙ sym (ap (option_map (λ r. (bytes ++ piece) ++ r)) then)

pub fed_more : (old between new : ShelfState) (fed fed' : Fed) (piece : List ℕ) (n : ℕ) → IsFed old between fed
    → fed' ≡ record fed { text = fed.text ++ piece } → length fed'.text ≤ most_bytes → AreFirst n piece between.left
    → new.left ≡ after n between.left → new.files ≡ between.files → new.faults ≡ between.faults → n ≤ length piece
    → new.given ≡ many_more between.given n → new.most_given ≡ max between.most_given new.given → IsFed old new fed'
fed_more old between new fed fed' piece n has is within first left files faults size counts greatest =
    let small : length (fed.text ++ piece) ≤ most_bytes = subst (λ (f : Fed). length f.text ≤ most_bytes) is within in
    let parts = length-append fed.text piece in
    let given = has.given in
    let most = has.most in
    subst (IsFed old new) (sym is) (record {
      parts = next_left old.left between.left new.left fed.text piece n has.parts first left;
      origin = has.origin;
      unbroken = has.unbroken;
      small = small;
      files = files ∙ has.files;
      faults = faults ∙ has.faults;
      given = given_more between.given new.given (length fed.text) (length piece) (length (fed.text ++ piece)) n given counts size parts;
      most = most_more old.most_given between.most_given new.most_given between.given new.given (length fed.text)
          (length piece) (length (fed.text ++ piece)) n given most counts size greatest parts;
    })
  where
    given_more : (g g' t p tp n : ℕ) → g ≤ t → g' ≡ many_more g n → n ≤ p → tp ≡ t + p → g' ≤ tp
    given_more g g' t p tp n given counts size parts = omega (arith, given, counts, size, parts)

    most_more : (o b m g g' t p tp n : ℕ) → g ≤ t → b ≤ max o t → g' ≡ many_more g n → n ≤ p → m ≡ max b g' → tp ≡ t + p → m ≤ max o tp
    most_more o b m g g' t p tp n given most counts size greatest parts = omega (arith, given, most, counts, size, greatest, parts)

-- what was fed before and read now is taken from what was left at first
pub taken_more : (bytes : List ℕ) (n : ℕ) (old left now : Option (List ℕ))
    → old ≡ option_map (λ rest. bytes ++ rest) left → now ≡ after n left → now ≡ after (length bytes + n) old
taken_more bytes n old left now parts then =
    then ∙ ap (after n) (sym (ap (after (length bytes)) parts ∙ front left)) ∙ after-twice (length bytes) n old
  where
    front : (left : Option (List ℕ)) → after (length bytes) (option_map (λ rest. bytes ++ rest) left) ≡ left
    front None = refl
    front (Some rest) = ap Some (drop-append_seam bytes rest)

-- all was read
pub end_left : (old left : Option (List ℕ)) (bytes : List ℕ) (n : ℕ) → old ≡ option_map (λ rest. bytes ++ rest) left
    → n ≡ 0 → EndsAtEnd n left → LeftBytes old (Ok bytes)
end_left old None bytes n parts none ends = subst (λ o. LeftBytes o (Ok bytes)) (sym parts) (bytes, refl)
end_left old (Some rest) bytes n parts none ends =
    subst (λ o. LeftBytes o (Ok bytes)) (sym (parts ∙ ap (λ r. Some (bytes ++ r)) (ends.0 none) ∙ ap Some (append-nil bytes))) refl

-- the text so far breaks
pub broken_left : StaysBroken → (old left : Option (List ℕ)) (place : ℕ) (bytes piece : List ℕ) (origin : Labels)
    (n : ℕ) (fault : TextFault) → old ≡ option_map (λ rest. bytes ++ rest) left → AreFirst n piece left → origin ≡ []
    → BreaksSoFar (bytes ++ piece) origin fault.line fault.why → LeftText old place (Err (Text place fault))
broken_left law old None place bytes piece origin n fault parts first root broken =
    goes ((bytes ++ piece) ++ []) (subst (λ o. LeftBytes o (Ok ((bytes ++ piece) ++ []))) (sym parts) ((bytes ++ piece) ++ [], refl))
    (inr (
      fault,
      subst (λ (o : Labels). ZoneBreaks ((bytes ++ piece) ++ []) o fault.line fault.why) root
          (law (bytes ++ piece) [] origin fault.line fault.why broken),
      refl,
    ))
broken_left law old (Some rest) place bytes piece origin n fault parts first root broken =
    goes ((bytes ++ piece) ++ drop n rest)
    (subst (λ o. LeftBytes o (Ok ((bytes ++ piece) ++ drop n rest)))
    (sym (parts ∙ ap Some (front_and_rest bytes piece rest n first))) refl)
    (inr (
      fault,
      subst (λ (o : Labels). ZoneBreaks ((bytes ++ piece) ++ drop n rest) o fault.line fault.why) root
          (law (bytes ++ piece) (drop n rest) origin fault.line fault.why broken),
      refl,
    ))

-- a broken text stops the work
pub text_refused : {A : Type 0} {Used : Object → Type 0} {One : Result A Cause → Type 0} (place : ℕ)
    (fault : TextFault) (why : Why) → Refuses place fault why
    → (fault.why ≢ text.Memory → One (Err (Text place fault))) → Does Used One (Err why)
text_refused place fault why (inl is) broken = rw is (record {
  went = λ v e. absurd (cc e);
  stopped = λ cause e. absurd (cc e);
  failed = λ object e. absurd (cc e);
  asked = λ e. absurd (cc e);
  unwritten = λ e. absurd (cc e);
})
text_refused place fault why (inr (known, is)) broken = rw is (ill_formed (broken known))

-- the records of a file are plain
each_plain : (records : List Record) (statements : List Statement) → Are records statements → (one : Record) → Contains records one → IsPlain one
each_plain [] statements are one holds = absurd (Contains-none one holds)
each_plain (first ∷ records) [] are one holds = absurd are
each_plain (first ∷ records) (said ∷ statements) are one holds =
    elim (head_or_after first records one holds) [
      | inl is ↦ subst IsPlain (sym is) (record { class = are.0.class; whole = are.0.whole })
      | inr later ↦ each_plain records statements are.1 one later
    ]

pub plain_at : (files : Option (List File)) (words : List (List ℕ)) (place : ℕ) (records : List Record)
    → TextAt files words place (Ok records) → (one : Record) → Contains records one → IsPlain one
plain_at files words place records (goes bytes read (inl (said, says, is))) one holds =
    let same : records ≡ said = cc is in
    each_plain said says.statements says.records_are one (subst (λ (rs : List Record). Contains rs one) same holds)
plain_at files words place records (goes bytes read (inr (fault, breaks, is))) one holds = absurd (cc is)
plain_at files words place records (stops cause stopped is) one holds = absurd (cc is)

-- a file that was found, and what its text comes to
found_bytes : (place : ℕ) (held : Option (List ℕ)) (bytes : List ℕ) → IsSome held → bytes ≡ unwrap_or held [] → Ok bytes ≡ found place held
found_bytes place None bytes some is = absurd (cc some)
found_bytes place (Some b) bytes some is = ap Ok is

left_bytes : (files : Option (List File)) (words : List (List ℕ)) (place : ℕ) (name : List ℕ) (left : Option (List ℕ))
    (bytes : List ℕ) → name ≡ text_at words place → Finds files name true → Opens files name left
    → LeftBytes left (Ok bytes) → Files files words place (Ok bytes)
left_bytes None words place name left bytes same finds opens read = (Some bytes, refl)
left_bytes (Some fs) words place name left bytes same finds opens read =
    let is : Ok bytes ≡ Ok (unwrap_or (file_of fs name) []) = subst (λ (l : Option (List ℕ)). LeftBytes l (Ok bytes)) opens read in
    found_bytes place (file_of fs name) bytes (finds.0 refl) (cc is) ∙ ap (λ n. found place (file_of fs n)) same

pub text_of_left : (files : Option (List File)) (words : List (List ℕ)) (place : ℕ) (name : List ℕ)
    (left : Option (List ℕ)) (result : Result (List Record) Cause) → name ≡ text_at words place → Finds files name true
    → Opens files name left → LeftText left place result → TextAt files words place result
text_of_left files words place name left result same finds opens (goes bytes read said) =
    goes bytes (left_bytes files words place name left bytes same finds opens read) said
text_of_left files words place name left result same finds opens (stops cause stopped is) = absurd (never left cause stopped)
  where
    never : (left : Option (List ℕ)) (cause : Cause) → LeftBytes left (Err cause) → ⊥
    never None cause (bytes, is) = cc is
    never (Some bytes) cause is = cc is

-- a file that is not there
absent_bytes : (place : ℕ) (held : Option (List ℕ)) → ¬ IsSome held → Err (Absent place) ≡ found place held
absent_bytes place None none = refl
absent_bytes place (Some b) none = absurd (none refl)

pub text_absent : (files : Option (List File)) (words : List (List ℕ)) (place : ℕ) (name : List ℕ)
    → name ≡ text_at words place → Finds files name false → TextAt files words place (Err (Absent place))
text_absent None words place name same finds = stops (Absent place) (None, refl) refl
text_absent (Some fs) words place name same finds =
    stops (Absent place) (absent_bytes place (file_of fs name) (λ some. cc (finds.1 some)) ∙ ap (λ n. found place (file_of fs n)) same) refl

-- how much of a file was taken
pub taken_of : (files : Option (List File)) (name : List ℕ) (most : ℕ) (left left' : Option (List ℕ))
    → Opens files name left → AreTaken most left left' → WhereTold files (TakesAtMost most name left')
taken_of None name most left left' opens taken = tt
taken_of (Some fs) name most left left' opens taken =
    λ bytes is. subst (λ (l : Option (List ℕ)). AreTaken most l left') (opens ∙ ap (λ (o : Option (List ℕ)). Some (unwrap_or o [])) is) taken

pub taken_none : (files : Option (List File)) (name : List ℕ) (most : ℕ) (left' : Option (List ℕ))
    → Finds files name false → WhereTold files (TakesAtMost most name left')
taken_none None name most left' finds = tt
taken_none (Some fs) name most left' finds = λ bytes is. absurd (cc (finds.1 (some_of (file_of fs name) bytes is)))
  where
    some_of : (held : Option (List ℕ)) (bytes : List ℕ) → held ≡ Some bytes → IsSome held
    some_of None bytes is = absurd (cc is)
    some_of (Some b) bytes is = refl
