-- The row that words are those of, and the request that it makes of them.
use Rattle.std.proofs.Common.{◌≡◌, ℕ, zero, suc, ◌+◌, ◌≤◌, Bool, true, false, ◌&&◌, List, [], ◌∷◌, ◌++◌, length, take}
use Rattle.std.proofs.Common.{drop, Option, Some, None, refl, sym, ap, ◌∙◌, length-append, arith}
use Rattle.std.specs.Prelude.{Contains, bytes_eq, cond, find, not, if◌then◌else◌}
use Rattle.std.specs.List.{list_all, position}
use Rattle.std.proofs.lemmas.Bool.{le-leb}
use Rattle.std.proofs.lemmas.List.{drop-drop, drop_at, length-drop, take-append-drop, length-take-le}
use Rattle.std.proofs.lemmas.Slice.Eq.{bytes_eq-Decides}
use Rattle.request_words.specs.Reading.{app_in, app_named, are_chosen, options_in, request_by, request_with, values_in, places_in}
use Rattle.request_words.specs.Rows.{Row, app_word, is_app, option_word, size_of}
use Rattle.request_words.specs.Words.{Given, IsSpelled, Names, request_of, text_at, values_of, words_of}
use Rattle.request_words.specs.declared.option.OptionName.{OptionName}
use Rattle.request_words.specs.declared.request.AppName.{AppName}
use Rattle.request_words.specs.declared.request.AppName.TheVariants.{Enum, Snaptr, Unaptr}
use Rattle.request_words.specs.declared.request.Request.{Request}
use Rattle.request_words.proofs.OptionLemmas.{both, chosen_from, chosen_to, places_same}

-- no word is that of two rows

abbrev pub are_apart : List Row → Bool
are_apart [] = true
are_apart (row ∷ rows) = list_all (λ other. not (bytes_eq row.word other.word)) rows && are_apart rows

other_word : (one : Row) (rows : List Row) (row : Row)
    → list_all (λ other. not (bytes_eq one.word other.word)) rows ≡ true → Contains rows row → one.word ≡ row.word → ⊥
other_word one [] row apart (k, l, e) same = absurd (omega (arith, l))
other_word one (first ∷ rows) row apart (zero, l, e) same =
    let parts = both (not (bytes_eq one.word first.word)) (list_all (λ other. not (bytes_eq one.word other.word)) rows) apart in
    let equal : bytes_eq one.word first.word ≡ true = (bytes_eq-Decides one.word first.word).1 (same ∙ ap (λ (r : Row). r.word) (sym e)) in
    cc (sym (ap not equal) ∙ parts.0)
other_word one (first ∷ rows) row apart (suc k, l, e) same =
    other_word one rows row (both (not (bytes_eq one.word first.word))
    (list_all (λ other. not (bytes_eq one.word other.word)) rows) apart).1 (k, omega (arith, l), e) same

-- the row of a word is the one that is found
pub found_only : (word : List ℕ) (rows : List Row) (row : Row) → are_apart rows ≡ true → Contains rows row
    → word ≡ row.word → find (λ (r : Row). bytes_eq word r.word) rows ≡ Some row
found_only word [] row apart (k, l, e) same = absurd (omega (arith, l))
found_only word (one ∷ rows) row apart (zero, l, e) same =
    ap (λ t. cond t (Some one) (find (λ (r : Row). bytes_eq word r.word) rows))
    ((bytes_eq-Decides word one.word).1 (same ∙ ap (λ (r : Row). r.word) (sym e))) ∙ ap Some e
found_only word (one ∷ rows) row apart (suc k, l, e) same =
    let parts = both (list_all (λ other. not (bytes_eq one.word other.word)) rows) (are_apart rows) apart in
    let later : Contains rows row = (k, omega (arith, l), e) in
    by_test (λ equal. other_word one rows row parts.0 later (sym equal ∙ same)) (found_only word rows row parts.1 later same) (bytes_eq word one.word) refl
  where
    by_test : (word ≡ one.word → ⊥) → find (λ (r : Row). bytes_eq word r.word) rows ≡ Some row → (t : Bool)
        → bytes_eq word one.word ≡ t → cond t (Some one) (find (λ (r : Row). bytes_eq word r.word) rows) ≡ Some row
    by_test unlike later true e = absurd (unlike ((bytes_eq-Decides word one.word).0 e))
    by_test unlike later false e = later

-- a row that is found is listed, and has the word
pub found_row : (word : List ℕ) (rows : List Row) (row : Row) → find (λ (r : Row). bytes_eq word r.word) rows ≡ Some row → Contains rows row × (word ≡ row.word)
found_row word [] row e = absurd (cc e)
found_row word (one ∷ rows) row e = by_test (found_row word rows row) (bytes_eq word one.word) refl e
  where
    by_test : (find (λ (r : Row). bytes_eq word r.word) rows ≡ Some row → Contains rows row × (word ≡ row.word))
        → (t : Bool) → bytes_eq word one.word ≡ t
        → cond t (Some one) (find (λ (r : Row). bytes_eq word r.word) rows) ≡ Some row
        → Contains (one ∷ rows) row × (word ≡ row.word)
    by_test later true f g =
        let same : one ≡ row = cc g in
        ((zero, omega arith, same), (bytes_eq-Decides word one.word).0 f ∙ ap (λ (r : Row). r.word) same)
    by_test later false f g = let more = later g in ((suc more.0.0, omega (arith, more.0.1), more.0.2), more.1)

-- the application that words name

same_name : {one other : AppName} → Some one ≡ Some other → app_word one ≡ app_word other
same_name {one} {other} is = let same : one ≡ other = cc is in ap app_word same

named_from : (word : List ℕ) (app : AppName) → app_named word ≡ Some app → word ≡ app_word app
named_from word app e = by_enum (bytes_eq word (app_word Enum)) (bytes_eq word (app_word Snaptr)) (bytes_eq word (app_word Unaptr)) refl refl refl e
  where
    by_enum : (t u v : Bool) → bytes_eq word (app_word Enum) ≡ t → bytes_eq word (app_word Snaptr) ≡ u
        → bytes_eq word (app_word Unaptr) ≡ v
        → (if t then Some Enum else (if u then Some Snaptr else (if v then Some Unaptr else None))) ≡ Some app
        → word ≡ app_word app
    by_enum true u v f g h is = (bytes_eq-Decides word (app_word Enum)).0 f ∙ same_name is
    by_enum false true v f g h is = (bytes_eq-Decides word (app_word Snaptr)).0 g ∙ same_name is
    by_enum false false true f g h is = (bytes_eq-Decides word (app_word Unaptr)).0 h ∙ same_name is
    by_enum false false false f g h is = absurd (cc is)

named_to : (app : AppName) → app_named (app_word app) ≡ Some app
named_to Enum = refl
named_to Snaptr = refl
named_to Unaptr = refl

app_from : (place : Option ℕ) (words : List (List ℕ)) (app : AppName) → app_in place words ≡ Some app → Names place words app
app_from None words app e = let same : Enum ≡ app = cc e in sym same
app_from (Some place) words app e = named_from (text_at words (place + 1)) app e

app_to : (place : Option ℕ) (words : List (List ℕ)) (app : AppName) → Names place words app → app_in place words ≡ Some app
app_to None words app is = ap Some (sym is)
app_to (Some place) words app is = ap app_named is ∙ named_to app

-- the words of a row, with its own word in front
cut_words : (row : Row) (words : List (List ℕ)) → size_of row ≤ length words → text_at words 0 ≡ row.word
    → words ≡ row.word ∷ (take (length row.arguments) (drop 1 words) ++ options_in row words)
cut_words row [] long same = absurd (omega (arith, long))
cut_words row (word ∷ words) long same =
    ap (λ (w : List ℕ). w ∷ words) same
    ∙ ap (λ (ws : List (List ℕ)). row.word ∷ ws)
    (sym (take-append-drop (length row.arguments) words)
    ∙ ap (λ (ws : List (List ℕ)). take (length row.arguments) words ++ ws) (sym options))
  where
    options : drop (size_of row) (word ∷ words) ≡ drop (length row.arguments) words
    options = sym (drop-drop (length row.arguments) 1 (word ∷ words) ∙ ap (λ n. drop n (word ∷ words)) (omega arith))

values_same : (row : Row) (words : List (List ℕ)) (given : List Given) → options_in row words ≡ words_of given
    → ◌≡◌ {A = OptionName → List ℕ} (values_in row words) (values_of row given)
values_same row words given is =
    λ i option. (ap (places_in (option_word option) (size_of row + 1)) is ∙ places_same (option_word option) (size_of row + 1) given) i

-- a request that words of a row are is meant by them
pub row_meant : (row : Row) (words : List (List ℕ)) (request : Request) (app : AppName) → size_of row ≤ length words
    → text_at words 0 ≡ row.word → app_in (position is_app row.arguments) words ≡ Some app
    → are_chosen app row.choices (options_in row words) ≡ true
    → (given : List Given) × IsSpelled row words app given
    × (request_of row.command app (values_in row words) ≡ request_of row.command app (values_of row given))
row_meant row words request app long same names chosen =
    let found = chosen_from app row.choices (options_in row words) chosen in
    let args : List (List ℕ) = take (length row.arguments) (drop 1 words) in (
      found.0,
      record {
        arguments = args;
        spelled = cut_words row words long same ∙ ap (λ (ws : List (List ℕ)). row.word ∷ (args ++ ws)) found.1;
        count = length-take-le (length row.arguments) (drop 1 words) (omega (arith, long, length-drop 1 words));
        named = app_from (position is_app row.arguments) words app names;
        known = found.2;
        often = found.3;
      },
      ap (request_of row.command app) (values_same row words found.0 found.1),
    )

-- words that a row spells are its request
pub row_request : (row : Row) (words : List (List ℕ)) (app : AppName) (given : List Given)
    → IsSpelled row words app given → request_by row words ≡ Some (request_of row.command app (values_of row given))
row_request row words app given m =
    ap (λ t. if t then request_with row words (app_in (position is_app row.arguments) words) else None) (le-leb _ _ long)
    ∙ ap (request_with row words) (app_to (position is_app row.arguments) words app m.named)
    ∙ ap (λ t. if t then Some (request_of row.command app (values_in row words)) else None) chosen
    ∙ ap (λ (vs : OptionName → List ℕ). Some (request_of row.command app vs)) (values_same row words given options)
  where
    long : size_of row ≤ length words
    long = let all = ap length m.spelled in let count = m.count in let parts = length-append m.arguments (words_of given) in omega (arith, all, count, parts)

    options : options_in row words ≡ words_of given
    options =
        ap (drop (size_of row)) m.spelled
        ∙ drop_at (row.word ∷ m.arguments) (words_of given) (size_of row) (let count = m.count in omega (arith, count))

    chosen : are_chosen app row.choices (options_in row words) ≡ true
    chosen = ap (are_chosen app row.choices) options ∙ chosen_to app row.choices given m.known m.often
