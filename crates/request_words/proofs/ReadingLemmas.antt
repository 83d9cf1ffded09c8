-- The reading of words finds exactly the requests that words mean.
use Rattle.std.proofs.Common.{◌≡◌, Result, Ok, Err, ℕ, ◌≤◌, Bool, true, false, List, length, Option, Some, None, refl, sym, ap, ◌∙◌, arith}
use Rattle.std.specs.Prelude.{Contains, IfOk, bytes_eq, find, nat_le, if◌then◌else◌}
use Rattle.std.specs.List.{position}
use Rattle.std.specs.Result.{result_ok}
use Rattle.request_words.specs.Reading.{app_in, are_chosen, options_in, request_by, request_found, request_in, request_with, values_in}
use Rattle.request_words.specs.Rows.{Row, is_app, size_of, table}
use Rattle.request_words.specs.Words.{Means, request_of, text_at}
use Rattle.request_words.specs.declared.request.AppName.{AppName}
use Rattle.request_words.specs.declared.request.Request.{Request}
use Rattle.request_words.specs.declared.words.Usage.{Usage}
use Rattle.request_words.proofs.RowLemmas.{found_only, found_row, row_meant, row_request}

-- a request that is read by a row is meant
by_row_meant : (row : Row) (words : List (List ℕ)) (request : Request) → Contains table row
    → text_at words 0 ≡ row.word → request_by row words ≡ Some request → Means words request
by_row_meant row words request listed same is = by_size (nat_le (size_of row) (length words)) refl is
  where
    by_choices : (app : AppName) → size_of row ≤ length words → app_in (position is_app row.arguments) words ≡ Some app
        → (t : Bool) → are_chosen app row.choices (options_in row words) ≡ t
        → (if t then Some (request_of row.command app (values_in row words)) else None) ≡ Some request
        → Means words request
    by_choices app long names true chosen e =
        let meant = row_meant row words request app long same names chosen in
        record { row = row; listed = listed; app = app; given = meant.0; spelled = meant.1; is = sym (cc e) ∙ meant.2 }
    by_choices app long names false chosen e = absurd (cc e)

    by_app : size_of row ≤ length words → (app : Option AppName) → app_in (position is_app row.arguments) words ≡ app
        → request_with row words app ≡ Some request → Means words request
    by_app long None names e = absurd (cc e)
    by_app long (Some app) names e =
        by_choices app long names (are_chosen app row.choices (options_in row words)) refl e

    by_size : (t : Bool) → nat_le (size_of row) (length words) ≡ t
        → (if t then request_with row words (app_in (position is_app row.arguments) words) else None) ≡ Some request
        → Means words request
    by_size true size e =
        let long : size_of row ≤ length words = grind (arith, size) in
        by_app long (app_in (position is_app row.arguments) words) refl e
    by_size false size e = absurd (cc e)

-- a request that is read is meant
request_meant : (words : List (List ℕ)) (request : Request) → request_in words ≡ Some request → Means words request
request_meant words request is = by_row (find (λ (row : Row). bytes_eq (text_at words 0) row.word) table) refl is
  where
    by_row : (found : Option Row) → find (λ (row : Row). bytes_eq (text_at words 0) row.word) table ≡ found
        → request_found found words ≡ Some request → Means words request
    by_row None f e = absurd (cc e)
    by_row (Some row) f e = let has = found_row (text_at words 0) table row f in by_row_meant row words request has.0 has.1 e

-- a request that is meant is read
meant_request : (words : List (List ℕ)) (request : Request) → Means words request → request_in words ≡ Some request
meant_request words request m =
    let word : text_at words 0 ≡ m.row.word = ap (λ (ws : List (List ℕ)). text_at ws 0) m.spelled.spelled in
    ap (λ (found : Option Row). request_found found words) (found_only (text_at words 0) table m.row refl m.listed word)
    ∙ row_request m.row words m.app m.given m.spelled ∙ ap Some (sym m.is)

-- words mean one request at most
pub one_request : (words : List (List ℕ)) (one other : Request) → Means words one → Means words other → one ≡ other
one_request words one other a b = cc (sym (meant_request words one a) ∙ meant_request words other b)

-- what is read, as an answer

pub meant_only : (words : List (List ℕ)) (found : Result Request Usage) → result_ok found ≡ request_in words
    → (request : Request) → Means words request → found ≡ Ok request
meant_only words (Ok one) e request m = ap Ok (cc (e ∙ meant_request words request m))
meant_only words (Err why) e request m = absurd (cc (e ∙ meant_request words request m))

pub meant_found : (words : List (List ℕ)) (found : Result Request Usage) → result_ok found ≡ request_in words → IfOk found (λ request. Means words request)
meant_found words (Ok one) e = request_meant words one (sym e)
meant_found words (Err why) e = tt
