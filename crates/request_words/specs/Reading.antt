-- A plain reading of words by the table. That it reads exactly what `Words` defines is proved.
use Rattle.std.specs.Prelude.{ℕ, ◌+◌, ◌&&◌, Bool, true, false, nat_le, nat_lt, List, [], ◌∷◌, length, find, drop}
use Rattle.std.specs.Prelude.{slice_set, bytes_eq, if◌then◌else◌, Option, Some, None}
use Rattle.std.specs.List.{list_any, list_all, position}
use Rattle.request_words.specs.Rows.{Row, app_word, is_app, most_for, option_word, size_of, table}
use Rattle.request_words.specs.Words.{request_of, text_at}
use Rattle.request_words.specs.declared.option.Choice.{Choice}
use Rattle.request_words.specs.declared.option.OptionName.{OptionName}
use Rattle.request_words.specs.declared.places.Places.{Places}
use Rattle.request_words.specs.declared.request.AppName.{AppName}
use Rattle.request_words.specs.declared.request.AppName.TheVariants.{Enum, Snaptr, Unaptr}
use Rattle.request_words.specs.declared.request.Request.{Request}
use Rattle.request_words.specs.declared.row.Row as coded

-- the places of the values of one option among words that are options with their values
abbrev pub places_in : List ℕ → ℕ → List (List ℕ) → List ℕ
places_in option place [] = []
places_in option place (word ∷ []) = []
places_in option place (word ∷ value ∷ rest) =
    if bytes_eq word option then place ∷ places_in option (place + 2) rest else places_in option (place + 2) rest

-- the word is an option of these
abbrev pub is_option : List Choice → List ℕ → Bool
is_option choices word = list_any (λ choice. bytes_eq word (option_word choice.option)) choices

-- the words are options of these with their values
abbrev pub are_options : List Choice → List (List ℕ) → Bool
are_options choices [] = true
are_options choices (word ∷ []) = false
are_options choices (word ∷ value ∷ rest) = is_option choices word && are_options choices rest

-- an option stands as often as it may with an application
abbrev pub is_often : AppName → List (List ℕ) → Choice → Bool
is_often app words choice =
    nat_le choice.least (length (places_in (option_word choice.option) 0 words))
    && nat_le (length (places_in (option_word choice.option) 0 words)) (most_for app choice)

-- the words are options of these with their values, and each stands as often as it may
abbrev pub are_chosen : AppName → List Choice → List (List ℕ) → Bool
are_chosen app choices words = are_options choices words && list_all (is_often app words) choices

-- one place more: where there is no room it is only counted
abbrev pub with_place : Places → ℕ → Places
with_place places place =
    record { count = places.count + 1; at = if nat_lt places.count 64 then slice_set places.at places.count place else places.at }

-- .. where the word is that option
abbrev pub with_value : Places → List ℕ → List ℕ → ℕ → Places
with_value places word option place = if bytes_eq word option then with_place places place else places

-- a row of the code
abbrev pub row_in : coded.Row → Row
row_in row = record { command = row.command; word = row.word.now; arguments = row.arguments.now; choices = row.choices.now }

-- the application of this name
abbrev pub app_named : List ℕ → Option AppName
app_named word =
    if bytes_eq word (app_word Enum) then Some Enum
    else (if bytes_eq word (app_word Snaptr) then Some Snaptr else (if bytes_eq word (app_word Unaptr) then Some Unaptr else None))

-- the application that words name, by which argument names it
abbrev pub app_in : Option ℕ → List (List ℕ) → Option AppName
app_in None words = Some Enum
app_in (Some place) words = app_named (text_at words (place + 1))

-- the words of the options
abbrev pub options_in : Row → List (List ℕ) → List (List ℕ)
options_in row words = drop (size_of row) words

-- the places of an option's values
abbrev pub values_in : Row → List (List ℕ) → OptionName → List ℕ
values_in row words option = places_in (option_word option) (size_of row + 1) (options_in row words)

-- the request that words of this row are, with the application that they name
abbrev pub request_with : Row → List (List ℕ) → Option AppName → Option Request
request_with row words None = None
request_with row words (Some app) =
    if are_chosen app row.choices (options_in row words) then Some (request_of row.command app (values_in row words)) else None

-- the request that words of this row are
abbrev pub request_by : Row → List (List ℕ) → Option Request
request_by row words =
    if nat_le (size_of row) (length words) then request_with row words (app_in (position is_app row.arguments) words) else None

-- .. where a row was found
abbrev pub request_found : Option Row → List (List ℕ) → Option Request
request_found None words = None
request_found (Some row) words = request_by row words

-- the request of words
abbrev pub request_in : List (List ℕ) → Option Request
request_in words = request_found (find (λ row. bytes_eq (text_at words 0) row.word) table) words
