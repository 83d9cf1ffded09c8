-- The words of a command, and which request they mean (this project's own).
use Rattle.std.specs.Prelude.{◌≡◌, ℕ, ◌+◌, ◌≤◌, true, List, [], ◌∷◌, ◌++◌, map, length, take, Any, Contains, bytes_eq}
use Rattle.std.specs.Prelude.{if◌then◌else◌, Option, Some, None, unwrap_or, slice_get, String, string_bytes}
use Rattle.std.specs.List.{AllByRecursion, position}
use Rattle.std.specs.declared.alloc.Global.{Global}
use Rattle.enum_base.specs.Padding.{padded}
use Rattle.request_words.specs.Rows.{Row, app_word, is_app, most_for, option_word, size_of, table}
use Rattle.request_words.specs.declared.option.Choice.{Choice}
use Rattle.request_words.specs.declared.option.OptionName.{OptionName}
use Rattle.request_words.specs.declared.option.OptionName.TheVariants.{Want, Apex, Zones}
use Rattle.request_words.specs.declared.places.Places.{Places}
use Rattle.request_words.specs.declared.request.AppName.{AppName}
use Rattle.request_words.specs.declared.request.AppName.TheVariants.{Enum}
use Rattle.request_words.specs.declared.request.Origin.TheVariants.{Files}
use Rattle.request_words.specs.declared.request.Request.{Request}
use Rattle.request_words.specs.declared.request.Request.TheVariants as request
use Rattle.request_words.specs.declared.row.Command.{Command}
use Rattle.request_words.specs.declared.row.Command.TheVariants as command

-- the words as bytes
abbrev pub texts_of : List (String Global) → List (List ℕ)
texts_of words = map string_bytes words

-- the word at a place
abbrev pub text_at : List (List ℕ) → ℕ → List ℕ
text_at words place = unwrap_or (slice_get words place) []

-- an option with its value
pub record Given : Type 0 where
  pub option : List ℕ
  pub value : List ℕ

-- options with their values as words, whatever the values are
abbrev pub words_of : List Given → List (List ℕ)
words_of [] = []
words_of (given ∷ rest) = given.option ∷ given.value ∷ words_of rest

-- the places of all values of one option, where the first value of the list stands at this place
abbrev pub places_of : List ℕ → ℕ → List Given → List ℕ
places_of option place [] = []
places_of option place (given ∷ rest) =
    if bytes_eq given.option option then place ∷ places_of option (place + 2) rest else places_of option (place + 2) rest

-- the word is an option of these
abbrev pub IsOption : List Choice → List ℕ → Type 0
IsOption choices word = Any (λ choice. bytes_eq word (option_word choice.option) ≡ true) choices

-- an option stands as often as it may with an application
pub record IsOften (app : AppName) (given : List Given) (choice : Choice) : Type 0 where
  pub least : choice.least ≤ length (places_of (option_word choice.option) 0 given)
  pub most : length (places_of (option_word choice.option) 0 given) ≤ most_for app choice

-- the application that words name, by which argument names it: the argument's word is its name; ENUM where none does
abbrev pub Names : Option ℕ → List (List ℕ) → AppName → Type 0
Names None words app = app ≡ Enum
Names (Some place) words app = text_at words (place + 1) ≡ app_word app

-- the words are those of a row: its own, its arguments, and its options as often as they may stand, in any order
pub record IsSpelled (row : Row) (words : List (List ℕ)) (app : AppName) (given : List Given) : Type 0 where
  pub arguments : List (List ℕ)
  pub spelled : words ≡ row.word ∷ (arguments ++ words_of given)
  pub count : length arguments ≡ length row.arguments
  pub named : Names (position is_app row.arguments) words app
  pub known : AllByRecursion (λ one. IsOption row.choices one.option) given
  pub often : AllByRecursion (IsOften app given) row.choices

-- the places of an option's values: the first value may stand after the words before the options and one option
abbrev pub values_of : Row → List Given → OptionName → List ℕ
values_of row given option = places_of (option_word option) (size_of row + 1) given

-- the place of the value of an option that stands once at most
abbrev pub first_of : List ℕ → Option ℕ
first_of [] = None
first_of (place ∷ places) = Some place

-- the places of the values of an option that is repeated: a row of 64 cells has these in front, and zeros after them
abbrev pub places_from : List ℕ → Places
places_from values = record { count = length values; at = padded 64 (take 64 values) }

-- .. and they are all that there are
pub record ArePlaces (places : Places) (values : List ℕ) : Type 0 where
  pub count : places.count ≡ length values
  pub cells : places.at ≡ padded 64 values
  pub most : length values ≤ 64

-- the places that a row of cells has in front
abbrev pub cells : Places → List ℕ
cells places = take places.count places.at

-- the request of a command, by the application and the places of each option's values: of `resolve` the string is word 2
abbrev pub request_of : Command → AppName → (OptionName → List ℕ) → Request
request_of command.Resolve app values =
    request.Resolve
    (record {
      app = app;
      string = 2;
      want = first_of (values Want);
      apexes = places_from (values Apex);
      origin = Files (places_from (values Zones));
    })
request_of command.Show app values = request.Show

-- the words mean this request: a row of the table spells them, and it is the request of that row's command
pub record Means (words : List (List ℕ)) (asked : Request) : Type 0 where
  pub row : Row
  pub listed : Contains table row
  pub app : AppName
  pub given : List Given
  pub spelled : IsSpelled row words app given
  pub is : asked ≡ request_of row.command app (values_of row given)

-- the words are a request
abbrev pub IsRequest : List (List ℕ) → Type 0
IsRequest words = (asked : Request) × Means words asked
