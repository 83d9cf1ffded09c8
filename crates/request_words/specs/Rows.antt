-- The table of commands (this project's own): each row is the word of a command, what follows it, and its options.
use Rattle.std.specs.Prelude.{ℕ, ◌+◌, Bool, true, false, List, [], ◌∷◌, length, codes, if◌then◌else◌}
use Rattle.request_words.specs.declared.option.Choice.{Choice}
use Rattle.request_words.specs.declared.option.OptionName.{OptionName}
use Rattle.request_words.specs.declared.option.OptionName.TheVariants.{Want, Apex, Zones}
use Rattle.request_words.specs.declared.request.AppName.{AppName}
use Rattle.request_words.specs.declared.request.AppName.TheVariants.{Enum, Snaptr, Unaptr}
use Rattle.request_words.specs.declared.row.Argument.{Argument}
use Rattle.request_words.specs.declared.row.Argument.TheVariants.{App, Text}
use Rattle.request_words.specs.declared.row.Command.{Command}
use Rattle.request_words.specs.declared.row.Command.TheVariants as command

-- a row of the table
pub record Row : Type 0 where
  pub command : Command
  pub word : List ℕ
  pub arguments : List Argument
  pub choices : List Choice

-- the word of an option
abbrev pub option_word : OptionName → List ℕ
option_word Want = codes "--want"
option_word Apex = codes "--apex"
option_word Zones = codes "--zones"

-- the name of an application
abbrev pub app_word : AppName → List ℕ
app_word Enum = codes "enum"
app_word Snaptr = codes "snaptr"
app_word Unaptr = codes "unaptr"

-- how often an option may stand at most with an application: one of ENUM alone not at all with another
abbrev pub most_for : AppName → Choice → ℕ
most_for Enum choice = choice.most
most_for Snaptr choice = if choice.enum_alone then 0 else choice.most
most_for Unaptr choice = if choice.enum_alone then 0 else choice.most

-- an argument is the name of an application
abbrev pub is_app : Argument → Bool
is_app App = true
is_app Text = false

-- how many words a row has before its options: its own and its arguments
abbrev pub size_of : Row → ℕ
size_of row = length row.arguments + 1

-- at most one wanted list, at most 8 apexes, which are of ENUM alone, and 1 to 64 files
abbrev pub want_choice : Choice
want_choice = record { option = Want; least = 0; most = 1; enum_alone = false }

abbrev pub apexes_choice : Choice
apexes_choice = record { option = Apex; least = 0; most = 8; enum_alone = true }

abbrev pub files_choice : Choice
files_choice = record { option = Zones; least = 1; most = 64; enum_alone = false }

-- the table: `resolve APP STRING`, and `show`
abbrev pub table : List Row
table =
    record { command = command.Resolve; word = codes "resolve"; arguments = App ∷ Text ∷ []; choices = want_choice ∷ apexes_choice ∷ files_choice ∷ [] }
    ∷ record { command = command.Show; word = codes "show"; arguments = []; choices = [] }
    ∷ []
