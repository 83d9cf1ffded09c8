-- What words ask of the program itself (this project's own).
use Rattle.std.specs.Prelude.{ℕ, List, [], ◌∷◌, codes, bytes_eq, if◌then◌else◌, Option, Some, None}
use Rattle.command_line.specs.declared.itself.Itself.{Itself}
use Rattle.command_line.specs.declared.itself.Itself.TheVariants.{Help, Version}

-- one word alone asks for its help or its version; more words ask for neither
abbrev pub asked_of_itself : List (List ℕ) → Option Itself
asked_of_itself [] = None
asked_of_itself (word ∷ []) =
    if bytes_eq word (codes "--help") then Some Help else if bytes_eq word (codes "--version") then Some Version else None
asked_of_itself (word ∷ other ∷ words) = None
