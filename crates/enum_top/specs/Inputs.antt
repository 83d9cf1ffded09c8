-- The whole input (this project's own).
use Rattle.std.specs.Prelude.{◌≡◌, ℕ, nat_le, List, length, if◌then◌else◌, Option, Some, None, Result, Ok, Err}
use Rattle.enum_top.specs.declared.cause.Cause.{Cause}
use Rattle.enum_top.specs.declared.cause.Cause.TheVariants as cause

-- 16 MiB
abbrev pub most_input : ℕ
most_input = 16777216

-- bytes that are not too many
abbrev pub fitting_input : List ℕ → Result (List ℕ) Cause
fitting_input bytes = if nat_le (length bytes) most_input then Ok bytes else Err cause.InputTooLarge

-- the bytes of the input, of at most 16 MiB; an input that does not tell them has any
abbrev pub Inputs : Option (List ℕ) → Result (List ℕ) Cause → Type 0
Inputs (Some bytes) result = result ≡ fitting_input bytes
Inputs None result = (bytes : List ℕ) × (result ≡ fitting_input bytes)
