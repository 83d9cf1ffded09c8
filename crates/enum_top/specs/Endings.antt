-- The exit codes of what a run comes to (this project's own).
use Rattle.std.specs.Prelude.{ℕ}
use Rattle.enum_top.specs.declared.cause.Cause.{Cause}
use Rattle.enum_top.specs.declared.status.Ending.{Ending}
use Rattle.enum_top.specs.declared.status.Ending.TheVariants.{Done, Nothing, Loop}
use Rattle.enum_top.specs.declared.status.Status.{Status}
use Rattle.enum_top.specs.declared.status.Status.TheVariants.{Ended, Refused}
use Rattle.enum_top.specs.declared.why.Why.{Why}
use Rattle.enum_top.specs.declared.why.Why.TheVariants.{Usage, Judged, Outside, Memory}

-- of a text that was printed
abbrev pub code_of_ending : Ending → ℕ
code_of_ending Done = 0
code_of_ending Nothing = 1
code_of_ending Loop = 4

-- of the causes that a request may come to: what is ill-formed
abbrev pub code_of_cause : Cause → ℕ
code_of_cause cause = 3

-- of a refusal
abbrev pub code_of_why : Why → ℕ
code_of_why Usage = 2
code_of_why (Judged cause) = code_of_cause cause
code_of_why (Outside object) = 5
code_of_why Memory = 6

-- of a status
abbrev pub code_of : Status → ℕ
code_of (Ended ending) = code_of_ending ending
code_of (Refused why) = code_of_why why
