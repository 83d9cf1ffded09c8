-- What the system's answers say (this project's own).
use Rattle.std.specs.Prelude.{ℕ, nat_lt, Bool, true, false, ◌&&◌, ◌==◌, if◌then◌else◌, Result, Ok, Err}
use Rattle.std.specs.IoError.{error_kind}
use Rattle.std.specs.declared.io.Error.{Error}
use Rattle.std.specs.declared.io.ErrorKind.{ErrorKind}
use Rattle.std.specs.declared.io.ErrorKind.TheVariants.{NotFound}
use Rattle.enum_base.specs.declared.fault.Failed.{Failed}

-- an answer is passed on, and every error is a failure, an interrupted call too
abbrev pub passed_on : {T : Type 0} → Result T Error → Result T Failed
passed_on (Ok answer) = Ok answer
passed_on (Err error) = Err (record {})

-- of the errors of an opening one alone says that there is no such file
abbrev pub missing : ErrorKind → Result Bool Failed
missing NotFound = Ok false
missing _ = Err (record {})

-- whether a file is there
abbrev pub found : {F : Type 0} → Result F Error → Result Bool Failed
found (Ok file) = Ok true
found (Err error) = missing (error_kind error)

-- how many of so many bytes were taken; none of some is a failure
abbrev pub taken : ℕ → Result ℕ Error → Result ℕ Failed
taken count (Ok number) = if number == 0 && nat_lt 0 count then Err (record {}) else Ok number
taken count (Err error) = Err (record {})
