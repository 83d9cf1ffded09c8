-- What the objects of the outside tell, and what a request comes to over it (this project's own).
use Rattle.std.specs.Prelude.{◌≡◌, ℕ, List, [], Option, Result, Ok, Err, IsSome}
use Rattle.enum_base.specs.Outside.{File, ShelfState, SourceState}
use Rattle.enum_top.specs.declared.cause.Cause.{Cause}
use Rattle.enum_top.specs.declared.objects.Object.{Object}
use Rattle.enum_top.specs.declared.objects.Object.TheVariants.{Shelf, Input}
use Rattle.enum_top.specs.declared.status.Ending.{Ending}
use Rattle.enum_top.specs.declared.status.Printed.{Printed}

-- what the objects tell: the files of the shelf, and the bytes of the input. What is not told is `None`
pub record Told : Type 0 where
  pub files : Option (List File)
  pub input : Option (List ℕ)

-- .. as they stand
abbrev pub told_by : ShelfState → SourceState → Told
told_by shelf input = record { files = shelf.files; input = input.left }

-- what a request comes to: a whole text, or a refusal after what was printed before it
pub data Verdict : Type 0 where
  prints : Ending → List ℕ → Verdict
  refuses : List ℕ → Cause → Verdict

-- the bytes that the output gains
abbrev pub gain_of : Verdict → List ℕ
gain_of (prints ending text) = text
gain_of (refuses front cause) = front

-- the verdict of a command that prints nothing before it is done
abbrev pub whole : Result Printed Cause → Verdict
whole (Ok printed) = prints printed.ending printed.text
whole (Err cause) = refuses [] cause

-- .. of stages that end in its text
pub record AtOnce (Stages : Result Printed Cause → Type 0) (verdict : Verdict) : Type 0 where
  pub result : Result Printed Cause
  pub comes : Stages result
  pub is : verdict ≡ whole result

-- the work of a request: its verdict over what the objects tell; the causes that the words alone are; the objects that it
-- uses, but for the output; and what it may have printed before its verdict, where it writes as it goes
pub record Work : Type 1 where
  pub answers : Told → Verdict → Type 0
  pub breaks : Cause → Type 0
  pub uses : Object → Type 0
  pub fronts : Told → List ℕ → Type 0

-- the objects that are used tell what they hold
pub record AreTold (work : Work) (told : Told) : Type 0 where
  pub on_shelf : work.uses Shelf → IsSome told.files
  pub on_input : work.uses Input → IsSome told.input

-- it comes to one verdict over told objects, to some verdict whatever they tell, and to a cause of the words alone
pub record IsSound (work : Work) : Type 0 where
  pub single : (told : Told) (one other : Verdict) → AreTold work told → work.answers told one → work.answers told other → one ≡ other
  pub total : (told : Told) → (verdict : Verdict) × work.answers told verdict
  pub early : (told : Told) (cause : Cause) → work.breaks cause → work.answers told (refuses [] cause)
