-- What is kept of the system's files and streams (this project's own). Of bytes that are not known nothing is told.
use Rattle.std.specs.Prelude.{ℕ, List, [], Option, Some, None, Result, Ok, Err}

-- the bytes left of the file at hand, where they are known; how many of them were given, the most that were of one file, and
-- how many calls failed
pub record FilesKept : Type 0 where
  pub left : Option (List ℕ)
  pub given : ℕ
  pub most_given : ℕ
  pub faults : ℕ

-- the bytes that a reader has left, where they are known, and how many calls failed
pub record SourceKept : Type 0 where
  pub left : Option (List ℕ)
  pub faults : ℕ

-- the bytes that a writer holds, where they are known, and how many calls failed
pub record SinkKept : Type 0 where
  pub held : Option (List ℕ)
  pub faults : ℕ

-- what is left of a file at hand: nothing where there is none
abbrev pub left_of : {F : Type 0} → (F → Option (List ℕ)) → Option F → Option (List ℕ)
left_of remaining None = Some []
left_of remaining (Some file) = remaining file

-- what is left of a file after its opening: nothing where it was not opened
abbrev pub left_after : {F E : Type 0} → (F → Option (List ℕ)) → Result F E → Option (List ℕ)
left_after remaining (Ok file) = remaining file
left_after remaining (Err error) = Some []
