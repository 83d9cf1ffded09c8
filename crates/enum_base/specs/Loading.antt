-- What is read of a file or an input (this project's own).
use Rattle.std.specs.Prelude.{◌≡◌, ℕ, ◌≤◌, List, Option, Some}
use Rattle.enum_base.specs.Outside.{File, file_of, after}

-- the shelf has a file of that name, with these bytes
abbrev pub IsFile : List ℕ → List ℕ → List File → Type 0
IsFile name bytes files = file_of files name ≡ Some bytes

-- at most so many bytes were taken from those left
abbrev pub AreTaken : ℕ → Option (List ℕ) → Option (List ℕ) → Type 0
AreTaken most left left' = (n : ℕ) × (n ≤ most) × (left' ≡ after n left)

-- at most so many bytes of the named file were taken
abbrev pub TakesAtMost : ℕ → List ℕ → Option (List ℕ) → List File → Type 0
TakesAtMost most name left files = (bytes : List ℕ) → IsFile name bytes files → AreTaken most (Some bytes) left
