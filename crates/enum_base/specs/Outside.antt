-- What shelves, sources and sinks tell of their bytes (this project's own). What is not told is `None`.
use Rattle.std.specs.Prelude.{◌≡◌, ℕ, List, [], ◌++◌, take, drop, find, bytes_eq, unwrap_or, IsSome, IsTrue, ◌↔◌, Bool, Option, Some, None, option_map, ⊤}

-- a file as a shelf tells it: its name and its bytes
abbrev pub File : Type 0
File = List ℕ × List ℕ

-- the bytes of the first file of that name
abbrev pub file_of : List File → List ℕ → Option (List ℕ)
file_of files name = option_map (λ file. file.1) (find (λ file. bytes_eq file.0 name) files)

-- a fetch finds exactly the names that are on the shelf
abbrev pub Finds : Option (List File) → List ℕ → Bool → Type 0
Finds None name found = ⊤
Finds (Some files) name found = IsTrue found ↔ IsSome (file_of files name)

-- after a fetch the bytes of the first file of that name are left, and nothing where there is none
abbrev pub Opens : Option (List File) → List ℕ → Option (List ℕ) → Type 0
Opens None name left = ⊤
Opens (Some files) name left = left ≡ Some (unwrap_or (file_of files name) [])

-- these are the first n bytes of those left
abbrev pub AreFirst : ℕ → List ℕ → Option (List ℕ) → Type 0
AreFirst n given None = ⊤
AreFirst n given (Some left) = given ≡ take n left

-- what is left after the first n bytes
abbrev pub after : ℕ → Option (List ℕ) → Option (List ℕ)
after n left = option_map (λ bytes. drop n bytes) left

-- nothing is given exactly where nothing is left
abbrev pub EndsAtEnd : ℕ → Option (List ℕ) → Type 0
EndsAtEnd n None = ⊤
EndsAtEnd n (Some left) = (n ≡ 0) ↔ (left ≡ [])

-- the bytes held, with more after them
abbrev pub with_more : Option (List ℕ) → List ℕ → Option (List ℕ)
with_more held more = option_map (λ bytes. bytes ++ more) held

-- how many bytes of a file were given, and the most that were of one file
pub record GivenBytes : Type 0 where
  pub now : ℕ
  pub most : ℕ

-- what a shelf tells: the files and the bytes left of the fetched one; and every shelf, a real one too, how many bytes
-- were given since the last fetch that answered, the most that were between two of these, and how many calls failed
pub record ShelfState : Type 0 where
  pub files : Option (List File)
  pub left : Option (List ℕ)
  pub given : ℕ
  pub most_given : ℕ
  pub faults : ℕ

-- what a source tells: the bytes left, and how many calls failed
pub record SourceState : Type 0 where
  pub left : Option (List ℕ)
  pub faults : ℕ

-- what a sink tells: the bytes held, and how many calls failed
pub record SinkState : Type 0 where
  pub held : Option (List ℕ)
  pub faults : ℕ

-- a fact of what is told, where it is told
abbrev pub WhereTold : {A : Type 0} → Option A → (A → Type 0) → Type 0
WhereTold None Fact = ⊤
WhereTold (Some told) Fact = Fact told
