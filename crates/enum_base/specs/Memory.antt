-- Shelves, sources and sinks in memory, which tell all that they hold and fail at listed calls (this project's own).
use Rattle.std.specs.Prelude.{◌≡◌, ◌↔◌, ℕ, ◌<◌, ◌≤◌, min, List, [], length, Contains, slice_get, unwrap_or, option_map}
use Rattle.std.specs.Prelude.{Option, Some, None, ⊤, Result, IsErr, IfOk, OnErr}
use Rattle.enum_base.specs.Causes.{one_more}
use Rattle.enum_base.specs.Outside.{File}

-- the files, the bytes left of the fetched one, how many were given of it and at most of one, the numbers of the calls
-- that fail, and how many calls were made and failed
pub record MemoryShelf : Type 0 where
  pub files : List File
  pub left : List ℕ
  pub given : ℕ
  pub most_given : ℕ
  pub failing : List ℕ
  pub calls : ℕ
  pub faults : ℕ

-- the bytes left, the numbers of the calls that fail, and how many calls were made and failed
pub record MemorySource : Type 0 where
  pub left : List ℕ
  pub failing : List ℕ
  pub calls : ℕ
  pub faults : ℕ

-- the bytes held, the most taken by one write, the numbers of the calls that fail, how many calls were made and failed,
-- and how many of these failed out of memory
pub record MemorySink : Type 0 where
  pub held : List ℕ
  pub most : ℕ
  pub failing : List ℕ
  pub calls : ℕ
  pub faults : ℕ
  pub short : ℕ

-- the bytes of the file at that place, and none where no file is chosen
abbrev pub chosen_bytes : List File → Option ℕ → List ℕ
chosen_bytes files None = []
chosen_bytes files (Some place) = unwrap_or (option_map (λ file. file.1) (slice_get files place)) []

-- the place of the chosen file is one of the list
abbrev pub IsPlace : List File → Option ℕ → Type 0
IsPlace files None = ⊤
IsPlace files (Some place) = place < length files

-- a chosen file and how much of it was read
pub record IsOpenAt (files : List File) (chosen : Option ℕ) (at : ℕ) : Type 0 where
  pub place : IsPlace files chosen
  pub within : at ≤ length (chosen_bytes files chosen)

-- a read fails exactly at the listed calls, is counted, and gives as much of what is left as there is room for
pub record ReadsListed {E : Type 0} (failing : List ℕ) (calls calls' faults faults' : ℕ) (left left' : List ℕ) (room : ℕ) (result : Result ℕ E) : Type 0 where
  pub listed : IsErr result ↔ Contains failing (one_more calls)
  pub counted : calls' ≡ one_more calls
  pub raised : OnErr result (faults' ≡ one_more faults)
  pub kept : OnErr result (left' ≡ left)
  pub amount : IfOk result (λ n. n ≡ min room (length left))
