-- Texts in rows of fixed length (this project's own).
use Rattle.std.specs.Prelude.{◌≡◌, ℕ, ◌-◌, List, ◌++◌, length, take, replicate}

-- these bytes, and zeros up to that many
abbrev pub padded : ℕ → List ℕ → List ℕ
padded size bytes = bytes ++ replicate (size - length bytes) 0

-- a row of that size has these first cells, and the others are zero
pub record IsPadded (size len : ℕ) (row : List ℕ) : Type 0 where
  pub front : length (take len row) ≡ len
  pub rest : padded size (take len row) ≡ row
