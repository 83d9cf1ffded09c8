-- How a fault is printed: its name, and its fields after it (this project's own).
use Rattle.std.specs.Prelude.{ℕ, List, ◌++◌, codes, decimal}

-- a fault by its name, and a number
abbrev pub fault_at : List ℕ → ℕ → List ℕ
fault_at name at = name ++ codes " " ++ decimal at
