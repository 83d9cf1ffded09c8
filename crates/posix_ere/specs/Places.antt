-- Where a text without a tree breaks (this project's own).
use Rattle.std.specs.Prelude.{ℕ, ◌<◌, ◌≤◌, List, ◌++◌, length, take, replicate}
use Rattle.posix_ere.specs.Tree.{Tree}
use Rattle.posix_ere.specs.Grammar.{Reads}

-- a text can be closed: at most eight bytes, and after them at most as many `)` as it has bytes, make it a text with a
-- tree
pub record CanBeClosed (p : List ℕ) : Type 0 where
  pub bytes : List ℕ
  pub depth : ℕ
  pub tree : Tree
  pub few : length bytes ≤ 8
  pub within : depth ≤ length p
  pub reads : Reads (p ++ (bytes ++ replicate depth 41)) tree

-- the length of the longest prefix that can be closed
pub record IsBrokenPlace (w : List ℕ) (at : ℕ) : Type 0 where
  pub within : at ≤ length w
  pub closes : CanBeClosed (take at w)
  pub longest : (n : ℕ) → at < n → n ≤ length w → CanBeClosed (take n w) → ⊥
