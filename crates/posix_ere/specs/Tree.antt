-- Extended regular expressions as trees (IEEE 1003.1, Base Definitions, 9.4).
use Rattle.std.specs.Prelude.{ℕ, Bool, List, Option}

-- what stands for at most one byte, or for a place in the text
pub data Atom : Type 0 where
  -- this byte
  byte : ℕ → Atom
  -- any byte, a dot
  any : Atom
  -- a bracket: whether it is negated, and its listed bytes, rising
  set : Bool → List ℕ → Atom
  -- the start of the text, a circumflex
  start : Atom
  -- the end of the text, a dollar
  end : Atom

mutual
  -- an expression or a part of one
  pub data Tree : Type 0 where
    atom : Atom → Tree
    -- one or more branches
    alt : Trees → Tree
    -- pieces one after another, possibly none
    branch : Trees → Tree
    -- a group with its number, from 1 in the order of the opening parentheses
    group : ℕ → Tree → Tree
    -- the least count, the greatest if there is one, and what is repeated
    rep : ℕ → Option ℕ → Tree → Tree

  -- parts in the order of the text
  pub data Trees : Type 0 where
    none : Trees
    more : Tree → Trees → Trees
