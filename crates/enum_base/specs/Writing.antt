-- What a sink takes of some bytes (this project's own).
use Rattle.std.specs.Prelude.{◌≡◌, ℕ, List, take}
use Rattle.enum_base.specs.Causes.{Rose}
use Rattle.enum_base.specs.Outside.{SinkState, with_more}

-- a sink holds what it held and these bytes, where that is told
abbrev pub Gains : SinkState → SinkState → List ℕ → Type 0
Gains old new bytes = new.held ≡ with_more old.held bytes

-- a sink holds what it held and a front of the bytes, and all of them where its count did not rise
pub record Takes (old new : SinkState) (bytes : List ℕ) : Type 0 where
  pub front : (n : ℕ) × Gains old new (take n bytes)
  pub whole : ¬ Rose old.faults new.faults → Gains old new bytes
