-- What a source keeps: two names at most, and how many it fetched.
use Rattle.std.specs.Prelude.{ℕ, List}
use Rattle.naptr_data.specs.Zones.{Labels}

pub record Cached : Type 0 where
  pub names : List Labels
  pub fetched : ℕ
