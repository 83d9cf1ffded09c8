-- What contracts see of a link whose replies stand in a case: what is kept of its exchanges, the reply that is held, and how many calls
-- failed (this project's own).
use Rattle.std.specs.Prelude.{ℕ, List}
use Rattle.zone_db.specs.Links.{Kept}

pub record Scripted : Type 0 where
  pub kept : Kept
  pub held : List ℕ
  pub faults : ℕ
