use Rattle.std.proofs.Common.{◌≤◌, ◌<◌, ℕ}
use Rattle.dns_name.specs.Name.{AreSame}
use Rattle.zone_build.specs.Indexing.{owner_at}
use Rattle.zone_build.proofs.indexing.end_of.Given as goal

abbrev pub invariant-loop-at : goal.invariant-loop-at
invariant-loop-at l = (k : ℕ) → l.first ≤ k → k < l.at → AreSame (owner_at l.records l.first) (owner_at l.records k)
