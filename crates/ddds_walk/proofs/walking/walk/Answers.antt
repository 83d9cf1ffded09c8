use Rattle.ddds_walk.proofs.WholeLemmas.{says_bound, says_stops, says_fetched, says_missing}
use Rattle.ddds_walk.proofs.walking.walk.Goals as goal

pub returns-clause-bound : goal.returns-clause-bound
returns-clause-bound g c = says_bound _ _ _ _ _ c.walk_inner.result c.walk_inner.ensures.walked c.needed_bound.ensures

pub returns-clause-stops : goal.returns-clause-stops
returns-clause-stops g c = says_stops _ _ _ _ _ c.walk_inner.result c.walk_inner.ensures.walked

pub returns-clause-fetched : goal.returns-clause-fetched
returns-clause-fetched g c = says_fetched _ _ _ _ _ c.walk_inner.result c.walk_inner.ensures.walked

pub returns-clause-missing : goal.returns-clause-missing
returns-clause-missing g c = says_missing _ _ _ _ _ c.walk_inner.result c.walk_inner.ensures.walked
