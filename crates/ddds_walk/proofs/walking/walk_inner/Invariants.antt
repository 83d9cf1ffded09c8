use Rattle.std.proofs.Common.{map}
use Rattle.dns_name.specs.Name.{folded_labels}
use Rattle.ddds_walk.specs.Clients.{meant}
use Rattle.ddds_walk.specs.Turns.{IsGoing, left_in}
use Rattle.ddds_walk.proofs.walking.walk_inner.Given as goal

abbrev pub invariant-loop-walker : goal.invariant-loop-walker
invariant-loop-walker g l = IsGoing (meant g.P.DddsApp.meaning l.fn.client) (map folded_labels l.fn.keys) l.fn.limit
    (g.S.RuleSource.state l.fn.source) (g.S.RuleSource.state l.source) l.walker

abbrev pub decreases-loop-walker : goal.decreases-loop-walker
decreases-loop-walker g l = left_in l.fn.limit l.walker
