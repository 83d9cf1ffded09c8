use Rattle.std.proofs.Common.{◌≤◌, List, ◌++◌, None, drop, length}
use Rattle.ddds_walk.specs.Clients.{meant}
use Rattle.ddds_walk.specs.declared.edge.Edge.{Edge}
use Rattle.ddds_walk.proofs.FollowLemmas.{Follows}
use Rattle.ddds_walk.proofs.domain_edges.edges_of_rules.Given as goal

-- with what is left, the edges are those of all rules; there are no more of them than rules were read
abbrev pub invariant-loop-rule : goal.invariant-loop-rule
invariant-loop-rule g l = record {
  whole : (more : List Edge)
      → Follows (meant g.P.DddsApp.meaning l.client) l.least (drop l.rule-index l.rules) more
      → Follows (meant g.P.DddsApp.meaning l.client) None l.rules (l.edges ++ more);
  few : length l.edges ≤ l.rule-index;
}
