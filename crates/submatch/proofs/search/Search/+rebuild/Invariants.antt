use Rattle.std.proofs.Common.{◌+◌, ◌*◌, ◌≤◌}
use Rattle.posix_ere.specs.Parts.{parts_of}
use Rattle.submatch.specs.Table.{tree_of, square}
use Rattle.submatch.proofs.CompilingLemmas.{weights_to}
use Rattle.submatch.proofs.RebuildingLemmas.{HaveCome}
use Rattle.submatch.proofs.search.Search.+rebuild.Given as goal

abbrev pub decreases-rebuild : goal.decreases-rebuild
decreases-rebuild g l = 2 * l.number + 1

abbrev pub decreases-rebuild_group : goal.decreases-rebuild_group
decreases-rebuild_group g l = 2 * l.number

abbrev pub decreases-rebuild_alt : goal.decreases-rebuild_alt
decreases-rebuild_alt g l = 2 * l.number

abbrev pub decreases-rebuild_branch : goal.decreases-rebuild_branch
decreases-rebuild_branch g l = 2 * l.number

abbrev pub decreases-rebuild_rep : goal.decreases-rebuild_rep
decreases-rebuild_rep g l = 2 * l.rep.number

abbrev pub invariant-rebuild_branch-loop-k : goal.invariant-rebuild_branch-loop-k
invariant-rebuild_branch-loop-k g l =
    HaveCome l.self.fold l.self.text.now (parts_of (tree_of l.self.ere.now l.table l.number)) l.over.from l.over.to l.k l.place l.fn.groups l.groups ×
    (l.steps ≤ l.fn.steps + 4 * (weights_to l.k (parts_of (tree_of l.self.ere.now l.table l.number)) * square l.self.text.now))
