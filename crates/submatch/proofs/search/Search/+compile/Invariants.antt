use Rattle.std.proofs.Common.{◌+◌, ◌*◌}
use Rattle.posix_ere.specs.Parts.{parts_of}
use Rattle.posix_ere.specs.Nodes.{tree_at}
use Rattle.submatch.specs.Table.{square}
use Rattle.submatch.proofs.CompilingLemmas.{AreCompiled}
use Rattle.submatch.proofs.search.Search.+compile.Given as goal

abbrev pub decreases-compile : goal.decreases-compile
decreases-compile g l = 2 * l.at + 1

abbrev pub decreases-compile_inside : goal.decreases-compile_inside
decreases-compile_inside g l = 2 * l.at

abbrev pub invariant-compile_inside-loop-k : goal.invariant-compile_inside-loop-k
invariant-compile_inside-loop-k g l =
    AreCompiled l.self.fold l.self.text.now l.self.ere.now (parts_of (tree_at l.self.ere.now l.at)) (square l.self.text.now)
    l.fn.table l.table l.inside.items l.k l.fn.steps l.steps
