use Rattle.posix_ere.specs.Nodes.{tree_at}
use Rattle.submatch.specs.Parses.{IsParse}
use Rattle.submatch.specs.Ends.{Reaches}
use Rattle.submatch.proofs.ColumnLemmas.{IsFilled}
use Rattle.submatch.proofs.search.Search.leaf.Given as goal

abbrev pub invariant-loop-from : goal.invariant-loop-from
invariant-loop-from g l = IsFilled l.from (Reaches (IsParse l.self.fold l.self.text.now (tree_at l.self.ere.now l.at))) l.column
