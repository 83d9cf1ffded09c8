use Rattle.posix_ere.specs.Nodes.{tree_at}
use Rattle.submatch.specs.Parses.{IsParse}
use Rattle.submatch.specs.Ends.{Reaches}
use Rattle.submatch.proofs.ColumnLemmas.{filled_next}
use Rattle.submatch.proofs.search.Search.leaf.Goals as goal

pub loop-from-preserved : goal.loop-from-preserved
loop-from-preserved g c = filled_next c.loop-from.from
    (Reaches (IsParse c.args.self.now.fold c.args.self.now.text.now (tree_at c.args.self.now.ere.now c.args.at))) c.loop-from.column c.push.new.self
    c.leaf_row.result c.in_ok-push.ensures c.leaf_row.ensures c.loop-from.invariant
