use Rattle.std.proofs.Common.{length, IsTrue, subst, sym, ◌∙◌}
use Rattle.std.proofs.Math.Dec.{eqb}
use Rattle.std.proofs.lemmas.Bool.{eqb-true, eq-eqb}
use Rattle.posix_ere.specs.Nodes.{tree_at}
use Rattle.submatch.specs.Ends.{IsLeaf}
use Rattle.submatch.proofs.EndsOfNodesLemmas.{IsByteNode, is_byte_node, byte_ends, ends_of_start, ends_of_end, not_leaf}
use Rattle.submatch.proofs.search.Search.leaf_row.Goals as goal

pub returns-in-Start : goal.returns-in-Start
returns-in-Start g c = ends_of_start c.args.self.now.fold c.args.self.now.text.now (tree_at c.args.self.now.ere.now c.args.at) c.args.from c.one.result
    (IsTrue (eqb c.args.from 0)) (sym c.in-Start.ensures) (eqb-true c.args.from 0) (eq-eqb c.args.from 0) c.one.ensures

pub returns-in-End : goal.returns-in-End
returns-in-End g c =
    let n = length c.args.self.now.text.now in
    ends_of_end c.args.self.now.fold c.args.self.now.text.now (tree_at c.args.self.now.ere.now c.args.at) c.args.from c.one-in-End.result
    (IsTrue (eqb c.from.result n)) (sym c.in-End.ensures) (λ e. sym c.from.ensures ∙ eqb-true c.from.result n e)
    (λ e. eq-eqb c.from.result n (c.from.ensures ∙ e)) c.one-in-End.ensures

pub returns-in-Byte : goal.returns-in-Byte
returns-in-Byte g c = byte_ends c.args.self.now.fold c.args.self.now.text.now (tree_at c.args.self.now.ere.now c.args.at) c.args.from c.row_of_byte.result
    (subst IsByteNode c.node.ensures (is_byte_node c.node.result c.in-Byte.is)) c.row_of_byte.ensures

pub returns-in-Alt : goal.returns-in-Alt
returns-in-Alt g c = absurd (not_leaf c.node.result c.in-Alt.is (subst IsLeaf (sym c.node.ensures) c.requires.leaf))
