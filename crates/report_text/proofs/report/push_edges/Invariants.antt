use Rattle.std.proofs.Common.{◌≡◌, ◌++◌, drop}
use Rattle.report_text.specs.Printing.{edge_lines}
use Rattle.report_text.proofs.report.push_edges.Given as goal

abbrev pub invariant-loop-rank : goal.invariant-loop-rank
invariant-loop-rank l = l.out ++ edge_lines (drop l.rank-index l.ranks) l.left ≡ l.initial.out ++ edge_lines l.ranks l.domains
