use Rattle.std.proofs.Common.{◌≡◌, ◌++◌, take, flat_map}
use Rattle.report_text.specs.Printing.{end_line}
use Rattle.report_text.proofs.report.push_ends.Given as goal

abbrev pub invariant-loop-end : goal.invariant-loop-end
invariant-loop-end l = l.out ≡ l.initial.out ++ flat_map (end_line l.keys) (take l.end-index l.ends)
