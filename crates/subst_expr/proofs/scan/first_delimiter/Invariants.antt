use Rattle.std.proofs.Common.{◌≡◌, false, drop}
use Rattle.subst_expr.specs.Scans.{delimiter_from}
use Rattle.subst_expr.proofs.scan.first_delimiter.Given as goal

-- the rest holds the first delimiter
abbrev pub invariant-loop-at : goal.invariant-loop-at
invariant-loop-at l = delimiter_from l.delim l.escaped l.at (drop l.at l.text) ≡ delimiter_from l.delim false 0 l.text
