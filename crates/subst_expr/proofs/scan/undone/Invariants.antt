use Rattle.std.proofs.Common.{◌≡◌, ◌+◌, ◌≤◌, ◌++◌, cond, false, drop, length}
use Rattle.subst_expr.specs.Scans.{undone_from}
use Rattle.subst_expr.proofs.scan.undone.Given as goal

-- the row has what the bytes so far give, without a backslash that may yet go
abbrev pub invariant-loop-b : goal.invariant-loop-b
invariant-loop-b l =
    (l.row ++ undone_from l.delim l.escaped (drop l.b-index l.ere) ≡ undone_from l.delim false l.ere)
    × (length l.row + cond l.escaped 1 0 ≤ l.b-index)
