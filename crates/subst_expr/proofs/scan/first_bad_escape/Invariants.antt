use Rattle.std.proofs.Common.{◌≡◌, ◌<◌, ◌+◌, true, false, drop}
use Rattle.subst_expr.specs.Scans.{bad_escape_from}
use Rattle.subst_expr.proofs.scan.first_bad_escape.Given as goal

-- the rest holds the first bad escape; an escaped byte has one before it
abbrev pub invariant-loop-at : goal.invariant-loop-at
invariant-loop-at l =
    (bad_escape_from l.delim l.escaped (l.start + l.at) (drop l.at l.repl) ≡ bad_escape_from l.delim false l.start l.repl)
    × (l.escaped ≡ true → 0 < l.at)
