use Rattle.std.proofs.Common.{◌≡◌, ◌<◌, ◌+◌, true, false, drop}
use Rattle.subst_expr.specs.Scans.{missing_from}
use Rattle.subst_expr.proofs.expand.first_missing.Given as goal

-- the rest holds the first missing group; an escaped byte has one before it
abbrev pub invariant-loop-at : goal.invariant-loop-at
invariant-loop-at l =
    (missing_from l.groups l.escaped (l.start + l.at) (drop l.at l.repl) ≡ missing_from l.groups false l.start l.repl)
    × (l.escaped ≡ true → 0 < l.at)
