use Rattle.std.proofs.Common.{◌≡◌, ◌++◌, false, drop}
use Rattle.subst_expr.specs.Scans.{expansion_from}
use Rattle.subst_expr.proofs.expand.expansion.Given as goal

-- the bytes so far and what the rest gives are the expansion
abbrev pub invariant-loop-b : goal.invariant-loop-b
invariant-loop-b g l =
    l.bytes ++ expansion_from l.aus l.spans.groups l.escaped (drop l.b-index l.repl) ≡ expansion_from l.aus l.spans.groups false l.repl
