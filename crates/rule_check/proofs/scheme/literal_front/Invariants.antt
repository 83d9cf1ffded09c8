use Rattle.std.proofs.Common.{◌≡◌, ◌≤◌, ◌++◌, false, drop, length}
use Rattle.rule_check.specs.Checking.{literal_from}
use Rattle.rule_check.proofs.scheme.literal_front.Given as goal

-- the text has what the bytes so far give
abbrev pub invariant-loop-b : goal.invariant-loop-b
invariant-loop-b l =
    (l.text ++ literal_from l.escaped (drop l.b-index l.repl) ≡ literal_from false l.repl)
    × (length l.text ≤ l.b-index)
