use Rattle.std.proofs.Common.{◌≡◌, length}
use Rattle.zone_token.specs.Tokens.{is_blank_entry}
use Rattle.zone_token.proofs.tokens.is_blank_entry.Given as goal

-- the bytes so far are spaces
abbrev pub invariant-loop-rest : goal.invariant-loop-rest
invariant-loop-rest l = is_blank_entry l.entry ≡ is_blank_entry l.rest

abbrev pub decreases-loop-rest : goal.decreases-loop-rest
decreases-loop-rest l = length l.rest
