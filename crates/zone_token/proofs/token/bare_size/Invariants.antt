use Rattle.std.proofs.Common.{◌≡◌, ◌+◌, false, length}
use Rattle.zone_token.specs.Tokens.{bare_from}
use Rattle.zone_token.proofs.token.bare_size.Given as goal

-- what is left ends the token as the whole text does
abbrev pub invariant-loop-rest : goal.invariant-loop-rest
invariant-loop-rest l = record {
  same : bare_from l.escaped l.size l.rest ≡ bare_from false 0 l.text;
  within : l.size + length l.rest ≡ length l.text;
}

abbrev pub decreases-loop-rest : goal.decreases-loop-rest
decreases-loop-rest l = length l.rest
