use Rattle.std.proofs.Common.{◌≡◌, ◌+◌, false, length}
use Rattle.zone_token.specs.Tokens.{quoted_from}
use Rattle.zone_token.proofs.token.quoted_size.Given as goal

-- what is left closes the token as the whole text does
abbrev pub invariant-loop-rest : goal.invariant-loop-rest
invariant-loop-rest l = record {
  same : quoted_from l.escaped l.size l.rest ≡ quoted_from false 0 l.text;
  within : l.size + length l.rest ≡ length l.text;
}

abbrev pub decreases-loop-rest : goal.decreases-loop-rest
decreases-loop-rest l = length l.rest
