use Rattle.std.proofs.Common.{◌≡◌, length}
use Rattle.zone_token.specs.Tokens.{tokens_from, tokens_of}
use Rattle.zone_token.proofs.TokenLemmas.{after_tokens}
use Rattle.zone_token.proofs.tokens.read_tokens.Given as goal

-- the tokens so far stand before those of the rest
abbrev pub invariant-loop-rest : goal.invariant-loop-rest
invariant-loop-rest l = after_tokens l.tokens (tokens_from 0 l.inside l.rest) ≡ tokens_of l.entry

abbrev pub decreases-loop-rest : goal.decreases-loop-rest
decreases-loop-rest l = length l.rest
