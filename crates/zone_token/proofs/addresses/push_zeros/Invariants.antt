use Rattle.std.proofs.Common.{◌≡◌, ◌++◌, replicate}
use Rattle.zone_token.proofs.addresses.push_zeros.Given as goal

-- so many zeros so far
abbrev pub invariant-loop-written : goal.invariant-loop-written
invariant-loop-written l = l.bytes ≡ l.fn.bytes ++ replicate l._written 0
