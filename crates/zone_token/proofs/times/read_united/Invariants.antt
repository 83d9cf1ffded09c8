use Rattle.std.proofs.Common.{◌≡◌, ◌≤◌, length, None}
use Rattle.std.specs.Option.{unwrap_or}
use Rattle.zone_token.specs.Times.{united_from, most_seconds}
use Rattle.zone_token.proofs.times.read_united.Given as goal

-- what is left gives what the whole text gives, and nothing so far is too great
abbrev pub invariant-loop-rest : goal.invariant-loop-rest
invariant-loop-rest l = record {
  same : united_from l.seconds l.number l.rest ≡ united_from 0 None l.text;
  seconds : l.seconds ≤ most_seconds;
  number : unwrap_or l.number 0 ≤ most_seconds;
}

abbrev pub decreases-loop-rest : goal.decreases-loop-rest
decreases-loop-rest l = length l.rest
