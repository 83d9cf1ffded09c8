use Rattle.std.proofs.Common.{length, ◌-◌}
use Rattle.dns_name.proofs.RunLemmas.{IsRunning}
use Rattle.dns_name.proofs.wire.cut_in_run.Given as goal

abbrev pub invariant-labels : goal.invariant-labels
invariant-labels l = IsRunning l.bytes l.at l.here

abbrev pub decreases-labels : goal.decreases-labels
decreases-labels l = length l.bytes - l.here
