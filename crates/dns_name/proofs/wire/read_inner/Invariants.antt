use Rattle.std.proofs.Common.{◌+◌, ◌-◌, ◌*◌, length}
use Rattle.dns_name.proofs.CodeLemmas.{IsReading}
use Rattle.dns_name.proofs.wire.read_inner.Given as goal

abbrev pub invariant-fields : goal.invariant-fields
invariant-fields l = IsReading l.message l.fn.at l.wire l.start l.here l.next

abbrev pub decreases-fields : goal.decreases-fields
decreases-fields l = l.start * (length l.message + 1) + (length l.message - l.here)
