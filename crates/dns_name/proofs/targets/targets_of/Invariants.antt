use Rattle.std.proofs.Common.{◌≡◌, length}
use Rattle.dns_name.specs.Targets.{AreTargets}
use Rattle.dns_name.proofs.targets.targets_of.Given as goal

abbrev pub invariant-places : goal.invariant-places
invariant-places l = AreTargets l.message l.targets × (length l.targets ≡ l.at)
