use Rattle.std.proofs.Common.{length}
use Rattle.registry.proofs.registry.Registry.+is_cut_off.Given as goal

abbrev pub decreases-is_cut_off : goal.decreases-is_cut_off
decreases-is_cut_off l = length l.name.now
