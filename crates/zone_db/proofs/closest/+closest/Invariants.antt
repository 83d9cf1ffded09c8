use Rattle.std.proofs.Common.{length}
use Rattle.zone_db.proofs.closest.+closest.Given as goal

abbrev pub decreases-closest : goal.decreases-closest
decreases-closest l = length l.name.now
