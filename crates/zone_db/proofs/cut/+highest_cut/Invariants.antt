use Rattle.std.proofs.Common.{length}
use Rattle.zone_db.proofs.cut.+highest_cut.Given as goal

abbrev pub decreases-highest_cut : goal.decreases-highest_cut
decreases-highest_cut l = length l.name.now
