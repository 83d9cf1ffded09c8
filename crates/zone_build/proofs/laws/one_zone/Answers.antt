use Rattle.zone_build.proofs.OneZoneLemmas.{one_built}
use Rattle.zone_build.proofs.laws.one_zone.Goals as goal

pub returns : goal.returns
returns c = one_built
