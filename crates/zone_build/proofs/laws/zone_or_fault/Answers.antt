use Rattle.zone_build.proofs.ZoneOrFaultLemmas.{zone_or_fault}
use Rattle.zone_build.proofs.laws.zone_or_fault.Goals as goal

pub returns : goal.returns
returns c = zone_or_fault
