use Rattle.registry.proofs.LawLemmas.{one_zone}
use Rattle.registry.proofs.laws.one_change.Goals as goal

pub returns : goal.returns
returns c = one_zone
