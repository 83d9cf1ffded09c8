use Rattle.wire_source.proofs.HonestLemmas.{honest}
use Rattle.wire_source.proofs.laws.honest_replies_are_offers.Goals as goal

pub returns : goal.returns
returns c = honest
