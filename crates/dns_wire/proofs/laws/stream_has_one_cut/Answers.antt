use Rattle.dns_wire.proofs.FrameLemmas.{some_cut, one_cut}
use Rattle.dns_wire.proofs.laws.stream_has_one_cut.Goals as goal

pub returns-clause-some : goal.returns-clause-some
returns-clause-some c = some_cut

pub returns-clause-one : goal.returns-clause-one
returns-clause-one c = one_cut
