use Rattle.dns_name.proofs.NameLemmas.{AreBytes-fits}
use Rattle.dns_wire.proofs.EncodeLemmas.{front_kept}
use Rattle.dns_wire.proofs.append.append.Goals as goal

pub returns-clause-front : goal.returns-clause-front
returns-clause-front c = front_kept c.push_slice.result _ _ _ c.push_slice.ensures.ok c.push_slice.ensures.err

pub returns-clause-fits : goal.returns-clause-fits
returns-clause-fits c = AreBytes-fits c.args.more.now c.type_inv.more
