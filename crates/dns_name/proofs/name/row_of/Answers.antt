use Rattle.dns_name.proofs.NameLemmas.{two_parts}
use Rattle.dns_name.proofs.name.row_of.Goals as goal

pub returns : goal.returns
returns c = two_parts 255 c.args.front.now c.args.back.now c.put.new.row c.put-2.new.row c.put.ensures c.put-2.ensures
