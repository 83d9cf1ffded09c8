use Rattle.dns_name.proofs.BelowLemmas.{order-is_total, order-is_same}
use Rattle.dns_name.proofs.laws.folded_order_is_total.Goals as goal

pub returns-clause-total : goal.returns-clause-total
returns-clause-total c = order-is_total

pub returns-clause-same : goal.returns-clause-same
returns-clause-same c = order-is_same
