use Rattle.std.proofs.Common.{sym, ◌∙◌}
use Rattle.zone_build.proofs.OrderLemmas.{nat_cmp-equal}
use Rattle.zone_build.proofs.order.cmp_sets.Goals as goal

pub returns-in-Equal-clause-alike : goal.returns-in-Equal-clause-alike
returns-in-Equal-clause-alike c = λ e. (
  c.cmp_owners.ensures.same c.in-Equal.is,
  nat_cmp-equal c.args.one.now.kind c.args.other.now.kind (sym c.cmp.ensures ∙ e),
)
