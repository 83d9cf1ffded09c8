use Rattle.std.proofs.Common.{sym, ◌∙◌}
use Rattle.zone_build.proofs.OrderLemmas.{same_names, wires_cmp}
use Rattle.zone_build.proofs.order.cmp_owners.Goals as goal

pub returns-clause-order : goal.returns-clause-order
returns-clause-order c = c.cmp_folded.ensures ∙ wires_cmp c.args.one.now c.args.other.now c.wire-wire.ensures.name c.wire-other_wire.ensures.name

pub returns-clause-same : goal.returns-clause-same
returns-clause-same c = λ e.
    same_names c.args.one.now c.args.other.now c.wire-wire.ensures.name c.wire-other_wire.ensures.name
    (sym (c.cmp_folded.ensures
    ∙ wires_cmp c.args.one.now c.args.other.now c.wire-wire.ensures.name c.wire-other_wire.ensures.name) ∙ e)
