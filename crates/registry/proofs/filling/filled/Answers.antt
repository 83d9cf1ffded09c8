use Rattle.std.proofs.Common.{subst}
use Rattle.std.specs.Prelude.{Contains}
use Rattle.registry.proofs.FillLemmas.{earlier_at}
use Rattle.registry.proofs.filling.filled.Goals as goal

pub append-requires-clause-later : goal.append-requires-clause-later
append-requires-clause-later c = λ other h.
    earlier_at c.args.records.now c.loop-one.one-index c.one-item.result c.requires.rising c.loop-one-test.true c.one-item.is other
    (subst (λ l. Contains l other) c.loop-one.invariant h)
