use Rattle.std.proofs.Common.{inl, inr, sym, ap, ◌∙◌}
use Rattle.zone_build.specs.Building.{Given}
use Rattle.zone_build.proofs.ListLemmas.{turn_of, turned_all}
use Rattle.zone_build.proofs.soa.first_soa.Goals as goal

pub loop-entry-preserved : goal.loop-entry-preserved
loop-entry-preserved c = λ e k is. elim (turn_of c.args.entries.now c.loop-entry.entry-index c.entry-item.result e c.loop-entry-test.true c.entry-item.is k) [
  | inl old ↦ c.loop-entry.invariant e old is
  | inr new ↦ c.if-kind-eq6.false (c.kind.ensures ∙ ap (λ (g : Given). g.given.kind) (sym new) ∙ is)
]

pub returns : goal.returns
returns c = λ e k. c.loop-entry.invariant e (turned_all c.args.entries.now c.loop-entry.entry-index e c.loop-entry-test.false k)
