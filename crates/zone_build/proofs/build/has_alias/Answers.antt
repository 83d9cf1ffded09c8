use Rattle.std.proofs.Common.{inl, inr, refl, sym, ap, ◌∙◌}
use Rattle.zone_build.specs.Building.{Given}
use Rattle.dns_wire.specs.declared.record.Record.{Record}
use Rattle.zone_build.proofs.ListLemmas.{turn_of, turned_all, read_in}
use Rattle.zone_build.proofs.build.has_alias.Goals as goal

pub returns-then-record-eq5 : goal.returns-then-record-eq5
returns-then-record-eq5 c = (
  λ t. (
    c.entry-item.result,
    read_in c.args.owner.now c.loop-entry.entry-index c.entry-item.result c.loop-entry-test.true c.entry-item.is,
    ap (λ (r : Record). r.kind) (sym c.record.ensures) ∙ c.if-record-eq5.true,
  ),
  λ s. refl,
)

pub loop-entry-preserved : goal.loop-entry-preserved
loop-entry-preserved c = λ e k is. elim (turn_of c.args.owner.now c.loop-entry.entry-index c.entry-item.result e c.loop-entry-test.true c.entry-item.is k) [
  | inl old ↦ c.loop-entry.invariant e old is
  | inr new ↦ c.if-record-eq5.false (ap (λ (r : Record). r.kind) c.record.ensures ∙ ap (λ (g : Given). g.given.kind) (sym new) ∙ is)
]

pub returns : goal.returns
returns c = (
  λ t. absurd (cc),
  λ (e, k, is). absurd (c.loop-entry.invariant e (turned_all c.args.owner.now c.loop-entry.entry-index e c.loop-entry-test.false k) is),
)
