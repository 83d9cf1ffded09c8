use Rattle.std.proofs.Common.{◌≡◌, inl, inr, refl, subst}
use Rattle.dns_wire.specs.declared.content.Content.TheVariants as content
use Rattle.dns_wire.specs.declared.record.Record.{Record}
use Rattle.zone_build.proofs.ListLemmas.{turn_of, turned_all, read_in}
use Rattle.wire_source.proofs.records.has_soa.Goals as goal

pub returns-then-tells_soa : goal.returns-then-tells_soa
returns-then-tells_soa c = (
  λ t. (
    c.one-item.result,
    read_in c.args.records.now c.loop-one.one-index c.one-item.result c.loop-one-test.true c.one-item.is,
    c.if-tells_soa.ensures.0 refl,
  ),
  λ s. refl,
)

pub loop-one-preserved : goal.loop-one-preserved
loop-one-preserved c = λ z soa k is. elim (turn_of c.args.records.now c.loop-one.one-index c.one-item.result z c.loop-one-test.true c.one-item.is k) [
  | inl old ↦ c.loop-one.invariant z soa old is
  | inr new ↦ absurd (cc (c.if-tells_soa.ensures.1 (soa, subst (λ (y : Record). y.content ≡ content.Soa soa) new is)))
]

pub returns : goal.returns
returns c = (
  λ t. absurd (cc),
  λ (z, k, (soa, is)). absurd (c.loop-one.invariant z soa (turned_all c.args.records.now c.loop-one.one-index z c.loop-one-test.false k) is),
)
