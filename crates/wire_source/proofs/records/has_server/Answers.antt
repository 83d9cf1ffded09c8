use Rattle.std.proofs.Common.{◌≡◌, inl, inr, refl, subst}
use Rattle.dns_wire.specs.declared.content.Content.TheVariants as content
use Rattle.dns_wire.specs.declared.record.Record.{Record}
use Rattle.zone_build.proofs.ListLemmas.{turn_of, turned_all, read_in}
use Rattle.wire_source.proofs.records.has_server.Goals as goal

pub returns-then-tells_server : goal.returns-then-tells_server
returns-then-tells_server c = (
  λ t. (
    c.one-item.result,
    read_in c.args.records.now c.loop-one.one-index c.one-item.result c.loop-one-test.true c.one-item.is,
    c.if-tells_server.ensures.0 refl,
  ),
  λ s. refl,
)

pub loop-one-preserved : goal.loop-one-preserved
loop-one-preserved c = λ z server k is. elim (turn_of c.args.records.now c.loop-one.one-index c.one-item.result z c.loop-one-test.true c.one-item.is k) [
  | inl old ↦ c.loop-one.invariant z server old is
  | inr new ↦ absurd (cc (c.if-tells_server.ensures.1 (server, subst (λ (y : Record). y.content ≡ content.Ns server) new is)))
]

pub returns : goal.returns
returns c = (
  λ t. absurd (cc),
  λ (z, k, (server, is)). absurd (c.loop-one.invariant z server (turned_all c.args.records.now c.loop-one.one-index z c.loop-one-test.false k) is),
)
