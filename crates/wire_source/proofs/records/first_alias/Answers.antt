use Rattle.std.proofs.Common.{inl, inr, subst}
use Rattle.dns_wire.specs.declared.record.Record.{Record}
use Rattle.zone_build.proofs.ListLemmas.{turn_of, turned_all}
use Rattle.wire_source.specs.Readings.{IsAlias}
use Rattle.wire_source.proofs.AliasLemmas.{alias_first}
use Rattle.wire_source.proofs.records.first_alias.Goals as goal

pub returns-in-Some : goal.returns-in-Some
returns-in-Some c =
    alias_first c.args.name.now c.args.records.now c.loop-one.one-index c.one-item.result c.in-Some.target c.loop-one-test.true c.one-item.is
    c.loop-one.invariant c.in-Some.ensures

pub loop-one-preserved : goal.loop-one-preserved
loop-one-preserved c = λ one target k is. elim (turn_of c.args.records.now c.loop-one.one-index c.one-item.result one c.loop-one-test.true c.one-item.is k) [
  | inl old ↦ c.loop-one.invariant one target old is
  | inr new ↦ c.in_default.ensures target (subst (λ (r : Record). IsAlias c.args.name.now r target) new is)
]

pub returns : goal.returns
returns c = λ one target k is. c.loop-one.invariant one target (turned_all c.args.records.now c.loop-one.one-index one c.loop-one-test.false k) is
