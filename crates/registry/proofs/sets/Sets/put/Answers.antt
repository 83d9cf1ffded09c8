use Rattle.std.proofs.Common.{sym, subst}
use Rattle.zone_build.specs.Zone.{IsSet}
use Rattle.registry.specs.Holding.{IsPut, records_in}
use Rattle.registry.proofs.HoldLemmas.{put_each, rising_in, set_put}
use Rattle.registry.proofs.sets.Sets.put.Goals as goal

pub invariant_of-self-2 : goal.invariant_of-self-2
invariant_of-self-2 c = record {
  rising = c.in_ok-insert.ensures.ordered;
  each = put_each c.args.owner.now c.args.kind c.new.result c.wire-wire.ensures.name c.new.ensures.owner c.new.ensures.kind
      c.self.inside.map.entries c.self.invariant.rising c.self.invariant.each c.args.set c.insert.new.self.entries
      c.in_ok-insert.ensures.entries c.requires;
}

pub returns-clause-put : goal.returns-clause-put
returns-clause-put c = λ was h.
    subst (λ l. IsPut l (records_in c.insert.new.self.entries) was c.args.set) c.self.view_is
    (set_put c.args.owner.now c.args.kind c.new.result c.wire-wire.ensures.name c.new.ensures.owner c.new.ensures.kind
    c.self.inside.map.entries c.self.invariant.rising c.self.invariant.each c.args.set c.insert.new.self.entries
    c.in_ok-insert.ensures.entries was (subst (λ l. IsSet l c.args.owner.now c.args.kind was) (sym c.self.view_is) h))

pub returns-clause-rising : goal.returns-clause-rising
returns-clause-rising c = rising_in c.insert.new.self.entries c.in_ok-insert.ensures.ordered
    (put_each c.args.owner.now c.args.kind c.new.result c.wire-wire.ensures.name c.new.ensures.owner c.new.ensures.kind
    c.self.inside.map.entries c.self.invariant.rising c.self.invariant.each c.args.set c.insert.new.self.entries
    c.in_ok-insert.ensures.entries c.requires)
