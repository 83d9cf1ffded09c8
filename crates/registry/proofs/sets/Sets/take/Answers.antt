use Rattle.std.proofs.Common.{[], sym, subst}
use Rattle.zone_build.specs.Zone.{IsSet}
use Rattle.registry.specs.Holding.{IsPut, records_in}
use Rattle.registry.proofs.HoldLemmas.{rising_in, set_taken, taken_each}
use Rattle.registry.proofs.sets.Sets.take.Goals as goal

pub invariant_of-self : goal.invariant_of-self
invariant_of-self c = record {
  rising = c.remove.ensures.ordered;
  each = taken_each c.args.owner.now c.args.kind c.new.result c.wire-wire.ensures.name c.new.ensures.owner c.new.ensures.kind
      c.self.inside.map.entries c.self.invariant.rising c.self.invariant.each c.remove.new.self.entries c.remove.ensures.entries;
}

pub returns-clause-taken : goal.returns-clause-taken
returns-clause-taken c = λ was h.
    subst (λ l. IsPut l (records_in c.remove.new.self.entries) was []) c.self.view_is
    (set_taken c.args.owner.now c.args.kind c.new.result c.wire-wire.ensures.name c.new.ensures.owner c.new.ensures.kind
    c.self.inside.map.entries c.self.invariant.rising c.self.invariant.each c.remove.new.self.entries c.remove.ensures.entries was
    (subst (λ l. IsSet l c.args.owner.now c.args.kind was) (sym c.self.view_is) h))

pub returns-clause-rising : goal.returns-clause-rising
returns-clause-rising c = rising_in c.remove.new.self.entries c.remove.ensures.ordered
    (taken_each c.args.owner.now c.args.kind c.new.result c.wire-wire.ensures.name c.new.ensures.owner c.new.ensures.kind
    c.self.inside.map.entries c.self.invariant.rising c.self.invariant.each c.remove.new.self.entries c.remove.ensures.entries)
