use Rattle.std.proofs.Common.{[], sym, subst}
use Rattle.dns_name.specs.Name.{folded_labels}
use Rattle.zone_build.specs.Zone.{IsRising, IsSet}
use Rattle.registry.specs.Holding.{IsHeld, records_in}
use Rattle.registry.proofs.HoldLemmas.{rising_in, set_is_held, set_nothing, set_some}
use Rattle.registry.proofs.sets.Sets.set.Goals as goal

pub returns-in-Some-clause-set : goal.returns-in-Some-clause-set
returns-in-Some-clause-set c =
    subst (λ l. IsSet l c.args.owner.now c.args.kind c.as_slice.result.now) c.self.view_is
    (subst (λ s. IsSet (records_in c.self.inside.map.entries) c.args.owner.now c.args.kind s) (sym c.as_slice.ensures)
    (set_some c.args.owner.now c.args.kind c.new.result c.wire-wire.ensures.name c.new.ensures.owner c.new.ensures.kind
    c.self.inside.map.entries c.self.invariant.rising c.self.invariant.each c.in-Some.set.now c.in-Some.ensures.value))

pub returns-in-Some-clause-rising : goal.returns-in-Some-clause-rising
returns-in-Some-clause-rising c =
    subst IsRising c.self.view_is (rising_in c.self.inside.map.entries c.self.invariant.rising c.self.invariant.each)

pub returns-in-None-clause-set : goal.returns-in-None-clause-set
returns-in-None-clause-set c =
    subst (λ l. IsSet l c.args.owner.now c.args.kind []) c.self.view_is
    (set_nothing c.args.owner.now c.args.kind c.new.result c.wire-wire.ensures.name c.new.ensures.owner c.new.ensures.kind
    c.self.inside.map.entries c.self.invariant.rising c.self.invariant.each c.in-None.ensures.value)

pub returns-in-None-clause-rising : goal.returns-in-None-clause-rising
returns-in-None-clause-rising c =
    subst IsRising c.self.view_is (rising_in c.self.inside.map.entries c.self.invariant.rising c.self.invariant.each)

pub returns-in-Some-clause-held : goal.returns-in-Some-clause-held
returns-in-Some-clause-held c =
    subst (λ s. IsHeld (folded_labels c.args.owner.now) c.args.kind s) (sym c.as_slice.ensures)
    (set_is_held c.args.owner.now c.args.kind c.new.result c.wire-wire.ensures.name c.new.ensures.owner c.new.ensures.kind
    c.self.inside.map.entries c.self.invariant.rising c.self.invariant.each c.in-Some.set.now c.in-Some.ensures.value)
