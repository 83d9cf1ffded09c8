use Rattle.dns_name.specs.Name.{IsBelow}
use Rattle.dns_wire.specs.declared.record.Record.{Record}
use Rattle.zone_build.proofs.ListLemmas.{turned_all}
use Rattle.zone_build.proofs.SoaLemmas.{first_found}
use Rattle.zone_build.proofs.soa.first_outside.Goals as goal

pub returns-then-not-is_below-clause-some : goal.returns-then-not-is_below-clause-some
returns-then-not-is_below-clause-some c = (
  c.index-records-place.result,
  first_found
      (λ (r : Record). ¬ IsBelow r.owner c.args.apex.now) c.args.records.now c.loop-place.place
      c.index-records-place.result c.loop-place-test.true c.index-records-place.is
      (λ y k p. p (c.loop-place.invariant y k)) (λ b. absurd (cc (c.if-not-is_below.ensures.1 b))),
)

pub returns-clause-none : goal.returns-clause-none
returns-clause-none c = λ one k. c.loop-place.invariant one (turned_all c.args.records.now c.loop-place.place one c.loop-place-test.false k)
