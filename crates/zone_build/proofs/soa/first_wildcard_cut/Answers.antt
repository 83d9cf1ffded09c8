use Rattle.zone_build.specs.Faults.{IsWildcardCut}
use Rattle.zone_build.proofs.ListLemmas.{turned_all}
use Rattle.zone_build.proofs.SoaLemmas.{first_found, none_more}
use Rattle.zone_build.proofs.soa.first_wildcard_cut.Goals as goal

pub returns-then-is_wildcard_cut-clause-some : goal.returns-then-is_wildcard_cut-clause-some
returns-then-is_wildcard_cut-clause-some c = (
  c.index-records-place.result,
  first_found IsWildcardCut c.args.records.now c.loop-place.place c.index-records-place.result c.loop-place-test.true
      c.index-records-place.is c.loop-place.invariant (c.is_wildcard_cut.ensures.0 c.if-is_wildcard_cut.true),
)

pub loop-place-preserved : goal.loop-place-preserved
loop-place-preserved c =
    none_more IsWildcardCut c.args.records.now c.loop-place.place c.index-records-place.result c.loop-place-test.true
    c.index-records-place.is c.loop-place.invariant
    (λ w. absurd (cc (c.if-is_wildcard_cut.false, c.is_wildcard_cut.ensures.1 w)))

pub returns-clause-none : goal.returns-clause-none
returns-clause-none c = λ one k. c.loop-place.invariant one (turned_all c.args.records.now c.loop-place.place one c.loop-place-test.false k)
