use Rattle.std.proofs.Common.{refl, arith}
use Rattle.zone_build.specs.Indexing.{IsGrown, CoversAbove}
use Rattle.zone_build.proofs.IndexNamesLemmas.{grown_twice, covers_apex, covers_passed, covers_later, covers_more, covers_root}
use Rattle.zone_build.proofs.IndexLemmas.{ok_map, both_map}
use Rattle.zone_build.proofs.IndexNamesLemmas.{shorter_above, below_parent}
use Rattle.zone_build.proofs.indexing.+add_above.Goals as goal

pub add_name-requires-clause-below : goal.add_name-requires-clause-below
add_name-requires-clause-below t c = below_parent _ c.args.name.now c.in-Some.above c.in-Some.ensures c.requires.below

pub add_above-requires : goal.add_above-requires
add_above-requires t c =
    let s = shorter_above c.args.name.now c.in-Some.above c.in-Some.ensures in (
      omega (arith, s, c.decreases),
      (
        c.requires.places,
        (
          c.in_ok-add_name.ensures.grown.places,
          (
            below_parent _ c.args.name.now c.in-Some.above c.in-Some.ensures c.requires.below,
            (
              covers_later c.args.records.now c.args.apex.now c.args.places.first c.args.index.now
                  c.add_name.new.index c.in_ok-add_name.ensures.grown c.requires.before,
              c.in_ok-add_name.ensures.has,
            ),
          ),
        ),
      ),
    )

pub returns-then-same-clause-above : goal.returns-then-same-clause-above
returns-then-same-clause-above t c = covers_apex c.args.records.now c.args.apex.now c.args.name.now c.args.index.now (c.if-same.ensures.0 refl)

pub returns-in_default-clause-above : goal.returns-in_default-clause-above
returns-in_default-clause-above t c =
    covers_root c.args.records.now c.args.apex.now c.args.name.now c.args.index.now c.in_default.ensures c.requires.there

pub returns-then-branch-clause-above : goal.returns-then-branch-clause-above
returns-then-branch-clause-above t c =
    covers_more c.args.records.now c.args.apex.now c.args.name.now c.in-Some.above c.args.index.now c.add_name.new.index
    c.in-Some.ensures c.requires.there c.in_ok-add_name.ensures.grown
    (covers_passed c.args.records.now c.args.apex.now c.in-Some.above c.args.places.first c.args.index.now
    c.add_name.new.index c.requires.before c.in_ok-add_name.ensures.grown
    (c.in_ok-add_name.ensures.passed c.if-branch.true))

pub returns-clause-grown : goal.returns-clause-grown
returns-clause-grown t c =
    ok_map (IsGrown c.args.records.now c.add_name.new.index c.add_above.new.index) (IsGrown c.args.records.now c.args.index.now c.add_above.new.index)
    (grown_twice c.args.records.now c.args.index.now c.add_name.new.index c.add_above.new.index
    c.in_ok-add_name.ensures.grown) c.add_above.result c.add_above.ensures.grown

pub returns-clause-above : goal.returns-clause-above
returns-clause-above t c =
    both_map (IsGrown c.args.records.now c.add_name.new.index c.add_above.new.index)
    (CoversAbove c.args.records.now c.args.apex.now c.in-Some.above c.add_above.new.index)
    (CoversAbove c.args.records.now c.args.apex.now c.args.name.now c.add_above.new.index)
    (λ grown. covers_more c.args.records.now c.args.apex.now c.args.name.now c.in-Some.above c.args.index.now
    c.add_above.new.index c.in-Some.ensures c.requires.there
    (grown_twice c.args.records.now c.args.index.now c.add_name.new.index c.add_above.new.index
    c.in_ok-add_name.ensures.grown grown)) c.add_above.result c.add_above.ensures.grown c.add_above.ensures.above
