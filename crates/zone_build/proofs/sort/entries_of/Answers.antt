use Rattle.std.proofs.Common.{◌++◌, ◌∷◌, [], ap, ◌∙◌, take}
use Rattle.zone_build.specs.Building.{givens_from}
use Rattle.zone_build.proofs.ListLemmas.{read_in}
use Rattle.zone_build.proofs.SortLemmas.{givens_next}
use Rattle.zone_build.proofs.sort.entries_of.Goals as goal

pub new-requires : goal.new-requires
new-requires c =
    c.requires c.index-records-place.result
    (read_in c.args.records.now c.loop-place.place c.index-records-place.result c.loop-place-test.true
    c.index-records-place.is)

pub loop-place-preserved : goal.loop-place-preserved
loop-place-preserved c =
    c.in_ok-push.ensures.items ∙ ap (λ l. l ++ c.in_ok-new.field-0 ∷ []) c.loop-place.invariant
    ∙ ap (λ g. givens_from 0 (take c.loop-place.place c.args.records.now) ++ g ∷ []) c.in_ok-new.ensures
    ∙ givens_next c.args.records.now c.loop-place.place c.index-records-place.result c.loop-place-test.true c.index-records-place.is
