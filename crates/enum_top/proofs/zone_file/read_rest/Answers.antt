use Rattle.std.proofs.Common.{refl, rules, ◌+◌, length, arith}
use Rattle.std.proofs.lemmas.Grind.{common_steps}
use Rattle.std.proofs.lemmas.List.{length-take-le}
use Rattle.enum_base.specs.Outside.{EndsAtEnd}
use Rattle.enum_base.specs.Stages.Then.{goes}
use Rattle.enum_top.proofs.DoesLemmas.{done_as}
use Rattle.enum_top.proofs.FileLemmas.{broken_left, end_left, fed_more, taken_more, text_refused}
use Rattle.enum_top.proofs.ShelfLemmas.{blames_none, read_failed, read_once_more}
use Rattle.enum_top.specs.declared.objects.Object.TheVariants.{Shelf}
use Rattle.enum_top.proofs.zone_file.read_rest.Goals as goal

pub returns-then-count-eq0-clause-does : goal.returns-then-count-eq0-clause-does
returns-then-count-eq0-clause-does g c =
    let ends : EndsAtEnd c.in-Ok.count (g.S.Shelf.state c.pieces.shelf).left = search rules in
    let all = end_left _ _ c.pieces.reader.text _ c.pieces.invariant.parts c.if-count-eq0.true ends in
    done_as (λ object none. absurd none) (λ records said. goes _ all said) (λ cause stopped. goes _ all stopped) c.records_of.ensures

pub returns-then-count-eq0-clause-taken : goal.returns-then-count-eq0-clause-taken
returns-then-count-eq0-clause-taken g c =
    λ calm. (
      length c.pieces.reader.text + c.in-Ok.count,
      grind (arith, common_steps, c.pieces.invariant.small, c.in-Ok.ensures.bound),
      taken_more c.pieces.reader.text c.in-Ok.count _ _ _ c.pieces.invariant.parts c.in-Ok.ensures.left,
    )

pub returns-in-Err-feed-clause-does : goal.returns-in-Err-feed-clause-does
returns-in-Err-feed-clause-does g c =
    text_refused c.args.place c.in-Err-feed.fault _ c.refusal_of.ensures
    (λ known. broken_left c.broken_stays_broken.ensures _ _ c.args.place c.pieces.reader.text _
    c.pieces.reader.origin _ c.in-Err-feed.fault c.pieces.invariant.parts c.in-Ok.ensures.given
    c.pieces.invariant.origin (c.in-Err-feed.ensures.broken c.pieces.invariant.unbroken known))

pub returns-in-Err-feed-clause-taken : goal.returns-in-Err-feed-clause-taken
returns-in-Err-feed-clause-taken g c =
    λ calm. (
      length c.pieces.reader.text + c.in-Ok.count,
      grind (arith, common_steps, c.pieces.invariant.small, c.in-Ok.ensures.bound),
      taken_more c.pieces.reader.text c.in-Ok.count _ _ _ c.pieces.invariant.parts c.in-Ok.ensures.left,
    )

pub pieces-preserved : goal.pieces-preserved
pieces-preserved g c =
    fed_more _ _ _ c.pieces.reader _ _ c.in-Ok.count c.pieces.invariant c.in_default.ensures.fed
    c.in_default.ensures.within c.in-Ok.ensures.given c.in-Ok.ensures.left c.in-Ok.ensures.files
    c.in-Ok.ensures.cause.kept
    (omega (arith, length-take-le _ _ c.in-Ok.ensures.bound)) c.in-Ok.ensures.counts c.in-Ok.ensures.greatest

pub returns-in-Err-clause-shelf : goal.returns-in-Err-clause-shelf
returns-in-Err-clause-shelf g c =
    read_failed _ _ _ c.pieces.reader _ refl c.pieces.invariant c.in-Err.ensures.files c.in-Err.ensures.cause.later
    c.in-Err.ensures.cause.failed c.in-Err.ensures.untold c.in-Err.ensures.uncounted.1

pub returns-then-count-eq0-clause-shelf : goal.returns-then-count-eq0-clause-shelf
returns-then-count-eq0-clause-shelf g c =
    read_once_more _ _ _ c.pieces.reader c.in-Ok.count _ (λ e. c.records_of.ensures.failed Shelf e) c.pieces.invariant
    (grind (arith, common_steps, c.in-Ok.ensures.bound)) c.in-Ok.ensures.files c.in-Ok.ensures.cause.kept
    c.in-Ok.ensures.left c.in-Ok.ensures.counts c.in-Ok.ensures.greatest

pub returns-in-Err-feed-clause-shelf : goal.returns-in-Err-feed-clause-shelf
returns-in-Err-feed-clause-shelf g c =
    read_once_more _ _ _ c.pieces.reader c.in-Ok.count _
    (λ e. blames_none c.args.place c.in-Err-feed.fault _ Shelf c.refusal_of.ensures e) c.pieces.invariant
    (grind (arith, common_steps, c.in-Ok.ensures.bound)) c.in-Ok.ensures.files c.in-Ok.ensures.cause.kept
    c.in-Ok.ensures.left c.in-Ok.ensures.counts c.in-Ok.ensures.greatest
