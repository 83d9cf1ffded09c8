use Rattle.std.proofs.Common.{Bool, refl, subst}
use Rattle.enum_base.specs.Outside.{Finds}
use Rattle.enum_top.proofs.DoesLemmas.{done_as, ill_formed}
use Rattle.enum_top.proofs.FileLemmas.{text_absent, text_of_left}
use Rattle.enum_top.proofs.ShelfLemmas.{fetched, fetched_so, then_reads}
use Rattle.enum_top.proofs.ObjectLemmas.{blames_call, blames_failed}
use Rattle.enum_top.proofs.zone_file.read_text.Goals as goal

pub returns-in-Ok-true-clause-does : goal.returns-in-Ok-true-clause-does
returns-in-Ok-true-clause-does g c =
    let finds =
    subst (λ (b : Bool). Finds
    (g.S.Shelf.state c.args.shelf.now).files c.text_at.result.now b) c.in-Ok-true.field-0-test
    c.in-Ok-true.ensures.found in
    done_as (λ object used. used)
    (λ records said. text_of_left _ _ c.args.place _ _ _ c.text_at.ensures finds c.in-Ok-true.ensures.left said)
    (λ cause stopped. text_of_left _ _ c.args.place _ _ _ c.text_at.ensures finds c.in-Ok-true.ensures.left
    stopped) c.read_rest.ensures.does

pub returns-in-Ok-false-clause-does : goal.returns-in-Ok-false-clause-does
returns-in-Ok-false-clause-does g c =
    let finds =
    subst (λ (b : Bool). Finds
    (g.S.Shelf.state c.args.shelf.now).files c.text_at.result.now b) c.in-Ok-false.field-0-test
    c.in-Ok-false.ensures.found in
    ill_formed (text_absent _ _ c.args.place _ c.text_at.ensures finds)

pub returns-in-Ok-true-clause-shelf : goal.returns-in-Ok-true-clause-shelf
returns-in-Ok-true-clause-shelf g c =
    then_reads _ _ _ _ _ (λ none. none)
    (fetched _ _ c.in-Ok-true.ensures.files c.in-Ok-true.ensures.untold c.in-Ok-true.ensures.cause.kept
    c.in-Ok-true.ensures.greatest) c.read_rest.ensures.shelf

pub returns-in-Ok-false-clause-shelf : goal.returns-in-Ok-false-clause-shelf
returns-in-Ok-false-clause-shelf g c =
    fetched_so _ _ _ c.in-Ok-false.ensures.files c.in-Ok-false.ensures.untold
    (blames_call _ _ _ _ (λ e. absurd (cc e)) c.in-Ok-false.ensures.cause) c.in-Ok-false.ensures.greatest

pub returns-in-Err-clause-shelf : goal.returns-in-Err-clause-shelf
returns-in-Err-clause-shelf g c =
    fetched_so _ _ _ c.in-Err.ensures.files c.in-Err.ensures.untold (blames_failed _ _ _ _ refl c.in-Err.ensures.cause) c.in-Err.ensures.greatest
