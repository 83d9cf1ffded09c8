use Rattle.std.proofs.Common.{◌∙◌, sym}
use Rattle.service_field.proofs.SpellLemmas.{faulty_spells_nothing, items_after, read_after, spelled_after}
use Rattle.service_field.proofs.services.read_enum.Goals as goal

pub returns-in-Some-clause-only : goal.returns-in-Some-clause-only
returns-in-Some-clause-only c =
    λ items spelled. faulty_spells_nothing c.args.text.now items c.in-Some.fault (c.in_ok-items.ensures.1 ∙ sym c.in-Some.ensures) spelled

pub returns-in-None-clause-spelled : goal.returns-in-None-clause-spelled
returns-in-None-clause-spelled c =
    spelled_after c.args.text.now c.in_ok-items.items.now c.in_ok-items.ensures.0 (c.in_ok-items.ensures.1 ∙ sym c.in-None.ensures)

pub returns-in-None-clause-only : goal.returns-in-None-clause-only
returns-in-None-clause-only c =
    λ items spelled. cc (read_after c.args.text.now c.in_ok-items.items.now items c.in_ok-items.ensures.0 spelled)

pub returns-in_err-items-clause-only : goal.returns-in_err-items-clause-only
returns-in_err-items-clause-only c = λ items spelled. faulty_spells_nothing c.args.text.now items c.in_err-items.field-0.0 c.in_err-items.ensures spelled

pub invariant_of-result : goal.invariant_of-result
invariant_of-result c =
    items_after c.args.text.now c.in_ok-items.items.now c.in_ok-items.ensures.0 (c.in_ok-items.ensures.1 ∙ sym c.in-None.ensures)
