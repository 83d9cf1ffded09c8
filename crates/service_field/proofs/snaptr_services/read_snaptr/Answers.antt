use Rattle.std.proofs.Common.{◌∙◌, sym, ap, subst}
use Rattle.service_field.specs.Services.{SpellsSnaptr}
use Rattle.service_field.specs.Tags.{IsItem, tags_of}
use Rattle.service_field.specs.declared.alphabet.Alphabet.TheVariants.{Snaptr}
use Rattle.service_field.proofs.SpellLemmas.{faulty_spells_no_service, snaptr_item, snaptr_read, snaptr_spelled}
use Rattle.service_field.proofs.snaptr_services.read_snaptr.Goals as goal

pub returns-in_err-text-clause-only : goal.returns-in_err-text-clause-only
returns-in_err-text-clause-only c =
    λ item spelled. faulty_spells_no_service c.args.text.now item c.in_err-text.field-0.0 (sym c.in_err-text.ensures.fault) spelled

pub invariant_of-result : goal.invariant_of-result
invariant_of-result c =
    subst (λ t. IsItem Snaptr (tags_of t)) (sym c.in_ok-text.ensures.text) (snaptr_item c.args.text.now (sym c.in_ok-text.ensures.fault))

pub returns-clause-spelled : goal.returns-clause-spelled
returns-clause-spelled c =
    subst (λ t. SpellsSnaptr c.args.text.now (tags_of t)) (sym c.in_ok-text.ensures.text) (snaptr_spelled c.args.text.now (sym c.in_ok-text.ensures.fault))

pub returns-clause-only : goal.returns-clause-only
returns-clause-only c =
    λ item spelled. cc (ap tags_of c.in_ok-text.ensures.text ∙ sym (snaptr_read c.args.text.now item spelled).1)
