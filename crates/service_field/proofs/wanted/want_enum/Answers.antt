use Rattle.std.proofs.Common.{refl, sym}
use Rattle.service_field.proofs.SpellLemmas.{faulty_spells_no_list, wanted_read, wanted_spelled}
use Rattle.service_field.proofs.wanted.want_enum.Goals as goal

pub returns-in_err-read-clause-only : goal.returns-in_err-read-clause-only
returns-in_err-read-clause-only c =
    λ items spelled. faulty_spells_no_list c.args.text.now items c.in_err-read.field-0.0 (sym c.in_err-read.ensures.fault) spelled

pub returns-clause-spelled : goal.returns-clause-spelled
returns-clause-spelled c = wanted_spelled c.args.text.now (sym c.in_ok-read.ensures.fault)

pub returns-clause-only : goal.returns-clause-only
returns-clause-only c = λ items spelled. (refl, (wanted_read c.args.text.now items spelled).1)
