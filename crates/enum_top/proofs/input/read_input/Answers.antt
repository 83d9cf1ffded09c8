use Rattle.std.proofs.Common.{Err, ap}
use Rattle.enum_top.proofs.DoesLemmas.{done, ill_formed}
use Rattle.enum_top.proofs.InputLemmas.{input_large, input_read}
use Rattle.enum_top.proofs.input.read_input.Goals as goal

pub returns-in-Ok-clause-does : goal.returns-in-Ok-clause-does
returns-in-Ok-clause-does g c = done (input_read _ _ c.in-Ok.ensures.bytes c.in-Ok.ensures.short)

pub returns-in-Err-TooLarge-clause-does : goal.returns-in-Err-TooLarge-clause-does
returns-in-Err-TooLarge-clause-does g c = ill_formed (input_large _ (c.in-Err-TooLarge.ensures.large (ap Err c.in-Err-TooLarge.field-0-is)))
