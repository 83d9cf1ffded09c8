use Rattle.std.proofs.Common.{inl, inr, refl, rules}
use Rattle.enum_top.proofs.DoesLemmas.{done, ill_formed}
use Rattle.enum_top.proofs.commands.show.read_message.Goals as goal

pub returns-in-Ok : goal.returns-in-Ok
returns-in-Ok c = rw (← c.as_slice.ensures) (done (inl (_, c.in-Ok.ensures.message c.in-Ok.message refl, refl)))

pub returns-in-Err : goal.returns-in-Err
returns-in-Err c = rw (← c.as_slice.ensures) (ill_formed (inr (_, c.in-Err.ensures.fault c.in-Err.fault refl (search rules), refl)))
