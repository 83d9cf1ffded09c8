use Rattle.enum_app.proofs.KeyLemmas.{IsBegun}
use Rattle.enum_app.proofs.number.Number.key.Given as goal

abbrev pub invariant-loop-digit : goal.invariant-loop-digit
invariant-loop-digit l = IsBegun l.digit-items l.digit-index l.fn.apex l.name
