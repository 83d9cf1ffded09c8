use Rattle.enum_app.proofs.NumberLemmas.{IsRead}
use Rattle.enum_app.proofs.number.parse_inner.Given as goal

abbrev pub invariant-loop-at : goal.invariant-loop-at
invariant-loop-at l = IsRead l.text l.row l.at l.len
