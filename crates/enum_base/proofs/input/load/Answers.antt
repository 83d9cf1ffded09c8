use Rattle.std.proofs.Common.{◌+◌, length, arith}
use Rattle.std.proofs.lemmas.Grind.{common_steps}
use Rattle.enum_base.proofs.LoadedLemmas.{taken_after}
use Rattle.enum_base.proofs.input.load.Goals as goal

pub returns-in_err-push_slice-clause-taken : goal.returns-in_err-push_slice-clause-taken
returns-in_err-push_slice-clause-taken g c calm = (
  length c.pieces.bytes + c.in-Ok.count,
  grind (arith, common_steps),
  taken_after c.pieces.bytes c.in-Ok.count _ _ _ c.pieces.invariant.parts c.in-Ok.ensures.left,
)
