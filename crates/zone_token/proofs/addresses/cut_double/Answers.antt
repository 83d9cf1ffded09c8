use Rattle.std.proofs.Common.{◌∙◌, sym}
use Rattle.zone_token.proofs.CutLemmas.{double-at, double-nowhere}
use Rattle.zone_token.proofs.addresses.cut_double.Goals as goal

pub returns-in_err-at : goal.returns-in_err-at
returns-in_err-at c = rw c.from_residual.ensures (double-nowhere _ (sym c.double_place.ensures.value ∙ c.in_err-at.was))

pub returns : goal.returns
returns c = double-at _ _ (sym c.double_place.ensures.value ∙ c.in_ok-at.was)
