use Rattle.std.proofs.Common.{◌∙◌, sym}
use Rattle.zone_token.proofs.CutLemmas.{cut-at, cut-nowhere}
use Rattle.zone_token.proofs.cuts.cut.Goals as goal

pub returns-in_err-at : goal.returns-in_err-at
returns-in_err-at c = rw c.from_residual.ensures (cut-nowhere _ _ (sym c.first_place.ensures.value ∙ c.in_err-at.was))

pub returns : goal.returns
returns c = cut-at _ _ _ (sym c.first_place.ensures.value ∙ c.in_ok-at.was)
