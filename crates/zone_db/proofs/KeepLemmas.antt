-- A source that keeps no names.
use Rattle.std.proofs.Common.{inl, inr, [], ◌∷◌, Result, Ok, Err, refl}
use Rattle.naptr_data.proofs.CutLemmas.{Contains-none}
use Rattle.naptr_data.specs.Zones.{Labels}
use Rattle.naptr_data.specs.Sources.{KeepsNames}
use Rattle.naptr_data.specs.declared.offer.Offer.{Offer}
use Rattle.naptr_data.specs.declared.source.SourceFault.{SourceFault}

pub keeps_none : (name : Labels) (r : Result Offer SourceFault) → KeepsNames 0 name [] [] r
keeps_none name (Ok o) = (name ∷ [], inr (λ among. Contains-none name among, refl), refl)
keeps_none name (Err f) = inl refl
