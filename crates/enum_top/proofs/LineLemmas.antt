-- The line of a file, in two writes.
use Rattle.std.proofs.Common.{◌≡◌, List, ℕ, [], ◌∷◌, ◌++◌, sym, append_assoc}
use Rattle.enum_base.proofs.WrittenLemmas.{Takes-first, Takes-same, Takes-second}
use Rattle.enum_base.specs.Causes.{Rose}
use Rattle.enum_base.specs.Outside.{SinkState}
use Rattle.enum_base.specs.Writing.{Gains, Takes}

-- the first write failed
pub told_first : (old new : SinkState) (front fault : List ℕ) → Takes old new front → Rose old.faults new.faults → Takes old new (front ++ fault ++ 10 ∷ [])
told_first old new front fault taken rose =
    Takes-same old new (front ++ (fault ++ 10 ∷ [])) (front ++ fault ++ 10 ∷ [])
    (sym (append_assoc front fault (10 ∷ []))) (Takes-first old new front (fault ++ 10 ∷ []) taken rose)

-- and then the second came
pub told_both : (old between new : SinkState) (front fault : List ℕ) → Gains old between front
    → between.faults ≡ old.faults → Takes between new (fault ++ 10 ∷ []) → Takes old new (front ++ fault ++ 10 ∷ [])
told_both old between new front fault whole count taken =
    Takes-same old new (front ++ (fault ++ 10 ∷ [])) (front ++ fault ++ 10 ∷ [])
    (sym (append_assoc front fault (10 ∷ [])))
    (Takes-second old between new front (fault ++ 10 ∷ []) whole count taken)
