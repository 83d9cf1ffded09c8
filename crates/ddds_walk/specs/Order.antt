-- The order of derivations. It is this project's own.
use Rattle.std.specs.Prelude.{◌≡◌, ℕ, ◌<◌, ◌⊎◌, List, [], ◌∷◌, Contains}
use Rattle.ddds_walk.specs.declared.derivation.Derivation.{Derivation}

-- ranks come before others: they are less at the first difference, or a proper prefix
abbrev pub Less : List ℕ → List ℕ → Type 0
Less xs [] = ⊥
Less [] (y ∷ ys) = Unit {0}
Less (x ∷ xs) (y ∷ ys) = (x < y) ⊎ ((x ≡ y) × Less xs ys)

-- a derivation comes before another: by its place, and then by its ranks
abbrev pub Before : Derivation → Derivation → Type 0
Before one other = (one.place < other.place) ⊎ ((one.place ≡ other.place) × Less one.ranks other.ranks)

-- each comes before all that follow it
abbrev pub AreRising : {X : Type 0} → (X → X → Type 0) → List X → Type 0
AreRising Comes [] = Unit {0}
AreRising {X} Comes (x ∷ xs) = ((y : X) → Contains xs y → Comes x y) × AreRising Comes xs
