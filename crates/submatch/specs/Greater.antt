-- The order of parses (this project's own; IEEE 1003.1, Base Definitions, 9.1, asks for the longest alone).
use Rattle.std.specs.Prelude.{◌≡◌, ℕ, ◌<◌, ◌≤◌, ◌⊎◌}
use Rattle.submatch.specs.Parses.{Parses, no_more, next, IsOneParse, AreParses}

-- the first decides, and where that is the same, what comes after it
abbrev pub Then : Type 0 → Type 0 → Type 0 → Type 0
Then Greater Same After = Greater ⊎ (Same × After)

-- The first parse that differs decides: the longer is greater; at equal length the earlier branch; in the same branch the
-- parses inside. Parses that go on are greater than those that stop there.
abbrev pub IsGreater : Parses → Parses → Type 0
IsGreater no_more qs = ⊥
IsGreater (next e c a ps) no_more = Unit {0}
IsGreater (next e c a ps) (next f d b qs) =
    Then (f < e) (e ≡ f) (Then (c < d) (c ≡ d) (Then (IsGreater a b) (a ≡ b) (IsGreater ps qs)))

-- greater, or the same
abbrev pub IsAtLeast : Parses → Parses → Type 0
IsAtLeast ps qs = (ps ≡ qs) ⊎ IsGreater ps qs

-- of those for which P holds, these are greater than all others
pub record AreGreatest (P : Parses → Type 0) (ps : Parses) : Type 0 where
  pub holds : P ps
  pub most : (qs : Parses) → P qs → IsAtLeast ps qs

-- of two parses of one part up to one end, the first has the earlier branch, or the same one and is at least inside
abbrev pub IsPartAtLeast : ℕ → Parses → ℕ → Parses → Type 0
IsPartAtLeast c a d b = Then (c < d) (c ≡ d) (IsAtLeast a b)

-- of the parses of one part up to one end, the one with this choice and these parses inside is greater than all others
pub record IsGreatestParse (P : ℕ → Parses → Type 0) (c : ℕ) (a : Parses) : Type 0 where
  pub holds : P c a
  pub most : (d : ℕ) (b : Parses) → P d b → IsPartAtLeast c a d b

-- From i to j the first parse takes the longest end e from which others cover the rest. It is the greatest up to there,
-- and the others are the greatest from there.
pub record IsGreedy (One : IsOneParse) (More : AreParses) (i j e c : ℕ) (a rest : Parses) : Type 0 where
  pub longest : (f d : ℕ) (b qs : Parses) → One i f d b → More f j qs → f ≤ e
  pub first : IsGreatestParse (One i e) c a
  pub others : AreGreatest (More e j) rest
