-- Repeats (IEEE 1003.1, Base Definitions, 9.4.6).
use Rattle.std.specs.Prelude.{ℕ, ◌≡◌, ◌≤◌, ◌+◌, ◌-◌, ◌*◌, true, ◌⊎◌, List, [], ◌∷◌, ◌++◌, length, Option, Some, None}
use Rattle.std.specs.List.{list_all}
use Rattle.posix_ere.specs.Ascii.{is_digit}

-- the number that decimal digits give after the number before them
abbrev pub value_from : ℕ → List ℕ → ℕ
value_from n [] = n
value_from n (d ∷ ds) = value_from (n * 10 + (d - 48)) ds

-- the text of a count: one to three digits, at most 255 (the limit is this project's own)
pub record IsCount (w : List ℕ) (n : ℕ) : Type 0 where
  pub digits : list_all is_digit w ≡ true
  pub some : 1 ≤ length w
  pub short : length w ≤ 3
  pub value : value_from 0 w ≡ n
  pub most : n ≤ 255

-- the text between the braces of an interval: `m`, or `m,` with no greatest count, or `m,n` with m not above n
abbrev pub IsInterval : List ℕ → ℕ → Option ℕ → Type 0
IsInterval w m None = (x : List ℕ) × (w ≡ x ++ 44 ∷ []) × IsCount x m
IsInterval w m (Some n) =
    ((m ≡ n) × IsCount w m)
    ⊎ ((x : List ℕ) × (y : List ℕ) × (w ≡ x ++ 44 ∷ y) × IsCount x m × IsCount y n × (m ≤ n))

-- the text of a repeat with its least and greatest count: `*`, `+`, `?` or an interval
abbrev pub IsRepeat : List ℕ → ℕ → Option ℕ → Type 0
IsRepeat w m n =
    ((w ≡ 42 ∷ []) × (m ≡ 0) × (n ≡ None))
    ⊎ (((w ≡ 43 ∷ []) × (m ≡ 1) × (n ≡ None))
    ⊎ (((w ≡ 63 ∷ []) × (m ≡ 0) × (n ≡ Some 1))
    ⊎ ((v : List ℕ) × (w ≡ 123 ∷ (v ++ 125 ∷ [])) × IsInterval v m n)))
