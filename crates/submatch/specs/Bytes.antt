-- What stands for at most one byte, and the stretches of a text that it covers (IEEE 1003.1, Base Definitions, 9.4).
use Rattle.std.specs.Prelude.{◌≡◌, ℕ, ◌+◌, ◌==◌, Bool, true, false, ◌||◌, not, List, length, Some, slice_get, IsTrue}
use Rattle.std.specs.List.{list_any}
use Rattle.std.specs.Char.{to_ascii_lowercase, to_ascii_uppercase}
use Rattle.posix_ere.specs.Tree.{Atom, byte, any, set, start, end}

-- whether a bracket lists the byte
abbrev pub is_listed : List ℕ → ℕ → Bool
is_listed bytes b = list_any (λ x. x == b) bytes

-- the test of the byte or, with fold, of either case of it; cases are those of A to Z alone (RFC 3402, flag `i`)
abbrev pub passes : Bool → (ℕ → Bool) → ℕ → Bool
passes false test b = test b
passes true test b = test (to_ascii_lowercase b) || test (to_ascii_uppercase b)

-- whether it takes the byte: any byte passes a dot, and with fold a negated bracket takes one of which neither case is listed
abbrev pub takes : Bool → Atom → ℕ → Bool
takes fold (byte x) b = passes fold (λ y. y == x) b
takes fold any b = true
takes fold (set false bytes) b = passes fold (is_listed bytes) b
takes fold (set true bytes) b = not (passes fold (is_listed bytes) b)
takes fold start b = false
takes fold end b = false

-- it covers the one byte at i, and the byte passes the test
abbrev pub CoversByte : (ℕ → Bool) → List ℕ → ℕ → ℕ → Type 0
CoversByte test w i j = (j ≡ i + 1) × (b : ℕ) × (slice_get w i ≡ Some b) × IsTrue (test b)

-- it covers the text w from i to j: one byte that it takes, or nothing at one end of the text
abbrev pub Covers : Bool → List ℕ → Atom → ℕ → ℕ → Type 0
Covers fold w start i j = (i ≡ 0) × (j ≡ 0)
Covers fold w end i j = (i ≡ length w) × (j ≡ length w)
Covers fold w x i j = CoversByte (takes fold x) w i j
