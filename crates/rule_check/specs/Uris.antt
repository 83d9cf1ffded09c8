-- Which bytes are a URI (RFC 3986, section 3).
use Rattle.std.specs.Prelude.{◌≡◌, ℕ, ◌<◌, Bool, true, ◌&&◌, ◌||◌, ◌==◌, nat_le, List, ◌∷◌, ◌++◌, length}
use Rattle.std.specs.Char.{is_ascii_alphabetic, is_ascii_digit}
use Rattle.std.specs.List.{AllPass}

-- a byte of a scheme after its first letter (RFC 3986, 3.1)
abbrev pub is_scheme_byte : ℕ → Bool
is_scheme_byte b = is_ascii_alphabetic b || is_ascii_digit b || b == 43 || b == 45 || b == 46

abbrev pub is_visible : ℕ → Bool
is_visible b = nat_le 33 b && nat_le b 126

-- a URI: a letter, letters, digits, `+`, `-` or `.`, a colon, and at least one byte, all visible (RFC 3986, 3)
pub record IsUri (bytes : List ℕ) : Type 0 where
  pub first : ℕ
  pub scheme : List ℕ
  pub rest : List ℕ
  pub parts : bytes ≡ first ∷ (scheme ++ 58 ∷ rest)
  pub letter : is_ascii_alphabetic first ≡ true
  pub scheme_bytes : AllPass is_scheme_byte scheme
  pub some : 0 < length rest
  pub visible : AllPass is_visible rest

-- a scheme: a letter, then letters, digits, `+`, `-` or `.` (RFC 3986, 3.1)
abbrev pub IsScheme : List ℕ → Type 0
IsScheme bytes = (first : ℕ) × (rest : List ℕ) × (bytes ≡ first ∷ rest) × (is_ascii_alphabetic first ≡ true) × AllPass is_scheme_byte rest
